-- What is answered to a later line, by how far it is read.
use Rattle.std.proofs.Common.{◌≡◌, ℕ, ◌<◌, ◌≤◌, Bool, true, false, not, leb, List, length, codes, refl, ap, ◌∙◌, sym, arith}
use Rattle.std.specs.Str.{bytes_eq}
use Rattle.std.proofs.lemmas.Bool.{cond-false, le-leb, cond-true, lt-leb}
use Rattle.lexer.specs.Faults.{Fault}
use Rattle.lexer.specs.Tokens.{Placed, pieces_from}
use Rattle.formulas.specs.Reading.{fault, parsed, bind, at, the_end}
use Rattle.lines.specs.Reading.{the_beginning, rest_of, following}
use Rattle.lines.specs.Firsts.{first_word}
use Rattle.text.specs.Calls.{verdict, call_word, call_rest, call_of}

-- what a test by != says of the word
pub differs : (b : Bool) → true ≡ not b → b ≡ false
differs true e = let z : ◌≡◌ {A = ℕ} 0 1 = cc in absurd (omega arith)
differs false e = refl

pub agrees : (b : Bool) → false ≡ not b → b ≡ true
agrees true e = refl
agrees false e = let z : ◌≡◌ {A = ℕ} 0 1 = cc in absurd (omega arith)

pub too_long : (line : List ℕ) → 200 < length line → call_of line ≡ at 11 0
unfolding first_word
too_long line h = ap (following call_word call_rest) (cond-false (leb (length line) 200) _ _ (lt-leb (length line) 200 h))

module _ (line : List ℕ) (ps : List Placed) (short : length line ≤ 200) (begins : ps ≡ pieces_from line 0) where
  read_on : call_of line ≡ following call_word call_rest (the_beginning ps)
  unfolding first_word
  read_on = ap (following call_word call_rest) (cond-true (leb (length line) 200) _ _ (le-leb (length line) 200 short) ∙ ap the_beginning (sym begins))

  -- no word stands there
  pub no_word : (f : Fault) → the_beginning ps ≡ fault f → call_of line ≡ fault f
  no_word f e = read_on ∙ ap (following call_word call_rest) e

  module _ (w : List ℕ) (c : ℕ) (rest : List Placed) (e : the_beginning ps ≡ parsed (record { letters = w; column = c }) rest) where
    -- a word that is not known
    pub no_call : bytes_eq w (codes "verdict") ≡ false → call_of line ≡ at 17 c
    unfolding call_word
    no_call h = read_on ∙ ap (following call_word call_rest) e ∙ ap (λ o. rest_of call_rest c o rest) (cond-false _ _ _ h)

    pub a_call : bytes_eq w (codes "verdict") ≡ true → call_of line ≡ bind (the_end rest) (λ _. parsed verdict)
    unfolding call_word
    a_call h = read_on ∙ ap (following call_word call_rest) e ∙ ap (λ o. rest_of call_rest c o rest) (cond-true _ _ _ h)
