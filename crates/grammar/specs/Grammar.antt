-- The grammar of formulas, from the tightest form to the loosest: which pieces write a sentence, with so many levels left to open.
use Rattle.std.specs.Prelude.{◌≡◌, ℕ, suc, List, [], ◌∷◌, ◌++◌, Some}
use Rattle.lexer.specs.declared.tokens.Sign.TheVariants as mark
use Rattle.lexer.specs.Bytes.{value_of}
use Rattle.lexer.specs.Tokens.{Piece, number, word, sign, Placed}
use Rattle.formulas.specs.declared.words.Keyword.TheVariants as key
use Rattle.formulas.specs.Readers.{keyword}
use Rattle.formulas.specs.Sentences.{Sentence, truth, fact, equals, neg, both, either, knows, values}

-- a piece at any column
abbrev pub place : Piece → ℕ → Placed
place p c = record { piece = p; column = c }

mutual
  -- true, f n, q n=v, ~T, K p T, V p.q, V p.q/T or (F)
  pub data Term : ℕ → Sentence → List Placed → Type 0 where
    always : {n c : ℕ} {w : List ℕ} → keyword w ≡ Some key.True → Term n truth (place (word w) c ∷ [])
    of_fact : {n c d : ℕ} {w ds : List ℕ} → keyword w ≡ Some key.Fact → Term n (fact (value_of ds)) (place (word w) c ∷ place (number ds) d ∷ [])
    of_quantity : {n c d e g : ℕ} {w ds es : List ℕ} → keyword w ≡ Some key.Quantity
        → Term n (equals (value_of ds) (value_of es)) (place (word w) c ∷ place (number ds) d ∷ place (sign mark.Equals) e ∷ place (number es) g ∷ [])
    denied : {n c : ℕ} {x : Sentence} {ps : List Placed} → Term n x ps → Term (suc n) (neg x) (place (sign mark.Not) c ∷ ps)
    known : {n c d : ℕ} {ds : List ℕ} {x : Sentence} {ps : List Placed} → Term n x ps → Term (suc n) (knows (value_of ds) x) (place (sign mark.Knows) c ∷ place (number ds) d ∷ ps)
    valued : {n c d e g : ℕ} {ds es : List ℕ}
        → Term n (values (value_of ds) (value_of es) truth) (place (sign mark.Value) c ∷ place (number ds) d ∷ place (sign mark.Dot) e ∷ place (number es) g ∷ [])
    valued_if : {n c d e g h : ℕ} {ds es : List ℕ} {x : Sentence} {ps : List Placed} → Term n x ps
        → Term (suc n) (values (value_of ds) (value_of es) x) (place (sign mark.Value) c ∷ place (number ds) d ∷ place (sign mark.Dot) e ∷ place (number es) g ∷ place (sign mark.Slash) h ∷ ps)
    grouped : {n c : ℕ} {x : Sentence} {ps : List Placed} (d : ℕ) → Disjunction n x ps → Term (suc n) x (place (sign mark.Open) c ∷ (ps ++ place (sign mark.Close) d ∷ []))

  -- T, or a conjunction & T
  pub data Conjunction : ℕ → Sentence → List Placed → Type 0 where
    one_term : {n : ℕ} {x : Sentence} {ps : List Placed} → Term n x ps → Conjunction n x ps
    and_term : {n : ℕ} {x y : Sentence} {ps qs : List Placed} (c : ℕ) → Conjunction n x ps → Term n y qs → Conjunction n (both x y) (ps ++ place (sign mark.And) c ∷ qs)

  -- a conjunction, or a disjunction | a conjunction
  pub data Disjunction : ℕ → Sentence → List Placed → Type 0 where
    one_conjunction : {n : ℕ} {x : Sentence} {ps : List Placed} → Conjunction n x ps → Disjunction n x ps
    or_conjunction : {n : ℕ} {x y : Sentence} {ps qs : List Placed} (c : ℕ) → Disjunction n x ps → Conjunction n y qs → Disjunction n (either x y) (ps ++ place (sign mark.Or) c ∷ qs)
