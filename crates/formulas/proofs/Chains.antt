-- Steps of a chain of operands.
use Rattle.std.proofs.Common.{◌≡◌, ℕ, zero, suc, ◌+◌, ◌-◌, ◌<◌, ◌≤◌, min, List, [], ◌∷◌, length, drop, Some, None, Option, refl, ap, ◌∙◌, subst, arith}
use Rattle.std.proofs.lemmas.Bool.{cond_both}
use Rattle.lexer.specs.declared.tokens.Class.TheVariants.{Space}
use Rattle.lexer.specs.declared.tokens.Sign.{Sign}
use Rattle.lexer.specs.Bytes.{belongs}
use Rattle.lexer.specs.Faults.{Fault}
use Rattle.lexer.specs.Tokens.{Placed, piece_at, more, scan, pieces_from}
use Rattle.formulas.specs.Sentences.{Sentence}
use Rattle.formulas.specs.Reading.{Outcome, fault, parsed, Reader, bind, perhaps}
use Rattle.formulas.specs.Readers.{chain}
use Rattle.formulas.specs.Stores.{Store, write}
use Rattle.formulas.specs.Steps.{Keeps, Looked, Moved}

module _ (s : Sign) (join : Sentence → Sentence → Sentence) (operand : Reader Sentence) where
  abbrev go : ℕ → Sentence → Option ℕ → Reader Sentence
  go n f o rest = elim o [ None ↦ parsed f rest | Some c ↦ bind (operand rest) (λ g. chain s join operand n (join f g)) ]

  pub chain_stop : (n : ℕ) (f : Sentence) (ps : List Placed) → 0 < n → perhaps s ps ≡ parsed None ps → chain s join operand n f ps ≡ parsed f ps
  unfolding chain
  chain_stop zero f ps h e = absurd (omega arith)
  chain_stop (suc n) f ps h e = ap (λ o. bind o (go n f)) e

  pub chain_fault : (n : ℕ) (f : Sentence) (ps : List Placed) (x : Fault) → 0 < n → perhaps s ps ≡ fault x → chain s join operand n f ps ≡ fault x
  unfolding chain
  chain_fault zero f ps x h e = absurd (omega arith)
  chain_fault (suc n) f ps x h e = ap (λ o. bind o (go n f)) e

  pub chain_more : (n : ℕ) (f g : Sentence) (ps rest rest' : List Placed) (c : ℕ) → 0 < n → perhaps s ps ≡ parsed (Some c) rest → operand rest ≡ parsed g rest'
      → chain s join operand n f ps ≡ chain s join operand (n - 1) (join f g) rest'
  unfolding chain
  chain_more zero f g ps rest rest' c h e d = absurd (omega arith)
  chain_more (suc n) f g ps rest rest' c h e d =
      ap (λ o. bind o (go n f)) e ∙ ap (λ o. bind o (λ y. chain s join operand n (join f y))) d
      ∙ ap (λ m. chain s join operand m (join f g) rest') (let q : n ≡ suc n - 1 = omega arith in q)

  pub chain_breaks : (n : ℕ) (f : Sentence) (ps rest : List Placed) (c : ℕ) (x : Fault) → 0 < n → perhaps s ps ≡ parsed (Some c) rest → operand rest ≡ fault x
      → chain s join operand n f ps ≡ fault x
  unfolding chain
  chain_breaks zero f ps rest c x h e d = absurd (omega arith)
  chain_breaks (suc n) f ps rest c x h e d = ap (λ o. bind o (go n f)) e ∙ ap (λ o. bind o (λ y. chain s join operand n (join f y))) d

  -- with no pieces left nothing is joined, whatever the fuel
  pub chain_ends : (n : ℕ) (f : Sentence) (ps : List Placed) → length ps ≤ n → perhaps s ps ≡ parsed None ps → chain s join operand n f ps ≡ parsed f ps
  unfolding chain
  chain_ends zero f ps h e = refl
  chain_ends (suc n) f ps h e = chain_stop (suc n) f ps (omega arith) e

scan_some : (k c : ℕ) (bs : List ℕ) → 0 < length (scan k c bs)
scan_some k c [] = omega arith
scan_some zero c (b ∷ bs) = cond_both (belongs Space b) (scan 0 (c + 1) bs) (record { piece = piece_at b bs; column = c } ∷ scan (more b bs) (c + 1) bs) (λ l. 0 < length l) (λ _. scan_some 0 (c + 1) bs) (λ _. omega arith)
scan_some (suc k) c (b ∷ bs) = scan_some k (c + 1) bs

pub pieces_some : (line : List ℕ) (from : ℕ) → 0 < length (pieces_from line from)
unfolding pieces_from
pieces_some line from = scan_some 0 (min from (length line) + 1) (drop from line)

-- the sign is found only where pieces are left, and so is a fault
pub sign_some : (s : Sign) (ps rest : List Placed) (c : ℕ) → perhaps s ps ≡ parsed (Some c) rest → 0 < length ps
unfolding perhaps
sign_some s [] rest c e = absurd (let q : ◌≡◌ {A = Option ℕ} None (Some c) = cc in let z : ◌≡◌ {A = ℕ} 0 1 = cc in omega arith)
sign_some s (p ∷ ps) rest c e = omega arith

pub fault_some : (s : Sign) (ps : List Placed) (x : Fault) → perhaps s ps ≡ fault x → 0 < length ps
unfolding perhaps
fault_some s [] x e = absurd (let z : ◌≡◌ {A = ℕ} 0 1 = cc in omega arith)
fault_some s (p ∷ ps) x e = omega arith

-- how far a loop over operands has come, from a formula f with the pieces `from` left, which was written after `before`
pub record Chained (s : Sign) (join : Sentence → Sentence → Sentence) (operand : Reader Sentence) (f : Sentence) (from : List Placed) (before : Store) (rest : List Placed) (after : Store) : Type 0 where
  pub formula : Sentence
  pub fuel : ℕ
  pub enough : length rest ≤ fuel
  pub so_far : chain s join operand (length from) f from ≡ chain s join operand fuel formula rest
  pub written : after ≡ write formula before

pub record Going (s : Sign) (join : Sentence → Sentence → Sentence) (operand : Reader Sentence) (from : List Placed) (start : Store) (rest : List Placed) (after : Store) : Type 0 where
  pub chained : (f : Sentence) (before : Store) → start ≡ write f before → Chained s join operand f from before rest after
  pub fewer : length rest ≤ length from
  pub keeps : Keeps start after

-- what was found when looking for a sign
pub found_some : {o : Outcome (Option ℕ)} {found : Option ℕ} {ps rest : List Placed} (c : ℕ) → Looked o found ps rest → found ≡ Some c → (o ≡ parsed (Some c) rest) × (length rest < length ps)
found_some {o} {found} {ps} {rest} c l e = (l.is ∙ ap (λ f. parsed f rest) e, let P : Option ℕ → Type 0 = λ f. Moved f ps rest in subst P e l.moved)

pub found_none : {o : Outcome (Option ℕ)} {found : Option ℕ} {ps rest : List Placed} → Looked o found ps rest → found ≡ None → (o ≡ parsed None rest) × (rest ≡ ps)
found_none {o} {found} {ps} {rest} l e = (l.is ∙ ap (λ f. parsed f rest) e, let P : Option ℕ → Type 0 = λ f. Moved f ps rest in subst P e l.moved)
