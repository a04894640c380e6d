-- Operands joined by a sign are read by a regular reader, if each of them is.
use Rattle.std.proofs.Common.{◌≡◌, ℕ, zero, suc, ◌-◌, ◌<◌, ◌≤◌, List, [], ◌∷◌, ◌++◌, length, Some, None, Option, sym, refl, ap, ◌∙◌, subst, arith}
use Rattle.lexer.specs.declared.tokens.Sign.{Sign}
use Rattle.lexer.specs.Faults.{Fault}
use Rattle.lexer.specs.Tokens.{Placed}
use Rattle.formulas.specs.Reading.{Outcome, fault, parsed, Reader, bind, perhaps}
use Rattle.formulas.specs.Readers.{chain, joined}
use Rattle.formulas.specs.Sentences.{Sentence}
use Rattle.formulas.proofs.Chains.{chain_stop, chain_fault, chain_more, chain_breaks}
use Rattle.grammar.proofs.Sound.{no_parse, same_rest, perhaps_none, perhaps_some}
use Rattle.grammar.proofs.Fillers.{Closes, part}
use Rattle.grammar.proofs.Regular.{Regular, gives, then_regular}
use Rattle.grammar.proofs.Heads.{goes, perhaps_regular, perhaps_like}

-- nothing is left that was not there
abbrev pub Shrinks : {X : Type 0} → Reader X → Type 0
Shrinks {X} read = (ps : List Placed) (x : X) (rest : List Placed) → read ps ≡ parsed x rest → length rest ≤ length ps

module _ (s : Sign) (closing : (rest : List Placed) → Closes rest → perhaps s rest ≡ parsed None rest) (join : Sentence → Sentence → Sentence) (operand : Reader Sentence) (shrinks : Shrinks operand) where
  -- no operand more would be read, with however many pieces left
  abbrev Settled : Outcome Sentence → Type 0
  Settled (fault e) = Unit {0}
  Settled (parsed y rest) = perhaps s rest ≡ parsed None rest

  stops_there : (m : ℕ) (x : Sentence) (ps : List Placed) → perhaps s ps ≡ parsed None ps → chain s join operand m x ps ≡ parsed x ps
  unfolding chain
  stops_there zero x ps e = refl
  stops_there (suc m) x ps e = chain_stop s join operand (suc m) x ps (omega arith) e

  some_left : (ps : List Placed) (f : Fault) → perhaps s ps ≡ fault f → 0 < length ps
  unfolding perhaps
  some_left [] f e = absurd (no_parse f None [] (sym e))
  some_left (p ∷ ps) f e = omega arith

  -- a chain that is settled gives the same where more operands could be read
  settle : (n : ℕ) (x : Sentence) (ps : List Placed) (o : Outcome Sentence) (m : ℕ) → chain s join operand n x ps ≡ o → Settled o → length ps ≤ m → chain s join operand m x ps ≡ o
  unfolding chain
  settle zero x ps o m e done h = let P : Outcome Sentence → Type 0 = λ o. Settled o in stops_there m x ps (subst P (sym e) done) ∙ e
  settle (suc n) x ps o m e done h = by (perhaps s ps) refl e (settle n)
    where
      next : Option ℕ → Reader Sentence
      next o rest = elim o [ None ↦ parsed x rest | Some c ↦ bind (operand rest) (λ y. chain s join operand n (join x y)) ]

      Below : Type 0
      Below = (x : Sentence) (ps : List Placed) (o : Outcome Sentence) (m : ℕ) → chain s join operand n x ps ≡ o → Settled o → length ps ≤ m → chain s join operand m x ps ≡ o

      more : (c : ℕ) (r : List Placed) → perhaps s ps ≡ parsed (Some c) r → (q : Outcome Sentence) → operand r ≡ q → bind q (λ y. chain s join operand n (join x y)) ≡ o → Below → chain s join operand m x ps ≡ o
      more c r is (fault f) was e below =
          let longer = ap length (perhaps_some s ps r c is).stands in
          chain_breaks s join operand m x ps r c f (omega arith) is was ∙ e
      more c r is (parsed y r') was e below =
          let longer = ap length (perhaps_some s ps r c is).stands in
          let fewer = shrinks r y r' was in
          chain_more s join operand m x y ps r r' c (omega arith) is was ∙ below (join x y) r' o (m - 1) e done (omega arith)

      by : (q : Outcome (Option ℕ)) → perhaps s ps ≡ q → bind q next ≡ o → Below → chain s join operand m x ps ≡ o
      by (fault f) is e below = let some = some_left ps f is in chain_fault s join operand m x ps f (omega arith) is ∙ e
      by (parsed None r) is e below = let there = perhaps_none s ps r is in stops_there m x ps (is ∙ ap (parsed None) there) ∙ ap (parsed x) (sym there) ∙ e
      by (parsed (Some c) r) is e below = more c r is (operand r) refl e below

  -- with as many operands as pieces left a chain is settled
  settled : (n : ℕ) (x : Sentence) (ps : List Placed) (y : Sentence) (rest : List Placed) → chain s join operand n x ps ≡ parsed y rest → length ps ≤ n → perhaps s rest ≡ parsed None rest
  unfolding chain perhaps
  settled zero x [] y rest e h = let there = same_rest x y [] rest e in let P : List Placed → Type 0 = λ l. perhaps s l ≡ parsed None l in subst P there refl
  settled zero x (p ∷ ps) y rest e h = absurd (omega arith)
  settled (suc n) x ps y rest e h = by (perhaps s ps) refl e (settled n)
    where
      next : Option ℕ → Reader Sentence
      next o rest = elim o [ None ↦ parsed x rest | Some c ↦ bind (operand rest) (λ y. chain s join operand n (join x y)) ]

      Below : Type 0
      Below = (x : Sentence) (ps : List Placed) (y : Sentence) (rest : List Placed) → chain s join operand n x ps ≡ parsed y rest → length ps ≤ n → perhaps s rest ≡ parsed None rest

      more : (c : ℕ) (r : List Placed) → perhaps s ps ≡ parsed (Some c) r → (q : Outcome Sentence) → operand r ≡ q → bind q (λ y. chain s join operand n (join x y)) ≡ parsed y rest → Below → perhaps s rest ≡ parsed None rest
      more c r is (fault f) was e below = absurd (no_parse f y rest e)
      more c r is (parsed z r') was e below =
          let longer = ap length (perhaps_some s ps r c is).stands in
          let fewer = shrinks r z r' was in
          below (join x z) r' y rest e (omega arith)

      by : (q : Outcome (Option ℕ)) → perhaps s ps ≡ q → bind q next ≡ parsed y rest → Below → perhaps s rest ≡ parsed None rest
      by (fault f) is e below = absurd (no_parse f y rest e)
      by (parsed None r) is e below =
          let P : List Placed → Type 0 = λ l. perhaps s l ≡ parsed None l in
          let there = perhaps_none s ps r is in
          subst P (sym there ∙ same_rest x y r rest e) (is ∙ ap (parsed None) there)
      by (parsed (Some c) r) is e below = more c r is (operand r) refl e below

  module _ (r : Regular part operand) where
    chain_regular : (n : ℕ) (x : Sentence) → Regular part (chain s join operand n x)
    unfolding chain
    chain_regular zero x = gives x
    chain_regular (suc n) x =
        perhaps_regular s closing (λ o rest. elim o [ None ↦ parsed x rest | Some c ↦ bind (operand rest) (λ y. chain s join operand n (join x y)) ]) x refl
        (λ c. goes (then_regular operand (λ y. chain s join operand n (join x y)) r part (λ y. chain_regular n (join x y))))

    -- at most n operands more
    abbrev joined_up_to : ℕ → Reader Sentence
    joined_up_to n ps = bind (operand ps) (λ x. chain s join operand n x)

    up_to_regular : (n : ℕ) → Regular part (joined_up_to n)
    up_to_regular n = then_regular operand (λ x. chain s join operand n x) r part (λ x. chain_regular n x)

    joined_as : (n : ℕ) (ps : List Placed) (o : Outcome Sentence) → joined_up_to n ps ≡ o → Settled o → joined s join operand ps ≡ o
    joined_as n ps o e done = by (operand ps) e
      where
        by : (q : Outcome Sentence) → bind q (λ x. chain s join operand n x) ≡ o → bind q (λ x rest. chain s join operand (length rest) x rest) ≡ o
        by (fault f) e = e
        by (parsed x rest) e = settle n x rest o (length rest) e done (omega arith)

    -- how many operands more there are at most
    abbrev enough : Outcome Sentence → ℕ
    enough o = elim o [ fault f ↦ 0 | parsed x rest ↦ length rest ]

    as_joined : (o : Outcome Sentence) → bind o (λ x. chain s join operand (enough o) x) ≡ bind o (λ x rest. chain s join operand (length rest) x rest)
    as_joined (fault f) = refl
    as_joined (parsed x rest) = refl

    joined_settled : (q : Outcome Sentence) (y : Sentence) (rest : List Placed) → bind q (λ x rest. chain s join operand (length rest) x rest) ≡ parsed y rest → perhaps s rest ≡ parsed None rest
    joined_settled (fault f) y rest e = absurd (no_parse f y rest e)
    joined_settled (parsed x mid) y rest e = settled (length mid) x mid y rest e (omega arith)

    pub joined_regular : Regular part (joined s join operand)
    joined_regular =
        record {
          begins =
              let b = (up_to_regular 0).begins in
              record { value = b.value; more = b.more; reads = λ ms after c p. joined_as 0 ms (parsed b.value after) (b.reads ms after c p) (closing after c) };
          reading = λ ps ended y rest e.
              let n = enough (operand ps) in
              let a = (up_to_regular n).reading ps ended y rest (as_joined (operand ps) ∙ e) in
              record {
                front = a.front;
                split = a.split;
                again = λ rest' l. joined_as n (a.front ++ rest') (parsed y rest') (a.again rest' l) (perhaps_like s closing rest rest' l (joined_settled (operand ps) y rest e));
                ended = a.ended;
              };
          stops = λ ps ended e is.
              let n = enough (operand ps) in
              let a = (up_to_regular n).stops ps ended e (as_joined (operand ps) ∙ is) in
              record {
                front = a.front;
                here = a.here;
                rest = a.rest;
                split = a.split;
                column = a.column;
                again = λ more. joined_as n (a.front ++ a.here ∷ more) (fault e) (a.again more) tt;
                value = a.value;
                more = a.more;
                completes = λ ms after c p. joined_as n (a.front ++ ms) (parsed a.value after) (a.completes ms after c p) (closing after c);
              };
        }
