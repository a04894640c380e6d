-- Formulas are read by regular readers.
use Rattle.std.proofs.Common.{◌≡◌, ℕ, zero, suc, ◌≤◌, List, [], ◌∷◌, length, Some, None, Option, sym, refl, ap, subst, arith, length-append}
use Rattle.lexer.specs.declared.tokens.Sign.TheVariants as mark
use Rattle.formulas.specs.declared.words.Keyword.{Keyword}
use Rattle.formulas.specs.declared.words.Keyword.TheVariants as key
use Rattle.lexer.specs.Tokens.{Piece, number, word, sign, bad, done, Placed}
use Rattle.formulas.specs.Reading.{parsed, Reader, bind, at, a_number, perhaps, the_sign}
use Rattle.formulas.specs.Readers.{keyword, word_in, value_in, term_in, term_with, term, conjunction, disjunction, disjunction_by}
use Rattle.formulas.specs.Sentences.{Sentence, truth, fact, equals, neg, both, either, knows, values}
use Rattle.grammar.specs.Faults.{Inside}
use Rattle.grammar.proofs.Sound.{Sound, term_sound, conjunction_sound}
use Rattle.grammar.proofs.Fillers.{true_here, equals_here, dot_here, close_here, puts_none, puts_first, part}
use Rattle.grammar.proofs.Regular.{Begins, Regular, gives, then_regular}
use Rattle.grammar.proofs.Heads.{Head, wrong, takes, headed, number_regular, sign_regular, goes, stuck, perhaps_regular}
use Rattle.grammar.proofs.Operands.{Shrinks, joined_regular}

-- what stands one level down is read by a regular reader
abbrev DeeperRegular : Option (Reader Sentence) → Type 0
DeeperRegular None = Unit {0}
DeeperRegular (Some t) = Regular part t × Regular part (disjunction_by t)

-- a piece begins a term, or is a fault
data Entry (i : Option (Reader Sentence)) (c : ℕ) (q : Piece) : Type 0 where
  misplaced : (n : ℕ) → ((l : List Placed) → term_in i c q l ≡ at n c) → Entry i c q
  begins_term : Inside q → Regular part (term_in i c q) → Entry i c q

module _ (i : Option (Reader Sentence)) (c : ℕ) where
  abbrev quantity : ℕ → Reader Sentence
  quantity q r = bind (the_sign mark.Equals r) (λ _ r. bind (a_number r) (λ v. parsed (equals q v)))

  quantity_regular : (q : ℕ) → Regular part (quantity q)
  unfolding the_sign
  quantity_regular q =
      sign_regular part mark.Equals equals_here (λ c l. refl) (λ r. bind (a_number r) (λ v. parsed (equals q v)))
      (then_regular a_number (λ v. parsed (equals q v)) number_regular part (λ v. gives (equals q v)))

  -- by the word that it is
  word_entry : (w : List ℕ) (k : Option Keyword) → keyword w ≡ k → Entry i c (word w)
  word_entry w (Some key.True) is = begins_term tt (let P : Option Keyword → Type 0 = λ k. Regular part (word_in c k) in subst P (sym is) (gives truth))
  word_entry w (Some key.Fact) is = begins_term tt (let P : Option Keyword → Type 0 = λ k. Regular part (word_in c k) in subst P (sym is) (then_regular a_number (λ n. parsed (fact n)) number_regular part (λ n. gives (fact n))))
  word_entry w (Some key.Quantity) is = begins_term tt (let P : Option Keyword → Type 0 = λ k. Regular part (word_in c k) in subst P (sym is) (then_regular a_number quantity number_regular part quantity_regular))
  word_entry w None is = misplaced 14 (λ l. ap (λ k. word_in c k l) is)

-- what follows `V p.q`
condition_regular : (i : Option (Reader Sentence)) → DeeperRegular i → (p q : ℕ) → Regular part (λ r. bind (perhaps mark.Slash r) (value_in i p q))
condition_regular None d p q = perhaps_regular mark.Slash (λ rest c. c.slash) (value_in None p q) (values p q truth) refl (λ c. stuck 15 (λ l. refl))
condition_regular (Some t) d p q =
    perhaps_regular mark.Slash (λ rest c. c.slash) (value_in (Some t) p q) (values p q truth) refl
    (λ c. goes (then_regular t (λ x. parsed (values p q x)) d.0 part (λ x. gives (values p q x))))

value_regular : (i : Option (Reader Sentence)) → DeeperRegular i → (c : ℕ) → Regular part (term_in i c (sign mark.Value))
unfolding the_sign
value_regular i d c =
    let K₃ : ℕ → ℕ → Reader Sentence = λ p q r. bind (perhaps mark.Slash r) (value_in i p q) in
    let K₂ : ℕ → ℕ → Reader Sentence = λ p _ r. bind (a_number r) (K₃ p) in
    let K₁ : ℕ → Reader Sentence = λ p r. bind (the_sign mark.Dot r) (K₂ p) in
    then_regular a_number K₁ number_regular part
    (λ p. sign_regular part mark.Dot dot_here (λ c l. refl) (λ r. bind (a_number r) (K₃ p)) (then_regular a_number (K₃ p) number_regular part (λ q. condition_regular i d p q)))

group_regular : (x : Sentence) → Regular part (λ r. bind (the_sign mark.Close r) (λ _. parsed x))
unfolding the_sign
group_regular x = sign_regular part mark.Close close_here (λ c l. refl) (parsed x) (gives x)

entry : (i : Option (Reader Sentence)) → DeeperRegular i → (c : ℕ) (q : Piece) → Entry i c q
entry i d c (number ds) = misplaced 14 (λ l. refl)
entry i d c (word w) = word_entry i c w (keyword w) refl
entry i d c (bad n) = misplaced n (λ l. refl)
entry i d c done = misplaced 14 (λ l. refl)
entry None d c (sign mark.Not) = misplaced 15 (λ l. refl)
entry (Some t) d c (sign mark.Not) = begins_term tt (then_regular t (λ x. parsed (neg x)) d.0 part (λ x. gives (neg x)))
entry None d c (sign mark.Knows) = misplaced 15 (λ l. refl)
entry (Some t) d c (sign mark.Knows) =
    begins_term tt (then_regular a_number (λ p r. bind (t r) (λ x. parsed (knows p x))) number_regular part (λ p. then_regular t (λ x. parsed (knows p x)) d.0 part (λ x. gives (knows p x))))
entry None d c (sign mark.Open) = misplaced 15 (λ l. refl)
entry (Some t) d c (sign mark.Open) =
    begins_term tt (then_regular (disjunction_by t) (λ x r. bind (the_sign mark.Close r) (λ _. parsed x)) d.1 part group_regular)
entry i d c (sign mark.Value) = begins_term tt (value_regular i d c)
entry i d c (sign mark.And) = misplaced 14 (λ l. refl)
entry i d c (sign mark.Or) = misplaced 14 (λ l. refl)
entry i d c (sign mark.Close) = misplaced 14 (λ l. refl)
entry i d c (sign mark.Dot) = misplaced 14 (λ l. refl)
entry i d c (sign mark.Slash) = misplaced 14 (λ l. refl)
entry i d c (sign mark.Equals) = misplaced 14 (λ l. refl)
entry i d c (sign mark.Minus) = misplaced 14 (λ l. refl)

-- `true` is a term
term_begins : (i : Option (Reader Sentence)) → Begins part (term_with i)
unfolding keyword
term_begins i = record { value = truth; more = true_here ∷ []; reads = λ ms after c p. puts_first p (λ l. term_with i l ≡ parsed truth after) (λ d l q. ap (parsed truth) (puts_none q)) }

term_with_regular : (i : Option (Reader Sentence)) → DeeperRegular i → Regular part (term_with i)
term_with_regular i d = headed part (term_with i) (λ p. head p (entry i d p.column p.piece)) (term_begins i)
  where
    head : (p : Placed) → Entry i p.column p.piece → Head part (term_with i) p
    head p (misplaced n all) = wrong n all
    head p (begins_term inside r) = takes inside (term_in i p.column p.piece) r (λ l. refl)

sound_shrinks : (D : Sentence → List Placed → Type 0) (x : Sentence) (ps rest : List Placed) → Sound D x ps rest → length rest ≤ length ps
sound_shrinks D x ps rest s = omega (arith, ap length s.split, length-append s.front rest)

term_shrinks : (n : ℕ) → Shrinks (term n)
term_shrinks n ps x rest e = sound_shrinks _ x ps rest (term_sound n ps x rest e)

disjunction_over : (n : ℕ) → Regular part (term n) → Regular part (disjunction n)
disjunction_over n r =
    joined_regular mark.Or (λ rest c. c.or) either (conjunction n) (λ ps x rest e. sound_shrinks _ x ps rest (conjunction_sound n (term_sound n) ps x rest e))
    (joined_regular mark.And (λ rest c. c.and) both (term n) (term_shrinks n) r)

term_regular : (n : ℕ) → Regular part (term n)
unfolding term
term_regular zero = term_with_regular None tt
term_regular (suc n) = term_with_regular (Some (term n)) (term_regular n, disjunction_over n (term_regular n))

pub disjunction_regular : (n : ℕ) → Regular part (disjunction n)
disjunction_regular n = disjunction_over n (term_regular n)
