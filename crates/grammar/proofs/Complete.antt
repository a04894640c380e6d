-- Each sentence is read as the formula that it writes.
use Rattle.std.proofs.Common.{◌≡◌, ℕ, ◌-◌, ◌<◌, ◌≤◌, List, [], ◌∷◌, ◌++◌, length, Some, None, refl, ap, ◌∙◌, append_assoc, arith, length-append}
use Rattle.lexer.specs.declared.tokens.Sign.{Sign}
use Rattle.lexer.specs.declared.tokens.Sign.TheVariants as mark
use Rattle.lexer.specs.Bytes.{value_of}
use Rattle.formulas.specs.Readers.{chain, word_in, value_in, inner, term, conjunction, disjunction}
use Rattle.lexer.specs.Tokens.{number, word, sign, Placed}
use Rattle.formulas.specs.Sentences.{Sentence, neg, both, either, knows, values}
use Rattle.formulas.specs.Reading.{Outcome, parsed, Reader, bind, a_number, the_sign, perhaps}
use Rattle.grammar.specs.Grammar.{place, Term, always, of_fact, of_quantity, denied, known, valued, valued_if, grouped, Conjunction, one_term, and_term, Disjunction, one_conjunction, or_conjunction}
use Rattle.formulas.proofs.Chains.{chain_stop, chain_more}
use Rattle.formulas.proofs.Steps.{term_is}

-- a chain that has read f, and goes on at rest
pub record Reaches (o : Outcome Sentence) (s : Sign) (join : Sentence → Sentence → Sentence) (operand : Reader Sentence) (f : Sentence) (rest : List Placed) : Type 0 where
  pub fuel : ℕ
  pub enough : length rest ≤ fuel
  pub is : o ≡ chain s join operand fuel f rest

none_left : (s : Sign) (join : Sentence → Sentence → Sentence) (operand : Reader Sentence) (f : Sentence) (rest : List Placed) (o : Outcome Sentence) → 0 < length rest → perhaps s rest ≡ parsed None rest → Reaches o s join operand f rest → o ≡ parsed f rest
none_left s join operand f rest o some e r = r.is ∙ chain_stop s join operand r.fuel f rest (omega (arith, r.enough)) e

one_more : (s : Sign) (join : Sentence → Sentence → Sentence) (operand : Reader Sentence) (f g : Sentence) (mid after rest : List Placed) (c : ℕ) (o : Outcome Sentence)
    → perhaps s mid ≡ parsed (Some c) after → operand after ≡ parsed g rest → length rest < length mid → Reaches o s join operand f mid → Reaches o s join operand (join f g) rest
one_more s join operand f g mid after rest c o e d h r =
    let room = r.enough in
    record { fuel = r.fuel - 1; enough = omega arith; is = r.is ∙ chain_more s join operand r.fuel f g mid after rest c (omega arith) e d }

reaches_as : (o o' : Outcome Sentence) (s : Sign) (join : Sentence → Sentence → Sentence) (operand : Reader Sentence) (f : Sentence) (rest : List Placed) → o ≡ o' → Reaches o' s join operand f rest → Reaches o s join operand f rest
reaches_as o o' s join operand f rest e r = record { fuel = r.fuel; enough = r.enough; is = e ∙ r.is }

-- what comes next is no `/`
abbrev pub NoSlash : List Placed → Type 0
NoSlash rest = perhaps mark.Slash rest ≡ parsed None rest

abbrev pub NoAnd : List Placed → Type 0
NoAnd rest = perhaps mark.And rest ≡ parsed None rest

mutual
  unfolding term a_number the_sign perhaps

  pub term_reads : {n : ℕ} {f : Sentence} {ps : List Placed} → Term n f ps → (rest : List Placed) → NoSlash rest → term n (ps ++ rest) ≡ parsed f rest
  term_reads (always {n} {c} {w} k) rest e = term_is n (place (word w) c ∷ rest) ∙ ap (λ y. word_in c y rest) k
  term_reads (of_fact {n} {c} {d} {w} {ds} k) rest e = term_is n (place (word w) c ∷ place (number ds) d ∷ rest) ∙ ap (λ y. word_in c y (place (number ds) d ∷ rest)) k
  term_reads (of_quantity {n} {c} {d} {e} {g} {w} {ds} {es} k) rest h =
      let more = place (number ds) d ∷ place (sign mark.Equals) e ∷ place (number es) g ∷ rest in
      term_is n (place (word w) c ∷ more) ∙ ap (λ y. word_in c y more) k
  term_reads (denied t) rest e = ap (λ o. bind o (λ f. parsed (neg f))) (term_reads t rest e)
  term_reads (known {n} {c} {d} {ds} t) rest e = ap (λ o. bind o (λ f. parsed (knows (value_of ds) f))) (term_reads t rest e)
  term_reads (valued {n} {c} {d} {e} {g} {ds} {es}) rest h =
      term_is n (place (sign mark.Value) c ∷ place (number ds) d ∷ place (sign mark.Dot) e ∷ place (number es) g ∷ rest)
      ∙ ap (λ o. bind o (value_in (inner n) (value_of ds) (value_of es))) h
  term_reads (valued_if {n} {c} {d} {e} {g} {h} {ds} {es} t) rest b = ap (λ o. bind o (λ f. parsed (values (value_of ds) (value_of es) f))) (term_reads t rest b)
  term_reads (grouped {n} {c} {x = f} {ps} d t) rest e =
      ap (λ l. bind (disjunction n l) (λ g r. bind (the_sign mark.Close r) (λ _. parsed g))) (append_assoc ps (place (sign mark.Close) d ∷ []) rest)
      ∙ ap (λ o. bind o (λ g r. bind (the_sign mark.Close r) (λ _. parsed g)))
      (none_left mark.Or either (conjunction n) f (place (sign mark.Close) d ∷ rest) (disjunction n (ps ++ (place (sign mark.Close) d ∷ rest))) (omega arith) refl (disjunction_reads t (place (sign mark.Close) d ∷ rest) (omega arith) refl refl))

  pub conjunction_reads : {n : ℕ} {f : Sentence} {ps : List Placed} → Conjunction n f ps → (rest : List Placed) → NoSlash rest → Reaches (conjunction n (ps ++ rest)) mark.And both (term n) f rest
  conjunction_reads (one_term {n} t) rest e = record { fuel = length rest; enough = omega arith; is = ap (λ o. bind o (λ f r. chain mark.And both (term n) (length r) f r)) (term_reads t rest e) }
  conjunction_reads (and_term {n} {x = f} {y = g} {ps} {qs} c h t) rest e =
      reaches_as (conjunction n ((ps ++ place (sign mark.And) c ∷ qs) ++ rest)) (conjunction n (ps ++ (place (sign mark.And) c ∷ (qs ++ rest)))) mark.And both (term n) (both f g) rest (ap (conjunction n) (append_assoc ps (place (sign mark.And) c ∷ qs) rest))
      (one_more mark.And both (term n) f g (place (sign mark.And) c ∷ (qs ++ rest)) (qs ++ rest) rest c (conjunction n (ps ++ (place (sign mark.And) c ∷ (qs ++ rest)))) refl (term_reads t rest e) (omega (arith, length-append qs rest)) (conjunction_reads h (place (sign mark.And) c ∷ (qs ++ rest)) refl))

  pub disjunction_reads : {n : ℕ} {f : Sentence} {ps : List Placed} → Disjunction n f ps → (rest : List Placed) → 0 < length rest → NoSlash rest → NoAnd rest → Reaches (disjunction n (ps ++ rest)) mark.Or either (conjunction n) f rest
  disjunction_reads (one_conjunction {n} {x = f} {ps} h) rest some b e =
      record { fuel = length rest; enough = omega arith; is = ap (λ o. bind o (λ f r. chain mark.Or either (conjunction n) (length r) f r)) (none_left mark.And both (term n) f rest (conjunction n (ps ++ rest)) some e (conjunction_reads h rest b)) }
  disjunction_reads (or_conjunction {n} {x = f} {y = g} {ps} {qs} c h k) rest some b e =
      reaches_as (disjunction n ((ps ++ place (sign mark.Or) c ∷ qs) ++ rest)) (disjunction n (ps ++ (place (sign mark.Or) c ∷ (qs ++ rest)))) mark.Or either (conjunction n) (either f g) rest (ap (disjunction n) (append_assoc ps (place (sign mark.Or) c ∷ qs) rest))
      (one_more mark.Or either (conjunction n) f g (place (sign mark.Or) c ∷ (qs ++ rest)) (qs ++ rest) rest c (disjunction n (ps ++ (place (sign mark.Or) c ∷ (qs ++ rest)))) refl
      (none_left mark.And both (term n) g rest (conjunction n (qs ++ rest)) some e (conjunction_reads k rest b)) (omega (arith, length-append qs rest)) (disjunction_reads h (place (sign mark.Or) c ∷ (qs ++ rest)) (omega arith) refl refl))

-- a sentence before what ends a formula is read as its formula
pub sentence_reads : {n : ℕ} {f : Sentence} {ps : List Placed} → Disjunction n f ps → (rest : List Placed) → 0 < length rest → NoSlash rest → NoAnd rest → perhaps mark.Or rest ≡ parsed None rest → disjunction n (ps ++ rest) ≡ parsed f rest
sentence_reads {n} {f} {ps} d rest some b e o = none_left mark.Or either (conjunction n) f rest (disjunction n (ps ++ rest)) some o (disjunction_reads d rest some b e)
