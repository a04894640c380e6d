-- What is read as a formula is a sentence that writes it.
use Rattle.std.proofs.Common.{◌≡◌, ℕ, zero, suc, eqb, List, [], ◌∷◌, ◌++◌, length, Some, None, Option, sym, refl, ap, ◌∙◌, subst, ⊎_elim, append_assoc, append-nil, arith}
use Rattle.std.proofs.lemmas.Bool.{cases_Bool, cond-true, cond-false, eqb-true}
use Rattle.lexer.specs.declared.tokens.Sign.{Sign}
use Rattle.lexer.specs.declared.tokens.Sign.TheVariants as mark
use Rattle.formulas.specs.declared.words.Keyword.{Keyword}
use Rattle.formulas.specs.declared.words.Keyword.TheVariants as key
use Rattle.lexer.specs.Faults.{Fault}
use Rattle.lexer.specs.Bytes.{value_of, sign_of}
use Rattle.formulas.specs.Readers.{keyword, chain, joined, word_in, value_in, inner, term, term_in, conjunction, disjunction}
use Rattle.lexer.specs.Tiles.{byte_of}
use Rattle.lexer.specs.Tokens.{Piece, number, word, sign, bad, done, Placed}
use Rattle.formulas.specs.Reading.{number_or, at, sign_in, the_sign_in, Outcome, fault, parsed, Reader, bind, a_number, the_sign, perhaps}
use Rattle.formulas.specs.Sentences.{Sentence, truth, fact, equals, neg, both, either, knows, values}
use Rattle.grammar.specs.Grammar.{place, Term, always, of_fact, of_quantity, denied, known, valued, valued_if, grouped, Conjunction, one_term, and_term, Disjunction, one_conjunction, or_conjunction}
use Rattle.grammar.specs.Laws.{SentencesRead}
use Rattle.formulas.proofs.Steps.{term_is}
use Rattle.grammar.proofs.Complete.{sentence_reads}
use Rattle.std.proofs.lemmas.List.{append_cancel_right}

pub no_parse : {X : Type 0} (x : Fault) (y : X) (ps : List Placed) → ◌≡◌ {A = Outcome X} (fault x) (parsed y ps) → ⊥
no_parse x y ps e = let z : ◌≡◌ {A = ℕ} 0 1 = cc in omega arith

pub same_value : {X : Type 0} (x y : X) (ps qs : List Placed) → parsed x ps ≡ parsed y qs → x ≡ y
same_value x y ps qs e = cc

pub same_rest : {X : Type 0} (x y : X) (ps qs : List Placed) → parsed x ps ≡ parsed y qs → ps ≡ qs
same_rest x y ps qs e = cc

-- an outcome that leads to a parse is one
pub record Was {X : Type 0} (o : Outcome X) : Type 0 where
  pub value : X
  pub rest : List Placed
  pub is : o ≡ parsed value rest

pub seen : {X Y : Type 0} (o : Outcome X) (k : X → Reader Y) (y : Y) (rest : List Placed) → bind o k ≡ parsed y rest → Was o
seen (fault x) k y rest e = absurd (no_parse x y rest e)
seen (parsed v r) k y rest e = record { value = v; rest = r; is = refl }

pub then : {X Y : Type 0} (o : Outcome X) (k : X → Reader Y) (y : Y) (rest : List Placed) → (e : bind o k ≡ parsed y rest) → (w : Was o) → k w.value w.rest ≡ parsed y rest
then o k y rest e w = sym (ap (λ q. bind q k) w.is) ∙ e

pub record Sound (D : Sentence → List Placed → Type 0) (f : Sentence) (ps rest : List Placed) : Type 0 where
  pub front : List Placed
  pub split : ps ≡ front ++ rest
  pub says : D f front

found : (D : Sentence → List Placed → Type 0) (g f : Sentence) (ps rest front : List Placed) → g ≡ f → ps ≡ front ++ rest → D g front → Sound D f ps rest
found D g f ps rest front e s d = record { front = front; split = s; says = let P : Sentence → Type 0 = λ k. D k front in subst P e d }

same_sign : (s t : Sign) → byte_of s ≡ byte_of t → s ≡ t
same_sign s t e = let h : Some s ≡ Some t = sym (back s) ∙ ap sign_of e ∙ back t in cc
  where
    back : (s : Sign) → sign_of (byte_of s) ≡ Some s
    back mark.Not = refl
    back mark.And = refl
    back mark.Or = refl
    back mark.Open = refl
    back mark.Close = refl
    back mark.Dot = refl
    back mark.Slash = refl
    back mark.Equals = refl
    back mark.Minus = refl
    back mark.Knows = refl
    back mark.Value = refl

-- a number that was read stands there
pub record Numbered (ps : List Placed) (v : ℕ) (rest : List Placed) : Type 0 where
  pub column : ℕ
  pub digits : List ℕ
  pub stands : ps ≡ place (number digits) column ∷ rest
  pub value : v ≡ value_of digits

pub numbered : (ps : List Placed) (v : ℕ) (rest : List Placed) → a_number ps ≡ parsed v rest → Numbered ps v rest
unfolding a_number
numbered [] v rest e = absurd (no_parse _ v rest e)
numbered (p ∷ ps) v rest e = go p.piece refl e
  where
    go : (q : Piece) → p.piece ≡ q → number_or p.column q (λ n. parsed n ps) (at 14 p.column) ≡ parsed v rest → Numbered (p ∷ ps) v rest
    go (number ds) is e = record { column = p.column; digits = ds; stands = (λ i. record { piece = is i; column = p.column } ∷ same_rest (value_of ds) v ps rest e i); value = sym (same_value (value_of ds) v ps rest e) }
    go (word w) is e = absurd (no_parse _ v rest e)
    go (sign s) is e = absurd (no_parse _ v rest e)
    go (bad k) is e = absurd (no_parse _ v rest e)
    go done is e = absurd (no_parse _ v rest e)

-- a sign that was read stands there
pub record Signed (s : Sign) (ps rest : List Placed) : Type 0 where
  pub column : ℕ
  pub stands : ps ≡ place (sign s) column ∷ rest

signed : (s : Sign) (ps : List Placed) (v : ℕ) (rest : List Placed) → the_sign s ps ≡ parsed v rest → Signed s ps rest
unfolding the_sign
signed s [] v rest e = absurd (no_parse _ v rest e)
signed s (p ∷ ps) v rest e = go p.piece refl e
  where
    go : (q : Piece) → p.piece ≡ q → the_sign_in s p.column q ps ≡ parsed v rest → Signed s (p ∷ ps) rest
    go (number ds) is e = absurd (no_parse _ v rest e)
    go (word w) is e = absurd (no_parse _ v rest e)
    go (sign t) is e =
        ⊎_elim
        (λ b. let h = sym (cond-true (eqb (byte_of s) (byte_of t)) _ _ b) ∙ e in
        record { column = p.column; stands = λ i. record { piece = (is ∙ ap sign (sym (same_sign s t (eqb-true (byte_of s) (byte_of t) b)))) i; column = p.column } ∷ same_rest p.column v ps rest h i })
        (λ b. absurd (no_parse _ v rest (sym (cond-false (eqb (byte_of s) (byte_of t)) _ _ b) ∙ e)))
        (cases_Bool (eqb (byte_of s) (byte_of t)))
    go (bad k) is e = absurd (no_parse _ v rest e)
    go done is e = absurd (no_parse _ v rest e)

-- a sign that may be next: it is not, and nothing is taken, or it stands there
pub perhaps_none : (s : Sign) (ps rest : List Placed) → perhaps s ps ≡ parsed None rest → rest ≡ ps
unfolding perhaps
perhaps_none s [] rest e = sym (same_rest None None [] rest e)
perhaps_none s (p ∷ ps) rest e = go p.piece e
  where
    go : (q : Piece) → sign_in s (p ∷ ps) p.column q ps ≡ parsed None rest → rest ≡ p ∷ ps
    go (number ds) e = sym (same_rest None None (p ∷ ps) rest e)
    go (word w) e = sym (same_rest None None (p ∷ ps) rest e)
    go (sign t) e =
        ⊎_elim
        (λ b. let h : parsed (Some p.column) ps ≡ parsed None rest = sym (cond-true (eqb (byte_of s) (byte_of t)) (parsed (Some p.column) ps) (parsed None (p ∷ ps)) b) ∙ e in
        let z : ◌≡◌ {A = ℕ} 0 1 = cc in absurd (omega arith))
        (λ b. sym (same_rest None None (p ∷ ps) rest (sym (cond-false (eqb (byte_of s) (byte_of t)) (parsed (Some p.column) ps) (parsed None (p ∷ ps)) b) ∙ e)))
        (cases_Bool (eqb (byte_of s) (byte_of t)))
    go (bad k) e = absurd (no_parse _ None rest e)
    go done e = sym (same_rest None None (p ∷ ps) rest e)

pub perhaps_some : (s : Sign) (ps rest : List Placed) (c : ℕ) → perhaps s ps ≡ parsed (Some c) rest → Signed s ps rest
unfolding perhaps
perhaps_some s [] rest c e = let z : ◌≡◌ {A = ℕ} 0 1 = cc in absurd (omega arith)
perhaps_some s (p ∷ ps) rest c e = go p.piece refl e
  where
    other : parsed None (p ∷ ps) ≡ parsed (Some c) rest → ⊥
    other e = let z : ◌≡◌ {A = ℕ} 0 1 = cc in omega arith

    go : (q : Piece) → p.piece ≡ q → sign_in s (p ∷ ps) p.column q ps ≡ parsed (Some c) rest → Signed s (p ∷ ps) rest
    go (number ds) is e = absurd (other e)
    go (word w) is e = absurd (other e)
    go (sign t) is e =
        ⊎_elim
        (λ b. let h = sym (cond-true (eqb (byte_of s) (byte_of t)) (parsed (Some p.column) ps) (parsed None (p ∷ ps)) b) ∙ e in
        record { column = p.column; stands = λ i. record { piece = (is ∙ ap sign (sym (same_sign s t (eqb-true (byte_of s) (byte_of t) b)))) i; column = p.column } ∷ same_rest (Some p.column) (Some c) ps rest h i })
        (λ b. absurd (other (sym (cond-false (eqb (byte_of s) (byte_of t)) (parsed (Some p.column) ps) (parsed None (p ∷ ps)) b) ∙ e)))
        (cases_Bool (eqb (byte_of s) (byte_of t)))
    go (bad k) is e = absurd (no_parse _ (Some c) rest e)
    go done is e = absurd (other e)

module _ (s : Sign) (join : Sentence → Sentence → Sentence) (operand : Reader Sentence) (One Many : Sentence → List Placed → Type 0)
    (sound : (ps : List Placed) (g : Sentence) (rest : List Placed) → operand ps ≡ parsed g rest → Sound One g ps rest)
    (step : (c : ℕ) (f g : Sentence) (ps qs : List Placed) → Many f ps → One g qs → Many (join f g) (ps ++ place (sign s) c ∷ qs)) where
  -- what a chain reads behind a sentence goes on with it
  pub record Goes (f : Sentence) (before ps rest : List Placed) : Type 0 where
    pub front : List Placed
    pub split : ps ≡ front ++ rest
    pub says : Many f (before ++ front)

  stays : (f g : Sentence) (before ps rest : List Placed) → Many f before → parsed f ps ≡ parsed g rest → Goes g before ps rest
  stays f g before ps rest d e =
      let P : List Placed → Type 0 = λ l. Many f l in
      let Q : Sentence → Type 0 = λ k. Many k (before ++ []) in
      record { front = []; split = same_rest f g ps rest e; says = subst Q (same_value f g ps rest e) (subst P (sym (append-nil before)) d) }

  pub chain_sound : (n : ℕ) (f g : Sentence) (before ps rest : List Placed) → Many f before → chain s join operand n f ps ≡ parsed g rest → Goes g before ps rest
  unfolding chain
  chain_sound zero f g before ps rest d e = stays f g before ps rest d e
  chain_sound (suc n) f g before ps rest d e = go (seen (perhaps s ps) _ g rest e) (chain_sound n)
    where
      next : Option ℕ → Reader Sentence
      next o r = elim o [ None ↦ parsed f r | Some c ↦ bind (operand r) (λ h. chain s join operand n (join f h)) ]

      more : (c : ℕ) (r : List Placed) → Signed s ps r → bind (operand r) (λ h. chain s join operand n (join f h)) ≡ parsed g rest
          → ((f g : Sentence) (before ps rest : List Placed) → Many f before → chain s join operand n f ps ≡ parsed g rest → Goes g before ps rest) → Goes g before ps rest
      more c r there k again =
          let w = seen (operand r) (λ h. chain s join operand n (join f h)) g rest k in
          let one = sound r w.value w.rest w.is in
          let mid = place (sign s) there.column ∷ one.front in
          let go = again (join f w.value) g (before ++ mid) w.rest rest (step there.column f w.value before one.front d one.says) (then (operand r) (λ h. chain s join operand n (join f h)) g rest k w) in
          let P : List Placed → Type 0 = λ l. Many g l in
          record {
            front = mid ++ go.front;
            split = there.stands ∙ ap (λ l. place (sign s) there.column ∷ l) (one.split ∙ ap (λ l. one.front ++ l) go.split ∙ sym (append_assoc one.front go.front rest));
            says = subst P (append_assoc before mid go.front) go.says;
          }

      at' : (o : Option ℕ) (r : List Placed) → perhaps s ps ≡ parsed o r → next o r ≡ parsed g rest
          → ((f g : Sentence) (before ps rest : List Placed) → Many f before → chain s join operand n f ps ≡ parsed g rest → Goes g before ps rest) → Goes g before ps rest
      at' None r is k again = stays f g before ps rest d (ap (parsed f) (sym (perhaps_none s ps r is)) ∙ k)
      at' (Some c) r is k again = more c r (perhaps_some s ps r c is) k again

      go : Was (perhaps s ps)
          → ((f g : Sentence) (before ps rest : List Placed) → Many f before → chain s join operand n f ps ≡ parsed g rest → Goes g before ps rest) → Goes g before ps rest
      go w again = at' w.value w.rest w.is (then (perhaps s ps) next g rest e w) again

  pub joined_sound : ((f : Sentence) (ps : List Placed) → One f ps → Many f ps) → (ps : List Placed) (g : Sentence) (rest : List Placed) → joined s join operand ps ≡ parsed g rest → Sound Many g ps rest
  joined_sound base ps g rest e =
      let w = seen (operand ps) (λ f r. chain s join operand (length r) f r) g rest e in
      let one = sound ps w.value w.rest w.is in
      let go = chain_sound (length w.rest) w.value g one.front w.rest rest (base w.value one.front one.says) (then (operand ps) (λ f r. chain s join operand (length r) f r) g rest e w) in
      record { front = one.front ++ go.front; split = one.split ∙ ap (λ l. one.front ++ l) go.split ∙ sym (append_assoc one.front go.front rest); says = go.says }

abbrev pub TermSound : ℕ → Type 0
TermSound n = (ps : List Placed) (f : Sentence) (rest : List Placed) → term n ps ≡ parsed f rest → Sound (Term n) f ps rest

pub conjunction_sound : (n : ℕ) → TermSound n → (ps : List Placed) (f : Sentence) (rest : List Placed) → conjunction n ps ≡ parsed f rest → Sound (Conjunction n) f ps rest
conjunction_sound n below = joined_sound mark.And both (term n) (Term n) (Conjunction n) below (λ c f g ps qs h t. and_term c h t) (λ f ps t. one_term t)

disjunction_sound : (n : ℕ) → TermSound n → (ps : List Placed) (f : Sentence) (rest : List Placed) → disjunction n ps ≡ parsed f rest → Sound (Disjunction n) f ps rest
disjunction_sound n below = joined_sound mark.Or either (conjunction n) (Conjunction n) (Disjunction n) (conjunction_sound n below) (λ c f g ps qs h t. or_conjunction c h t) (λ f ps t. one_conjunction t)

-- what follows `V p.q`
value_tail : (n : ℕ) → ((m : ℕ) → n ≡ suc m → TermSound m) → (c d e g : ℕ) (ds es : List ℕ) (r : List Placed) (f : Sentence) (rest : List Placed) (o : Option ℕ) (r' : List Placed)
    → perhaps mark.Slash r ≡ parsed o r' → value_in (inner n) (value_of ds) (value_of es) o r' ≡ parsed f rest
    → Sound (Term n) f (place (sign mark.Value) c ∷ place (number ds) d ∷ place (sign mark.Dot) e ∷ place (number es) g ∷ r) rest
value_tail n below c d e g ds es r f rest None r' is k =
    found (Term n) (values (value_of ds) (value_of es) truth) f _ rest (place (sign mark.Value) c ∷ place (number ds) d ∷ place (sign mark.Dot) e ∷ place (number es) g ∷ []) (same_value (values (value_of ds) (value_of es) truth) f r' rest k)
    (ap (λ l. place (sign mark.Value) c ∷ place (number ds) d ∷ place (sign mark.Dot) e ∷ place (number es) g ∷ l) (sym (perhaps_none mark.Slash r r' is) ∙ same_rest (values (value_of ds) (value_of es) truth) f r' rest k)) valued
value_tail zero below c d e g ds es r f rest (Some h) r' is k = absurd (no_parse _ f rest k)
value_tail (suc m) below c d e g ds es r f rest (Some h) r' is k =
    let K : Sentence → Reader Sentence = λ y. parsed (values (value_of ds) (value_of es) y) in
    let w = seen (term m r') K f rest k in
    let l = then (term m r') K f rest k w in
    let z = perhaps_some mark.Slash r r' h is in
    let one = below m refl r' w.value w.rest w.is in
    found (Term (suc m)) (values (value_of ds) (value_of es) w.value) f _ rest (place (sign mark.Value) c ∷ place (number ds) d ∷ place (sign mark.Dot) e ∷ place (number es) g ∷ place (sign mark.Slash) z.column ∷ one.front)
    (same_value (values (value_of ds) (value_of es) w.value) f w.rest rest l)
    (ap (λ y. place (sign mark.Value) c ∷ place (number ds) d ∷ place (sign mark.Dot) e ∷ place (number es) g ∷ y) (z.stands ∙ ap (λ y. place (sign mark.Slash) z.column ∷ y) (one.split ∙ ap (λ y. one.front ++ y) (same_rest (values (value_of ds) (value_of es) w.value) f w.rest rest l))))
    (valued_if one.says)

value_sound : (n : ℕ) → ((m : ℕ) → n ≡ suc m → TermSound m) → (c : ℕ) (ps : List Placed) (f : Sentence) (rest : List Placed) → term_in (inner n) c (sign mark.Value) ps ≡ parsed f rest → Sound (Term n) f (place (sign mark.Value) c ∷ ps) rest
value_sound n below c ps f rest e =
    let K₁ : ℕ → Reader Sentence = λ p r. bind (the_sign mark.Dot r) (λ _ r. bind (a_number r) (λ q r. bind (perhaps mark.Slash r) (value_in (inner n) p q))) in
    let a = seen (a_number ps) K₁ f rest e in
    let d = numbered ps a.value a.rest a.is in
    let e₂ = then (a_number ps) K₁ f rest e a in
    let K₂ : ℕ → Reader Sentence = λ _ r. bind (a_number r) (λ q r. bind (perhaps mark.Slash r) (value_in (inner n) a.value q)) in
    let b = seen (the_sign mark.Dot a.rest) K₂ f rest e₂ in
    let z = signed mark.Dot a.rest b.value b.rest b.is in
    let e₃ = then (the_sign mark.Dot a.rest) K₂ f rest e₂ b in
    let K₃ : ℕ → Reader Sentence = λ q r. bind (perhaps mark.Slash r) (value_in (inner n) a.value q) in
    let v = seen (a_number b.rest) K₃ f rest e₃ in
    let g = numbered b.rest v.value v.rest v.is in
    let e₄ = then (a_number b.rest) K₃ f rest e₃ v in
    let w = seen (perhaps mark.Slash v.rest) (value_in (inner n) a.value v.value) f rest e₄ in
    let k = then (perhaps mark.Slash v.rest) (value_in (inner n) a.value v.value) f rest e₄ w in
    let there : ps ≡ place (number d.digits) d.column ∷ place (sign mark.Dot) z.column ∷ place (number g.digits) g.column ∷ v.rest
    = d.stands ∙ ap (λ l. place (number d.digits) d.column ∷ l) (z.stands ∙ ap (λ l. place (sign mark.Dot) z.column ∷ l) g.stands) in
    let P : List Placed → Type 0 = λ l. Sound (Term n) f (place (sign mark.Value) c ∷ l) rest in
    subst P (sym there)
    (value_tail n below c d.column z.column g.column d.digits g.digits v.rest f rest w.value w.rest w.is ((λ i. value_in (inner n) (sym d.value i) (sym g.value i) w.value w.rest) ∙ k))

module _ (n c : ℕ) (ps : List Placed) (f : Sentence) (rest : List Placed) where
  abbrev Spelt : Piece → Type 0
  Spelt q = Sound (Term n) f (place q c ∷ ps) rest

  word_sound : (w : List ℕ) (k : Option Keyword) → keyword w ≡ k → word_in c k ps ≡ parsed f rest → Spelt (word w)
  word_sound w (Some key.True) is e = found (Term n) truth f (place (word w) c ∷ ps) rest (place (word w) c ∷ []) (same_value truth f ps rest e) (ap (λ l. place (word w) c ∷ l) (same_rest truth f ps rest e)) (always is)
  word_sound w (Some key.Fact) is e =
      let a = seen (a_number ps) (λ v. parsed (fact v)) f rest e in
      let k = then (a_number ps) (λ v. parsed (fact v)) f rest e a in
      let d = numbered ps a.value a.rest a.is in
      found (Term n) (fact (value_of d.digits)) f (place (word w) c ∷ ps) rest (place (word w) c ∷ place (number d.digits) d.column ∷ [])
      (ap fact (sym d.value) ∙ same_value (fact a.value) f a.rest rest k)
      (ap (λ l. place (word w) c ∷ l) (d.stands ∙ ap (λ l. place (number d.digits) d.column ∷ l) (same_rest (fact a.value) f a.rest rest k)))
      (of_fact is)
  word_sound w (Some key.Quantity) is e =
      let K₁ : ℕ → Reader Sentence = λ q r. bind (the_sign mark.Equals r) (λ _ r. bind (a_number r) (λ v. parsed (equals q v))) in
      let a = seen (a_number ps) K₁ f rest e in
      let d = numbered ps a.value a.rest a.is in
      let K₂ : ℕ → Reader Sentence = λ _ r. bind (a_number r) (λ v. parsed (equals a.value v)) in
      let e₂ = then (a_number ps) K₁ f rest e a in
      let b = seen (the_sign mark.Equals a.rest) K₂ f rest e₂ in
      let z = signed mark.Equals a.rest b.value b.rest b.is in
      let K₃ : ℕ → Reader Sentence = λ v. parsed (equals a.value v) in
      let e₃ = then (the_sign mark.Equals a.rest) K₂ f rest e₂ b in
      let v = seen (a_number b.rest) K₃ f rest e₃ in
      let g = numbered b.rest v.value v.rest v.is in
      let k = then (a_number b.rest) K₃ f rest e₃ v in
      found (Term n) (equals (value_of d.digits) (value_of g.digits)) f (place (word w) c ∷ ps) rest (place (word w) c ∷ place (number d.digits) d.column ∷ place (sign mark.Equals) z.column ∷ place (number g.digits) g.column ∷ [])
      ((λ i. equals (sym d.value i) (sym g.value i)) ∙ same_value (equals a.value v.value) f v.rest rest k)
      (ap (λ l. place (word w) c ∷ l) (d.stands ∙ ap (λ l. place (number d.digits) d.column ∷ l) (z.stands ∙ ap (λ l. place (sign mark.Equals) z.column ∷ l) (g.stands ∙ ap (λ l. place (number g.digits) g.column ∷ l) (same_rest (equals a.value v.value) f v.rest rest k)))))
      (of_quantity is)
  word_sound w None is e = absurd (no_parse _ f rest e)

sound_in : (n : ℕ) (below : (m : ℕ) → n ≡ suc m → TermSound m) (c : ℕ) (q : Piece) (ps : List Placed) (f : Sentence) (rest : List Placed) → term_in (inner n) c q ps ≡ parsed f rest → Sound (Term n) f (place q c ∷ ps) rest
sound_in n below c (number ds) ps f rest e = absurd (no_parse _ f rest e)
sound_in n below c (word w) ps f rest e = word_sound n c ps f rest w (keyword w) refl e
sound_in n below c (bad k) ps f rest e = absurd (no_parse _ f rest e)
sound_in n below c done ps f rest e = absurd (no_parse _ f rest e)
sound_in zero below c (sign mark.Not) ps f rest e = absurd (no_parse _ f rest e)
sound_in (suc m) below c (sign mark.Not) ps f rest e =
    let w = seen (term m ps) (λ h. parsed (neg h)) f rest e in
    let k = then (term m ps) (λ h. parsed (neg h)) f rest e w in
    let one = below m refl ps w.value w.rest w.is in
    found (Term (suc m)) (neg w.value) f (place (sign mark.Not) c ∷ ps) rest (place (sign mark.Not) c ∷ one.front) (same_value (neg w.value) f w.rest rest k)
    (ap (λ l. place (sign mark.Not) c ∷ l) (one.split ∙ ap (λ l. one.front ++ l) (same_rest (neg w.value) f w.rest rest k))) (denied one.says)
sound_in zero below c (sign mark.Knows) ps f rest e = absurd (no_parse _ f rest e)
sound_in (suc m) below c (sign mark.Knows) ps f rest e =
    let a = seen (a_number ps) (λ p r. bind (term m r) (λ h. parsed (knows p h))) f rest e in
    let b = then (a_number ps) (λ p r. bind (term m r) (λ h. parsed (knows p h))) f rest e a in
    let d = numbered ps a.value a.rest a.is in
    let w = seen (term m a.rest) (λ h. parsed (knows a.value h)) f rest b in
    let k = then (term m a.rest) (λ h. parsed (knows a.value h)) f rest b w in
    let one = below m refl a.rest w.value w.rest w.is in
    found (Term (suc m)) (knows (value_of d.digits) w.value) f (place (sign mark.Knows) c ∷ ps) rest (place (sign mark.Knows) c ∷ place (number d.digits) d.column ∷ one.front)
    (ap (λ v. knows v w.value) (sym d.value) ∙ same_value (knows a.value w.value) f w.rest rest k)
    (ap (λ l. place (sign mark.Knows) c ∷ l) (d.stands ∙ ap (λ l. place (number d.digits) d.column ∷ l) (one.split ∙ ap (λ l. one.front ++ l) (same_rest (knows a.value w.value) f w.rest rest k))))
    (known one.says)
sound_in zero below c (sign mark.Open) ps f rest e = absurd (no_parse _ f rest e)
sound_in (suc m) below c (sign mark.Open) ps f rest e =
    let a = seen (disjunction m ps) (λ h r. bind (the_sign mark.Close r) (λ _. parsed h)) f rest e in
    let b = then (disjunction m ps) (λ h r. bind (the_sign mark.Close r) (λ _. parsed h)) f rest e a in
    let w = seen (the_sign mark.Close a.rest) (λ _. parsed a.value) f rest b in
    let k = then (the_sign mark.Close a.rest) (λ _. parsed a.value) f rest b w in
    let d = disjunction_sound m (below m refl) ps a.value a.rest a.is in
    let z = signed mark.Close a.rest w.value w.rest w.is in
    found (Term (suc m)) a.value f (place (sign mark.Open) c ∷ ps) rest (place (sign mark.Open) c ∷ (d.front ++ place (sign mark.Close) z.column ∷ [])) (same_value a.value f w.rest rest k)
    (ap (λ l. place (sign mark.Open) c ∷ l) (d.split ∙ ap (λ l. d.front ++ l) (z.stands ∙ ap (λ l. place (sign mark.Close) z.column ∷ l) (same_rest a.value f w.rest rest k)) ∙ sym (append_assoc d.front (place (sign mark.Close) z.column ∷ []) rest)))
    (grouped z.column d.says)
sound_in n below c (sign mark.Value) ps f rest e = value_sound n below c ps f rest e
sound_in n below c (sign mark.And) ps f rest e = absurd (no_parse _ f rest e)
sound_in n below c (sign mark.Or) ps f rest e = absurd (no_parse _ f rest e)
sound_in n below c (sign mark.Close) ps f rest e = absurd (no_parse _ f rest e)
sound_in n below c (sign mark.Dot) ps f rest e = absurd (no_parse _ f rest e)
sound_in n below c (sign mark.Slash) ps f rest e = absurd (no_parse _ f rest e)
sound_in n below c (sign mark.Equals) ps f rest e = absurd (no_parse _ f rest e)
sound_in n below c (sign mark.Minus) ps f rest e = absurd (no_parse _ f rest e)

sound_with : (n : ℕ) → ((m : ℕ) → n ≡ suc m → TermSound m) → TermSound n
sound_with n below [] f rest e = absurd (no_parse _ f rest (sym (term_is n []) ∙ e))
sound_with n below (p ∷ ps) f rest e = sound_in n below p.column p.piece ps f rest (sym (term_is n (p ∷ ps)) ∙ e)

pub term_sound : (n : ℕ) → TermSound n
term_sound zero = sound_with zero (λ m e. absurd (omega arith))
term_sound (suc n) = sound_with (suc n) (λ m e. let P : ℕ → Type 0 = λ k. TermSound k in subst P (let q : n ≡ m = omega arith in q) (term_sound n))

-- what is read as a formula begins with a sentence that writes it
pub reads_sentence : (n : ℕ) (ps : List Placed) (f : Sentence) (rest : List Placed) → disjunction n ps ≡ parsed f rest → Sound (Disjunction n) f ps rest
reads_sentence n = disjunction_sound n (term_sound n)

pub sentences_read : SentencesRead
unfolding perhaps
sentences_read n f ps c = (
  (λ e.
      let s = reads_sentence n (ps ++ place done c ∷ []) f (place done c ∷ []) e in
      let P : List Placed → Type 0 = λ l. Disjunction n f l in
      subst P (append_cancel_right s.front ps (place done c ∷ []) (sym s.split)) s.says),
  λ d. sentence_reads d (place done c ∷ []) (omega arith) refl refl refl,
)
