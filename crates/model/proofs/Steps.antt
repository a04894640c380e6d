-- Each step keeps the law of a meaning, and reads its row at surviving worlds alone.
use Rattle.std.proofs.Common.{◌≡◌, ℕ, ◌<◌, ◌≤◌, Bool, true, false, cond, not, ◌&&◌, ◌||◌, eqb, sym, refl, ap, ◌∙◌, arith}
use Rattle.std.proofs.lemmas.Bool.{and_parts, and_from, or_parts, or_from, false≢true, true≢false, eqb-true}
use Rattle.model.specs.Meaning.{Meaning, Lawful, Alike, heard, refined, looked, replaced, put, differ, GoneBitsIdle, LawKept}

-- a meaning with the numbers of m
abbrev pub answering : Meaning → (ℕ → Bool) → (ℕ → ℕ → ℕ → Bool) → (ℕ → ℕ → Bool) → (ℕ → ℕ → ℕ) → Meaning
answering m s d f q = record {
  width = m.width;
  agents = m.agents;
  facts = m.facts;
  quantities = m.quantities;
  survives = s;
  distinguishes = d;
  fact = f;
  quantity = q;
}

-- two meanings of the same numbers that answer alike are equal
pub same_answers : (m : Meaning) {s s' : ℕ → Bool} {d d' : ℕ → ℕ → ℕ → Bool} {f f' : ℕ → ℕ → Bool} {q q' : ℕ → ℕ → ℕ}
    → ((w : ℕ) → s w ≡ s' w) → ((p u v : ℕ) → d p u v ≡ d' p u v) → ((g w : ℕ) → f g w ≡ f' g w) → ((a w : ℕ) → q a w ≡ q' a w)
    → answering m s d f q ≡ answering m s' d' f' q'
same_answers m es ed ef eq = λ i. answering m (λ w. es w i) (λ p u v. ed p u v i) (λ g w. ef g w i) (λ a w. eq a w i)

heard_parts : (d x y : Bool) → (d || not (x && y)) ≡ false → (d ≡ false) × (x ≡ true) × (y ≡ true)
heard_parts true x y e = absurd (true≢false e)
heard_parts false true true e = (refl, refl, refl)
heard_parts false true false e = absurd (true≢false e)
heard_parts false false y e = absurd (true≢false e)

heard_from : (d x y : Bool) → d ≡ false → x ≡ true → y ≡ true → (d || not (x && y)) ≡ false
heard_from d x y p q r = cc

differ_false : (x y : Bool) → differ x y ≡ false → x ≡ y
differ_false true true e = refl
differ_false true false e = absurd (true≢false e)
differ_false false y e = sym e

differ_same : (x y : Bool) → x ≡ y → differ x y ≡ false
differ_same true true e = refl
differ_same true false e = absurd (true≢false e)
differ_same false y e = sym e

pub lawful_heard : (m : Meaning) (row : ℕ → Bool) → Lawful m → Lawful (heard row m)
lawful_heard m row l = record {
  some_world = l.some_world;
  few_worlds = l.few_worlds;
  some_agent = l.some_agent;
  few_agents = l.few_agents;
  few_facts = l.few_facts;
  few_quantities = l.few_quantities;
  within = λ w e. l.within w (and_parts _ _ e).0;
  alike_agent = λ p u v a. l.alike_agent p u v (was p u v a).0;
  alike_left = λ p u v a. and_from _ _ (l.alike_left p u v (was p u v a).0) (was p u v a).1;
  alike_right = λ p u v a. and_from _ _ (l.alike_right p u v (was p u v a).0) (was p u v a).2;
  fact_there = λ f w e. let x = l.fact_there f w (and_parts (m.fact f w) (row w) e).0 in (x.0, and_from _ _ x.1 (and_parts (m.fact f w) (row w) e).1);
  quantity_gone = λ q w e. gone q w (m.survives w) (row w) refl e;
  quantity_absent = λ q w e. absent q w (row w) e;
  quantity_fits = λ q w. small q w (row w);
  reflexive = λ p w lt e. let x = and_parts (m.survives w) (row w) e in heard_from (m.distinguishes p w w) _ _ (l.reflexive p w lt x.0) x.1 x.1;
  symmetric = λ p u v a. let x = was p u v a in heard_from (m.distinguishes p v u) _ _ (l.symmetric p u v x.0) x.2 x.1;
  transitive = λ p u v w a b. let x = was p u v a in let y = was p v w b in heard_from (m.distinguishes p u w) _ _ (l.transitive p u v w x.0 y.0) x.1 y.2;
}
  where
    was : (p u v : ℕ) → Alike (heard row m) p u v → Alike m p u v × (row u ≡ true) × (row v ≡ true)
    was p u v a = heard_parts (m.distinguishes p u v) (row u) (row v) a

    gone : (q w : ℕ) (s b : Bool) → m.survives w ≡ s → (s && b) ≡ false → cond b (m.quantity q w) 0 ≡ 0
    gone q w true true e k = absurd (true≢false k)
    gone q w false true e k = l.quantity_gone q w e
    gone q w s false e k = refl

    absent : (q w : ℕ) (b : Bool) → m.quantities ≤ q → cond b (m.quantity q w) 0 ≡ 0
    absent q w true e = l.quantity_absent q w e
    absent q w false e = refl

    small : (q w : ℕ) (b : Bool) → cond b (m.quantity q w) 0 ≤ 65535
    small q w true = l.quantity_fits q w
    small q w false = omega arith

-- what is not told apart is an equivalence
pub record Splits (apart : ℕ → ℕ → ℕ → Bool) : Type 0 where
  pub reflexive : (p w : ℕ) → apart p w w ≡ false
  pub symmetric : (p u v : ℕ) → apart p u v ≡ false → apart p v u ≡ false
  pub transitive : (p u v w : ℕ) → apart p u v ≡ false → apart p v w ≡ false → apart p u w ≡ false

pub lawful_refined : (m : Meaning) (apart : ℕ → ℕ → ℕ → Bool) → Splits apart → Lawful m → Lawful (refined apart m)
lawful_refined m apart splits l = record {
  some_world = l.some_world;
  few_worlds = l.few_worlds;
  some_agent = l.some_agent;
  few_agents = l.few_agents;
  few_facts = l.few_facts;
  few_quantities = l.few_quantities;
  within = l.within;
  alike_agent = λ p u v a. l.alike_agent p u v (was p u v a).0;
  alike_left = λ p u v a. l.alike_left p u v (was p u v a).0;
  alike_right = λ p u v a. l.alike_right p u v (was p u v a).0;
  fact_there = l.fact_there;
  quantity_gone = l.quantity_gone;
  quantity_absent = l.quantity_absent;
  quantity_fits = l.quantity_fits;
  reflexive = λ p w lt e. or_from _ _ (l.reflexive p w lt e) (splits.reflexive p w);
  symmetric = λ p u v a. let x = was p u v a in or_from _ _ (l.symmetric p u v x.0) (splits.symmetric p u v x.1);
  transitive = λ p u v w a b.
      let x = was p u v a in
      let y = was p v w b in
      or_from _ _ (l.transitive p u v w x.0 y.0) (splits.transitive p u v w x.1 y.1);
}
  where
    was : (p u v : ℕ) → Alike (refined apart m) p u v → Alike m p u v × (apart p u v ≡ false)
    was p u v a = or_parts (m.distinguishes p u v) (apart p u v) a

-- what a look tells apart
look_parts : (b x y : Bool) → (b && differ x y) ≡ false → b ≡ true → x ≡ y
look_parts true x y e k = differ_false x y e
look_parts false x y e k = absurd (false≢true k)

look_from : (b x y : Bool) → (b ≡ true → x ≡ y) → (b && differ x y) ≡ false
look_from true x y k = differ_same x y (k refl)
look_from false x y k = refl

pub look_splits : (q : ℕ) (row : ℕ → Bool) → Splits (λ p u v. eqb p q && differ (row u) (row v))
look_splits q row = record {
  reflexive = λ p w. look_from (eqb p q) (row w) (row w) (λ _. refl);
  symmetric = λ p u v e. look_from (eqb p q) (row v) (row u) (λ b. sym (look_parts (eqb p q) (row u) (row v) e b));
  transitive = λ p u v w e f.
      look_from (eqb p q) (row u) (row w) (λ b. look_parts (eqb p q) (row u) (row v) e b ∙ look_parts (eqb p q) (row v) (row w) f b);
}

pub lawful_looked : (m : Meaning) (q : ℕ) (row : ℕ → Bool) → Lawful m → Lawful (looked q row m)
lawful_looked m q row l = lawful_refined m (λ p u v. eqb p q && differ (row u) (row v)) (look_splits q row) l

pub lawful_replaced : (m : Meaning) (chosen : ℕ → Bool) (rows : ℕ → ℕ → Bool) → ((g : ℕ) → chosen g ≡ true → g < m.facts) → Lawful m → Lawful (replaced chosen rows m)
lawful_replaced m chosen rows there l = record {
  some_world = l.some_world;
  few_worlds = l.few_worlds;
  some_agent = l.some_agent;
  few_agents = l.few_agents;
  few_facts = l.few_facts;
  few_quantities = l.few_quantities;
  within = l.within;
  alike_agent = l.alike_agent;
  alike_left = l.alike_left;
  alike_right = l.alike_right;
  fact_there = λ g w e. at g w (chosen g) refl e;
  quantity_gone = l.quantity_gone;
  quantity_absent = l.quantity_absent;
  quantity_fits = l.quantity_fits;
  reflexive = l.reflexive;
  symmetric = l.symmetric;
  transitive = l.transitive;
}
  where
    at : (g w : ℕ) (b : Bool) → chosen g ≡ b → cond b (m.survives w && rows g w) (m.fact g w) ≡ true → (g < m.facts) × (m.survives w ≡ true)
    at g w true k e = (there g k, (and_parts _ _ e).0)
    at g w false k e = l.fact_there g w e

pub lawful_put : (m : Meaning) (f : ℕ) (row : ℕ → Bool) → f < m.facts → Lawful m → Lawful (put f row m)
lawful_put m f row lt l = lawful_replaced m (λ g. eqb g f) (λ _. row) (λ g k. omega (arith, eqb-true g f k)) l

pub law_kept : LawKept
law_kept m l r = (lawful_heard m r l, (λ p. lawful_looked m p r l), (λ f lt. lawful_put m f r lt l))

module _ (m : Meaning) (l : Lawful m) (r r' : ℕ → Bool) (same : (w : ℕ) → m.survives w ≡ true → r w ≡ r' w) where
  and_same : (w : ℕ) (b : Bool) → (b ≡ true → r w ≡ r' w) → (b && r w) ≡ (b && r' w)
  and_same w true k = k refl
  and_same w false k = refl

  cond_same : (w : ℕ) (x : ℕ) (b : Bool) → m.survives w ≡ b → (m.survives w ≡ false → x ≡ 0) → cond (r w) x 0 ≡ cond (r' w) x 0
  cond_same w x true e z = ap (λ b. cond b x 0) (same w e)
  cond_same w x false e z = either (r w) ∙ sym (either (r' w))
    where
      either : (b : Bool) → cond b x 0 ≡ 0
      either true = z e
      either false = refl

  told_same : (p u v : ℕ) (f : Bool → Bool → Bool) → (m.distinguishes p u v || f (r u) (r v)) ≡ (m.distinguishes p u v || f (r' u) (r' v))
  told_same p u v f = go (m.distinguishes p u v) refl
    where
      go : (d : Bool) → m.distinguishes p u v ≡ d → (d || f (r u) (r v)) ≡ (d || f (r' u) (r' v))
      go true e = refl
      go false e = cc (same u (l.alike_left p u v e), same v (l.alike_right p u v e))

  heard_same : heard r m ≡ heard r' m
  heard_same = same_answers m (λ w. and_same w (m.survives w) (same w)) (λ p u v. told_same p u v (λ x y. not (x && y)))
      (λ f w. and_same w (m.fact f w) (λ e. same w (l.fact_there f w e).1)) (λ q w. cond_same w (m.quantity q w) (m.survives w) refl (l.quantity_gone q w))

  looked_same : (q : ℕ) → looked q r m ≡ looked q r' m
  looked_same q = same_answers m (λ w. refl) (λ p u v. told_same p u v (λ x y. eqb p q && differ x y)) (λ f w. refl) (λ a w. refl)

  put_same : (f : ℕ) → put f r m ≡ put f r' m
  put_same f = same_answers m (λ w. refl) (λ p u v. refl)
      (λ g w. ap (λ b. cond (eqb g f) b (m.fact g w)) (and_same w (m.survives w) (same w))) (λ q w. refl)

pub gone_bits_idle : GoneBitsIdle
gone_bits_idle m l r r' same = (heard_same m l r r' same, looked_same m l r r' same, put_same m l r r' same)
