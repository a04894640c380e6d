-- A fair setting means a lawful model.
use Rattle.std.specs.Prelude.{◌≡◌, ℕ, ◌≤◌, Bool, true, false, cond, ◌&&◌, nat_lt, refl}
use Rattle.std.proofs.Common.{arith}
use Rattle.std.proofs.lemmas.Bool.{and_parts, and_from, and_left, and_right, not-false, not_from_true, ltb-true, lt-ltb, le-ltb, cond-false}
use Rattle.model.specs.Meaning.{Lawful, Alike}
use Rattle.settings.specs.Settings.{Setting, Fair, set_up}

pub lawful_setting : (s : Setting) → Fair s → Lawful (set_up s)
lawful_setting s fair = record {
  some_world = fair.some_world;
  few_worlds = fair.few_worlds;
  some_agent = fair.some_agent;
  few_agents = fair.few_agents;
  few_facts = fair.few_facts;
  few_quantities = fair.few_quantities;
  within = λ w e. ltb-true w s.width e;
  alike_agent = λ p u v a. ltb-true p s.agents (parts p u v a).0;
  alike_left = λ p u v a. (parts p u v a).1;
  alike_right = λ p u v a. (parts p u v a).2;
  fact_there = λ f w e.
      let x = and_parts (nat_lt f s.facts) (world w && s.fact f w) e in
      (ltb-true f s.facts x.0, (and_parts (world w) (s.fact f w) x.1).0);
  quantity_gone = λ q w e. cond-false (nat_lt q s.quantities && world w) (s.quantity q w) 0 (and_right (nat_lt q s.quantities) (world w) e);
  quantity_absent = λ q w h. cond-false (nat_lt q s.quantities && world w) (s.quantity q w) 0 (and_left (nat_lt q s.quantities) (world w) (le-ltb q s.quantities h));
  quantity_fits = λ q w. fits q w (nat_lt q s.quantities) (world w) refl refl;
  reflexive = λ p w h e. join p w w (lt-ltb p s.agents h) e e (fair.reflexive p w);
  symmetric = λ p u v a. let x = parts p u v a in join p v u x.0 x.2 x.1 (fair.symmetric p u v x.3);
  transitive = λ p u v w a b.
      let x = parts p u v a in let y = parts p v w b in join p u w x.0 x.1 y.2 (fair.transitive p u v w x.3 y.3);
}
  where
    world : ℕ → Bool
    world w = nat_lt w s.width

    parts : (p u v : ℕ) → Alike (set_up s) p u v → (nat_lt p s.agents ≡ true) × (nat_lt u s.width ≡ true) × (nat_lt v s.width ≡ true) × (s.alike p u v ≡ true)
    parts p u v a =
        let x = and_parts (nat_lt p s.agents) (nat_lt u s.width && (nat_lt v s.width && s.alike p u v)) (not-false _ a) in
        let y = and_parts (nat_lt u s.width) (nat_lt v s.width && s.alike p u v) x.1 in
        let z = and_parts (nat_lt v s.width) (s.alike p u v) y.1 in
        (x.0, y.0, z.0, z.1)

    join : (p u v : ℕ) → nat_lt p s.agents ≡ true → nat_lt u s.width ≡ true → nat_lt v s.width ≡ true → s.alike p u v ≡ true → Alike (set_up s) p u v
    join p u v a b c e = not_from_true _ (and_from _ _ a (and_from _ _ b (and_from _ _ c e)))

    fits : (q w : ℕ) (b c : Bool) → nat_lt q s.quantities ≡ b → nat_lt w s.width ≡ c → cond (b && c) (s.quantity q w) 0 ≤ 65535
    fits q w true true e d = fair.quantity_fits q w (ltb-true q s.quantities e) (ltb-true w s.width d)
    fits q w true false e d = omega arith
    fits q w false c e d = omega arith
