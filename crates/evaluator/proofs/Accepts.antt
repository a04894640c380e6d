-- What is not refused can be evaluated.
use Rattle.std.proofs.Common.{◌≡◌, ℕ, ◌+◌, ◌*◌, ◌<◌, ◌≤◌, Bool, true, false, cond, not, ◌&&◌, ltb, leb, List, length, get_or, is_ok, Ok, Err, Result, refl, ap, arith}
use Rattle.std.proofs.lemmas.Bool.{false≢true, and_parts, ltb-true, ltb-false, leb-true, not-false}
use Rattle.model.specs.declared.refusals.Refusal.{Refusal}
use Rattle.model.specs.Causes.{first}
use Rattle.model.specs.Meaning.{Meaning}
use Rattle.model.specs.Rows.{words}
use Rattle.model.proofs.Counts.{least_fits}
use Rattle.theory.specs.declared.node.Node.{Node}
use Rattle.evaluator.specs.Checks.{usable, sound, no_node, unsound, first_bad, faults, Fillable}

-- a cause that does not apply
passed : (b : Bool) (e : Refusal) (x : Result (Unit {0}) Refusal) → cond b (Err e) x ≡ Ok tt → (b ≡ false) × (x ≡ Ok tt)
passed true e x h = absurd (false≢true (ap is_ok h))
passed false e x h = (refl, h)

module _ (m : Meaning) (ns : List Node) (used root room : ℕ) where
  -- no used node is bad
  all_sound : used ≤ first_bad m ns used → (i : ℕ) → i < used → sound m i (get_or ns i no_node) ≡ true
  all_sound h i l = not-false (sound m i (get_or ns i no_node)) ((least_fits (unsound m ns) used).none_before i (omega arith))

  pub accepted : first {A = Unit {0}} (faults m ns used root room) tt ≡ Ok tt → Fillable m ns (root + 1) room
  accepted h =
      let a = passed (not (usable (length ns) used root)) _ _ h in
      let b = passed (ltb (first_bad m ns used) used) _ _ a.1 in
      let c = passed (ltb room ((root + 1) * words m.width)) _ _ b.1 in
      let u = and_parts (ltb 0 used && leb used (length ns) && leb used 4096) (ltb root used) (not-false (usable (length ns) used root) a.0) in
      let v = and_parts (ltb 0 used && leb used (length ns)) (leb used 4096) u.0 in
      let w = and_parts (ltb 0 used) (leb used (length ns)) v.0 in
      let below : root < used = ltb-true root used u.1 in
      record {
        within = omega (arith, below, leb-true used (length ns) w.1);
        few = omega (arith, below, leb-true used 4096 v.1);
        sound_nodes = λ i l. all_sound (ltb-false (first_bad m ns used) used b.0) i (omega (arith, below));
        enough = ltb-false room ((root + 1) * words m.width) c.0;
      }
