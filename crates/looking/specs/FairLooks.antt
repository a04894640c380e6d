-- What looks do not tell apart is an equivalence.
use Rattle.std.specs.Prelude.{List, [], ◌∷◌, refl}
use Rattle.std.proofs.lemmas.Bool.{or_parts, or_from}
use Rattle.model.specs.Rows.{bit}
use Rattle.model.proofs.Steps.{Splits, look_splits}
use Rattle.looking.specs.declared.looks.Slot.{Slot}
use Rattle.looking.specs.Looks.{tells, told}

pub told_splits : (ss : List Slot) → Splits (told ss)
told_splits [] = record { reflexive = λ p w. refl; symmetric = λ p u v e. refl; transitive = λ p u v w e f. refl }
told_splits (s ∷ ss) =
    let one = look_splits s.agent (bit s.row) in
    let rest = told_splits ss in
    record {
      reflexive = λ p w. or_from _ _ (one.reflexive p w) (rest.reflexive p w);
      symmetric = λ p u v e. let x = or_parts (tells s p u v) (told ss p u v) e in or_from _ _ (one.symmetric p u v x.0) (rest.symmetric p u v x.1);
      transitive = λ p u v w e f.
          let x = or_parts (tells s p u v) (told ss p u v) e in
          let y = or_parts (tells s p v w) (told ss p v w) f in
          or_from _ _ (one.transitive p u v w x.0 y.0) (rest.transitive p u v w x.1 y.1);
    }
