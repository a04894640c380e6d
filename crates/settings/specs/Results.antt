-- Results: an accepted value, or a refusal.
use Rattle.std.specs.Prelude.{Ok, Err, Result}

-- the function applied to what was accepted; a refusal stays
abbrev pub on_ok : {X Y E : Type 0} → (X → Y) → Result X E → Result Y E
on_ok f (Ok x) = Ok (f x)
on_ok f (Err e) = Err e
