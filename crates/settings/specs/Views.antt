-- What an agent sees of a world, as one number. Only inner contracts cite it.
use Rattle.std.specs.Prelude.{ℕ, ◌%◌, ◌^◌, bit_or}
use Rattle.settings.specs.declared.sight.Sight.{Sight}
use Rattle.settings.specs.declared.sight.Sight.TheVariants.{Circle, Queue}

-- world w for agent i: in a circle with its own fact taken as true, in a queue without its own fact and the later ones
abbrev pub view_of : Sight → ℕ → ℕ → ℕ
view_of Circle i w = bit_or w (2 ^ i)
view_of Queue i w = w % 2 ^ i
