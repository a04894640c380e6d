-- The numbers of the refusals, and the values that they name.
use Rattle.std.specs.Prelude.{ℕ, List, [], ◌∷◌}
use Rattle.model.specs.declared.refusals.Refusal.{Refusal}
use Rattle.model.specs.declared.refusals.Refusal.TheVariants.{NodeCount, BadNode, ShortWork, NoSuch, NotTaken, ShortRow, PairBounds, CaseCount, ShortList, BadDate, AgentCount}

abbrev pub number_of : Refusal → ℕ
number_of NodeCount = 1
number_of (BadNode node) = 2
number_of ShortWork = 3
number_of NoSuch = 4
number_of NotTaken = 5
number_of ShortRow = 7
number_of PairBounds = 19
number_of CaseCount = 20
number_of ShortList = 21
number_of BadDate = 22
number_of AgentCount = 23

-- the node that is bad; no other case names a value
abbrev pub values_of : Refusal → List ℕ
values_of NodeCount = []
values_of (BadNode node) = node ∷ []
values_of ShortWork = []
values_of NoSuch = []
values_of NotTaken = []
values_of ShortRow = []
values_of PairBounds = []
values_of CaseCount = []
values_of ShortList = []
values_of BadDate = []
values_of AgentCount = []
