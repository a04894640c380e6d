-- Number pairs, of which one agent is told the sum and the other the product.
use Rattle.std.specs.Prelude.{◌≡◌, ℕ, ◌+◌, ◌-◌, ◌*◌, ◌<◌, ◌≤◌, cond, ◌||◌, ◌⊎◌, List, [], ◌∷◌, ◌++◌, map, length, drop, Ok, Err, Result, ◌==◌, nat_le, nat_lt}
use Rattle.std.specs.List.{range_with_len, ContainsAt as Has, flat_map, AllByRecursion}
use Rattle.model.specs.declared.refusals.Refusal.{Refusal}
use Rattle.model.specs.declared.refusals.Refusal.TheVariants.{PairBounds, CaseCount, ShortList}
use Rattle.model.specs.Meaning.{Meaning}
use Rattle.settings.specs.Results.{on_ok}
use Rattle.settings.specs.Settings.{set_up}
use Rattle.settings.specs.Cases.{listed}

-- agent 0 is told the sum, agent 1 the product
abbrev pub pair_told : ℕ × ℕ → ℕ → ℕ
pair_told p agent = cond (agent == 0) (p.0 + p.1) (p.0 * p.1)

-- quantities 0 to 3: the two numbers, their sum, their product
abbrev pub pair_amount : ℕ × ℕ → ℕ → ℕ
pair_amount p q = cond (q == 0) p.0 (cond (q == 1) p.1 (cond (q == 2) (p.0 + p.1) (p.0 * p.1)))

-- the model of a list of pairs
abbrev pub pairs_meaning : List (ℕ × ℕ) → Meaning
pairs_meaning ps = set_up (listed 2 4 pair_told pair_amount ps)

-- x beside n numbers from y on, in order
unfoldable pub row_from : ℕ → ℕ → ℕ → List (ℕ × ℕ)
row_from x y n = map (λ z. (x, z)) (range_with_len y n)

-- x beside each y from x + 1 to sum - x
unfoldable pub row : ℕ → ℕ → List (ℕ × ℕ)
row sum x = row_from x (x + 1) (sum - 2 * x)

-- the rows of each x from low on, in order; from sum on they are empty
unfoldable pub pairs : ℕ → ℕ → List (ℕ × ℕ)
pairs low sum = flat_map (row sum) (range_with_len low (sum - low))

-- how many pairs there are, for a list of n places: the bounds leave some pair, and numbers up to 255;
-- there are at most 4,096; and there is a place for each
abbrev pub fill_answer : ℕ → ℕ → ℕ → Result ℕ Refusal
fill_answer low sum n =
    let count = length (pairs low sum) in
    cond (low == 0 || (nat_le sum (2 * low) || nat_lt 255 (sum - low))) (Err PairBounds)
    (cond (nat_lt 4096 count) (Err CaseCount)
    (cond (nat_lt n count) (Err ShortList) (Ok count)))

-- the pairs in the first places, where they were accepted
abbrev pub laid : Result ℕ Refusal → List (ℕ × ℕ) → List (ℕ × ℕ) → List (ℕ × ℕ)
laid (Ok n) ps list = ps ++ drop n list
laid (Err e) ps list = list

-- the list after it was filled, or refused
unfoldable pub filled : ℕ → ℕ → List (ℕ × ℕ) → List (ℕ × ℕ)
filled low sum list = laid (fill_answer low sum (length list)) (pairs low sum) list

-- the model of all pairs within the bounds, or the refusal of a list of 4,096 places
unfoldable pub pairs_of : ℕ → ℕ → Result Meaning Refusal
pairs_of low sum = on_ok (λ _. pairs_meaning (pairs low sum)) (fill_answer low sum 4096)

-- p comes before q: by the first number, then by the second
abbrev pub Before : ℕ × ℕ → ℕ × ℕ → Type 0
Before p q = (p.0 < q.0) ⊎ ((p.0 ≡ q.0) × (p.1 < q.1))

-- each pair comes before all that follow it
abbrev pub Ascending : List (ℕ × ℕ) → Type 0
Ascending [] = Unit {0}
Ascending (p ∷ ps) = AllByRecursion (Before p) ps × Ascending ps

-- the two numbers are within the bounds, the lower one first
abbrev pub Bounded : ℕ → ℕ → ℕ × ℕ → Type 0
Bounded low sum p = (low ≤ p.0) × (p.0 < p.1) × (p.0 + p.1 ≤ sum)

-- a pair stands in the list exactly when it is within the bounds, and the list ascends, so that each stands there once
abbrev pub PairsListed : Type 0
PairsListed = (low sum : ℕ)
    → ((x y : ℕ) → (Has (pairs low sum) (x, y) → Bounded low sum (x, y)) × (Bounded low sum (x, y) → Has (pairs low sum) (x, y)))
    × Ascending (pairs low sum)
