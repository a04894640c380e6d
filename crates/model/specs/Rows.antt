-- Rows of 64-bit words, in which world w is the bit of weight 2 ^ (w % 64) of word w / 64; tests on worlds, and how many pass.
use Rattle.std.specs.Prelude.{◌≡◌, ℕ, zero, suc, ◌+◌, ◌/◌, ◌%◌, ◌^◌, Bool, true, false, cond, ◌&&◌, ◌||◌, List, length, ◌==◌, bit_and, bit_or, bit_xor, nat_lt, slice_index, slice_set}

-- how many words a row of n worlds has: n / 64, rounded up
abbrev pub words : ℕ → ℕ
words n = (n + 63) / 64

-- the bit of weight 2 ^ j of the number n is set
unfoldable pub digit : ℕ → ℕ → Bool
digit n j = (n / 2 ^ j) % 2 == 1

-- world w is in the row; a world past the row's end is not
abbrev pub bit : List ℕ → ℕ → Bool
bit row w = digit (slice_index row (w / 64)) (w % 64)

-- the row is long enough for world w
abbrev pub has_place : List ℕ → ℕ → Bool
has_place row w = nat_lt (w / 64) (length row)

-- the row with world w, and the row without it; a world past the row's end alters nothing
abbrev pub with_world : List ℕ → ℕ → List ℕ
with_world row w = cond (has_place row w) (slice_set row (w / 64) (bit_or (slice_index row (w / 64)) (2 ^ (w % 64)))) row

abbrev pub without_world : List ℕ → ℕ → List ℕ
without_world row w = cond (has_place row w) (slice_set row (w / 64) (bit_xor (slice_index row (w / 64)) (bit_and (slice_index row (w / 64)) (2 ^ (w % 64))))) row

-- a row is a set of worlds: with world w it has w, if there is a place for it, and without w it has not; each other world stays
abbrev pub RowsAreSets : Type 0
RowsAreSets = (row : List ℕ) (w v : ℕ)
    → (bit (with_world row w) v ≡ cond (v == w) (has_place row w) (bit row v))
    × (bit (without_world row w) v ≡ cond (v == w) false (bit row v))

-- if x then y
abbrev pub implies : Bool → Bool → Bool
implies true y = y
implies false y = true

-- every number below n passes the test
unfoldable pub every : (ℕ → Bool) → ℕ → Bool
every p zero = true
every p (suc n) = p n && every p n

-- how many numbers below n pass the test
unfoldable pub count : (ℕ → Bool) → ℕ → ℕ
count p zero = 0
count p (suc n) = cond (p n) 1 0 + count p n

-- the least number below n that passes the test, or n where none does
unfoldable pub least : (ℕ → Bool) → ℕ → ℕ
least p zero = zero
least p (suc n) = let l = least p n in cond (nat_lt l n || p n) l (suc n)
