-- What a listing says of a line.
use Rattle.std.specs.Prelude.{ℕ, List}

-- a refusal by its number, with its column from 1, or 0 where it has none
pub record Refused : Type 0 where
  pub number : ℕ
  pub column : ℕ

-- no world survives; one does, and has these quantities; so many do, of which these two are the lowest; a refusal
pub data Outcome : Type 0 where
  contradiction : Outcome
  unique : ℕ → List ℕ → Outcome
  rivals : ℕ → ℕ → ℕ → Outcome
  refusal : Refused → Outcome

-- a line's number in its text, and what is said of it
pub record Entry : Type 0 where
  pub number : ℕ
  pub outcome : Outcome
