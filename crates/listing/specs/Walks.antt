-- One step through the lines of a text.
use Rattle.std.specs.Prelude.{◌≡◌, ℕ, ◌+◌, ◌<◌, List, Some, None, Option, MatchOption}
use Rattle.std.specs.Borrow.{Bor}
use Rattle.listing.specs.declared.texts.Lines.{Lines}
use Rattle.listing.specs.Lines.{lines_left, size_left}
use Rattle.listing.specs.Listing.{first_filled}

-- x is the first line that is not blank, with its number, and t has what comes after it
pub record Steps (s : Lines) (x : ℕ × Bor (List ℕ)) (t : Lines) : Type 0 where
  pub first : first_filled s.number (lines_left s.rest) ≡ Some (record { number = x.0; line = x.1.now; rest = lines_left t.rest })
  pub next : t.number ≡ x.0 + 1
  pub less : size_left t.rest < size_left s.rest

-- what a call from s gives, where it leaves t
abbrev pub NextFilled : Lines → Option (ℕ × Bor (List ℕ)) → Lines → Type 0
NextFilled s r t = MatchOption r (first_filled s.number (lines_left s.rest) ≡ None) (λ x. Steps s x t)
