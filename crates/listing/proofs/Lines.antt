-- Lines by the places of their bytes, and the first that is not blank.
use Rattle.std.proofs.Common.{◌≡◌, ℕ, zero, suc, ◌+◌, ◌<◌, ◌≤◌, Bool, true, false, not, cond, eqb, ltb, List, [], ◌∷◌, ◌++◌, length, get_or, take, drop, Some, None, sym, refl, ap, ◌∙◌, append_assoc, arith}
use borrow.Author.Tests.{ltb-false}
use Rattle.std.specs.List.{position, position_or_len}
use Rattle.model.specs.Meaning.{Meaning}
use Rattle.text.specs.Calls.{read_call}
use Rattle.listing.specs.Outcomes.{Entry}
use Rattle.listing.specs.Lines.{onto, lines_of, blank}
use Rattle.listing.specs.Listing.{Filled, answered, entries_from, first_filled}

pub line_ends : (s : List ℕ) (i : ℕ) → i < length s → ((k : ℕ) → k < i → eqb (get_or s k 0) 10 ≡ false) → eqb (get_or s i 0) 10 ≡ true → lines_of s ≡ take i s ∷ lines_of (drop (suc i) s)
line_ends [] i h none e = absurd (omega arith)
line_ends (b ∷ bs) zero h none e = rw e refl
line_ends (b ∷ bs) (suc i) h none e = rw (none 0 (omega arith), line_ends bs i (omega arith) (λ k l. none (suc k) (omega arith)) e) refl

pub one_line : (s : List ℕ) → length s ≤ position_or_len (λ b. eqb b 10) s → lines_of s ≡ s ∷ []
one_line [] h = refl
one_line (b ∷ bs) h = at (eqb b 10) (one_line bs) h
  where
    at : (t : Bool) → (length bs ≤ position_or_len (λ b. eqb b 10) bs → lines_of bs ≡ bs ∷ []) → suc (length bs) ≤ cond (not t) (1 + position_or_len (λ b. eqb b 10) bs) 0
        → cond t ([] ∷ lines_of bs) (onto b (lines_of bs)) ≡ (b ∷ bs) ∷ []
    at true go h = absurd (omega arith)
    at false go h = ap (onto b) (go (omega arith))

-- no byte of the text ends a line
pub no_end : (s : List ℕ) → position (λ b. eqb b 10) s ≡ None → lines_of s ≡ s ∷ []
no_end s e = one_line s (ltb-false _ _ (none_at (ltb (position_or_len (λ b. eqb b 10) s) (length s)) e))
  where
    none_at : (t : Bool) → cond t (Some (position_or_len (λ b. eqb b 10) s)) None ≡ None → t ≡ false
    none_at true e = let z : ◌≡◌ {A = ℕ} 0 1 = cc in absurd (omega arith)
    none_at false e = refl

module _ (n : ℕ) (l : List ℕ) (ls lines : List (List ℕ)) (e : lines ≡ l ∷ ls) where
  pub passes : blank l ≡ true → first_filled (n + 1) ls ≡ first_filled n lines
  unfolding first_filled
  passes b = rw (e, b) refl

  pub finds : blank l ≡ false → first_filled n lines ≡ Some (record { number = n; line = l; rest = ls })
  unfolding first_filled
  finds b = rw (e, b) refl

pub none_left : (n : ℕ) (lines : List (List ℕ)) → lines ≡ [] → first_filled n lines ≡ None
unfolding first_filled
none_left n lines e = rw e refl

-- no line is left that has an entry
pub entries_none : (m : Meaning) (n : ℕ) (ls : List (List ℕ)) → first_filled n ls ≡ None → entries_from m n ls ≡ []
unfolding first_filled entries_from
entries_none m n [] e = refl
entries_none m n (l ∷ ls) e = at (blank l) (entries_none m (n + 1) ls) e
  where
    at : (t : Bool) → (first_filled (n + 1) ls ≡ None → entries_from m (n + 1) ls ≡ []) → cond t (first_filled (n + 1) ls) (Some (record { number = n; line = l; rest = ls })) ≡ None
        → cond t (entries_from m (n + 1) ls) (record { number = n; outcome = answered m (read_call l) } ∷ entries_from m (n + 1) ls) ≡ []
    at true h e = h e
    at false h e = let z : ◌≡◌ {A = ℕ} 0 1 = cc in absurd (omega arith)

-- the first line that is not blank has the first entry
pub entries_some : (m : Meaning) (n : ℕ) (ls : List (List ℕ)) (x : Filled) → first_filled n ls ≡ Some x
    → entries_from m n ls ≡ record { number = x.number; outcome = answered m (read_call x.line) } ∷ entries_from m (x.number + 1) x.rest
unfolding first_filled entries_from
entries_some m n [] x e = let z : ◌≡◌ {A = ℕ} 0 1 = cc in absurd (omega arith)
entries_some m n (l ∷ ls) x e = at (blank l) (entries_some m (n + 1) ls x) e
  where
    some : {a b : Filled} → Some a ≡ Some b → a ≡ b
    some p = cc

    at : (t : Bool) → (first_filled (n + 1) ls ≡ Some x → entries_from m (n + 1) ls ≡ record { number = x.number; outcome = answered m (read_call x.line) } ∷ entries_from m (x.number + 1) x.rest)
        → cond t (first_filled (n + 1) ls) (Some (record { number = n; line = l; rest = ls })) ≡ Some x
        → cond t (entries_from m (n + 1) ls) (record { number = n; outcome = answered m (read_call l) } ∷ entries_from m (n + 1) ls) ≡ record { number = x.number; outcome = answered m (read_call x.line) } ∷ entries_from m (x.number + 1) x.rest
    at true h e = h e
    at false h e = ap (λ (y : Filled). record { number = y.number; outcome = answered m (read_call y.line) } ∷ entries_from m (y.number + 1) y.rest) (some e)

-- an entry more, and a line less
pub turned : (m : Meaning) (n next : ℕ) (ls : List (List ℕ)) (x : Filled) (before after : List Entry) (e : Entry) → first_filled n ls ≡ Some x → next ≡ x.number + 1
    → after ≡ before ++ e ∷ [] → e ≡ record { number = x.number; outcome = answered m (read_call x.line) } → after ++ entries_from m next x.rest ≡ before ++ entries_from m n ls
turned m n next ls x before after e f k w q =
    rw (w, k, q) (append_assoc before (record { number = x.number; outcome = answered m (read_call x.line) } ∷ []) (entries_from m (x.number + 1) x.rest))
    ∙ ap (λ (es : List Entry). before ++ es) (sym (entries_some m n ls x f))
