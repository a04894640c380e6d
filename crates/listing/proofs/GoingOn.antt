-- A text that goes on.
use Rattle.std.proofs.Common.{◌≡◌, ℕ, ◌+◌, ◌≤◌, Bool, true, false, cond, eqb, ltb, List, [], ◌∷◌, ◌++◌, length, Some, None, Ok, Err, Option, Result, sym, refl, ap, ◌∙◌, ap₂, add-zero, arith, length-append}
use Rattle.std.proofs.lemmas.Bool.{le-ltb, cond-false}
use Rattle.model.specs.declared.refusals.Refusal.{Refusal}
use Rattle.model.specs.Meaning.{Meaning}
use Rattle.lines.specs.Firsts.{Answer, refused, accepted}
use Rattle.lines.specs.Settings as setting
use Rattle.text.specs.Calls as call
use Rattle.listing.specs.declared.outcomes.Header.{Header}
use Rattle.listing.specs.Outcomes.{Entry}
use Rattle.listing.specs.Lines.{onto, lines_of, blank}
use Rattle.listing.specs.Listing.{Page, Filled, answered, entries_from, first_filled, model_of, plays, sets, begun, opened, page}
use Rattle.listing.specs.Laws.{GoesOn, StaysRefused}

-- a text with more after a line end has the lines of both
lines_both : (text more : List ℕ) → lines_of (text ++ 10 ∷ more) ≡ lines_of text ++ lines_of more
lines_both [] more = refl
lines_both (b ∷ bs) more = at (eqb b 10) (lines_of bs) (some_line bs) (lines_both bs more)
  where
    some_line : (bs : List ℕ) → (l : List ℕ) × (ls : List (List ℕ)) × (lines_of bs ≡ l ∷ ls)
    some_line [] = ([], [], refl)
    some_line (c ∷ cs) = go (eqb c 10) (some_line cs)
      where
        go : (t : Bool) → (l : List ℕ) × (ls : List (List ℕ)) × (lines_of cs ≡ l ∷ ls) → (l : List ℕ) × (ls : List (List ℕ)) × (cond t ([] ∷ lines_of cs) (onto c (lines_of cs)) ≡ l ∷ ls)
        go true x = ([], lines_of cs, refl)
        go false x = (c ∷ x.0, x.1, ap (onto c) x.2)

    at : (t : Bool) (ls : List (List ℕ)) → (l : List ℕ) × (rest : List (List ℕ)) × (ls ≡ l ∷ rest) → lines_of (bs ++ 10 ∷ more) ≡ ls ++ lines_of more
        → cond t ([] ∷ lines_of (bs ++ 10 ∷ more)) (onto b (lines_of (bs ++ 10 ∷ more))) ≡ cond t ([] ∷ ls) (onto b ls) ++ lines_of more
    at true ls x e = ap (λ (l : List (List ℕ)). [] ∷ l) e
    at false ls x e = ap (onto b) (e ∙ ap (λ (l : List (List ℕ)). l ++ lines_of more) x.2) ∙ ap (λ (l : List (List ℕ)). onto b l ++ lines_of more) (sym x.2)

-- the entries of both
entries_both : (m : Meaning) (n : ℕ) (ls more : List (List ℕ)) → entries_from m n (ls ++ more) ≡ entries_from m n ls ++ entries_from m (n + length ls) more
unfolding entries_from
entries_both m n [] more = ap (λ (k : ℕ). entries_from m k more) (sym (add-zero n))
entries_both m n (l ∷ ls) more = at (record { number = n; outcome = answered m (call.read_call l) }) (blank l) (entries_both m (n + 1) ls more ∙ ap (λ (k : ℕ). entries_from m (n + 1) ls ++ entries_from m k more) next)
  where
    next : n + 1 + length ls ≡ n + length (l ∷ ls)
    next = omega arith

    at : (e : Entry) (t : Bool) → entries_from m (n + 1) (ls ++ more) ≡ entries_from m (n + 1) ls ++ entries_from m (n + length (l ∷ ls)) more
        → cond t (entries_from m (n + 1) (ls ++ more)) (e ∷ entries_from m (n + 1) (ls ++ more))
        ≡ cond t (entries_from m (n + 1) ls) (e ∷ entries_from m (n + 1) ls) ++ entries_from m (n + length (l ∷ ls)) more
    at e true h = h
    at e false h = ap (λ (es : List Entry). e ∷ es) h

-- the same first line, with more after it
first_both : (n : ℕ) (ls more : List (List ℕ)) (x : Filled) → first_filled n ls ≡ Some x → first_filled n (ls ++ more) ≡ Some (record { number = x.number; line = x.line; rest = x.rest ++ more })
unfolding first_filled
first_both n [] more x e = let z : ◌≡◌ {A = ℕ} 0 1 = cc in absurd (omega arith)
first_both n (l ∷ ls) more x e = at (blank l) (first_both (n + 1) ls more x) e
  where
    some : {a b : Filled} → Some a ≡ Some b → a ≡ b
    some p = cc

    at : (t : Bool) → (first_filled (n + 1) ls ≡ Some x → first_filled (n + 1) (ls ++ more) ≡ Some (record { number = x.number; line = x.line; rest = x.rest ++ more }))
        → cond t (first_filled (n + 1) ls) (Some (record { number = n; line = l; rest = ls })) ≡ Some x
        → cond t (first_filled (n + 1) (ls ++ more)) (Some (record { number = n; line = l; rest = ls ++ more })) ≡ Some (record { number = x.number; line = x.line; rest = x.rest ++ more })
    at true h e = h e
    at false h e = ap (λ (y : Filled). Some (record { number = y.number; line = y.line; rest = y.rest ++ more })) (some e)

-- the line after the last is numbered by how many there are
first_place : (n : ℕ) (ls : List (List ℕ)) (x : Filled) → first_filled n ls ≡ Some x → x.number + 1 + length x.rest ≡ n + length ls
unfolding first_filled
first_place n [] x e = let z : ◌≡◌ {A = ℕ} 0 1 = cc in absurd (omega arith)
first_place n (l ∷ ls) x e = at (blank l) (first_place (n + 1) ls x) e
  where
    some : {a b : Filled} → Some a ≡ Some b → a ≡ b
    some p = cc

    at : (t : Bool) → (first_filled (n + 1) ls ≡ Some x → x.number + 1 + length x.rest ≡ n + 1 + length ls)
        → cond t (first_filled (n + 1) ls) (Some (record { number = n; line = l; rest = ls })) ≡ Some x → x.number + 1 + length x.rest ≡ n + length (l ∷ ls)
    at true h e = omega (arith, h e)
    at false h e = omega (arith, ap (λ (y : Filled). y.number) (some e), ap (λ (y : Filled). length y.rest) (some e))

-- a text that is not too long
whole : (text : List ℕ) → length text ≤ 16384 → page text ≡ opened (first_filled 1 (lines_of text))
whole text h = cond-false (ltb 16384 (length text)) _ _ (le-ltb 16384 (length text) h)

none_some : {h : Header} → None ≡ Some h → ⊥
none_some e = let z : ◌≡◌ {A = ℕ} 0 1 = cc in omega arith

module _ (n : ℕ) (ls more : List (List ℕ)) where
  -- a page with a header goes on
  begun_on : (k : ℕ) (r : Result Meaning Refusal) (h : Header) → (begun k (plays r n ls)).header ≡ Some h
      → (m : Meaning) × (begun k (plays r n (ls ++ more)) ≡ record { header = Some h; entries = (begun k (plays r n ls)).entries ++ entries_from m (n + length ls) more })
  begun_on k (Ok m) h e = (m, λ i. record { header = e i; entries = entries_both m n ls more i })
  begun_on k (Err r) h e = absurd (none_some e)

  sets_on : (k : ℕ) (a : Answer setting.Opening) (h : Header) → (begun k (sets a n ls)).header ≡ Some h
      → (m : Meaning) × (begun k (sets a n (ls ++ more)) ≡ record { header = Some h; entries = (begun k (sets a n ls)).entries ++ entries_from m (n + length ls) more })
  sets_on k (refused f) h e = absurd (none_some e)
  sets_on k (accepted o) h e = begun_on k (model_of o) h e

  -- a page with none stays
  begun_stays : (k : ℕ) (r : Result Meaning Refusal) → (begun k (plays r n ls)).header ≡ None → begun k (plays r n (ls ++ more)) ≡ begun k (plays r n ls)
  begun_stays k (Ok m) e = absurd (none_some (sym e))
  begun_stays k (Err r) e = refl

  sets_stays : (k : ℕ) (a : Answer setting.Opening) → (begun k (sets a n ls)).header ≡ None → begun k (sets a n (ls ++ more)) ≡ begun k (sets a n ls)
  sets_stays k (refused f) e = refl
  sets_stays k (accepted o) e = begun_stays k (model_of o) e

module _ (text more : List ℕ) (short : length (text ++ 10 ∷ more) ≤ 16384) where
  short_text : length text ≤ 16384
  short_text = omega (arith, length-append text (10 ∷ more))

  module _ (x : Filled) (first : first_filled 1 (lines_of text) ≡ Some x) where
    before : page text ≡ opened (Some x)
    before = whole text short_text ∙ ap opened first

    after : page (text ++ 10 ∷ more) ≡ opened (Some (record { number = x.number; line = x.line; rest = x.rest ++ lines_of more }))
    after = whole (text ++ 10 ∷ more) short ∙ ap (λ (ls : List (List ℕ)). opened (first_filled 1 ls)) (lines_both text more) ∙ ap opened (first_both 1 (lines_of text) (lines_of more) x first)

    on : (h : Header) → (page text).header ≡ Some h
        → (m : Meaning) × (page (text ++ 10 ∷ more) ≡ record { header = Some h; entries = (page text).entries ++ entries_from m (1 + length (lines_of text)) (lines_of more) })
    on h e =
        let y = sets_on (x.number + 1) x.rest (lines_of more) x.number (setting.read_setting x.line) h (ap (λ (p : Page). p.header) (sym before) ∙ e) in
        (y.0, after ∙ y.1 ∙ ap₂ (λ (es : List Entry) (k : ℕ). record { header = Some h; entries = es ++ entries_from y.0 k (lines_of more) }) (ap (λ (p : Page). p.entries) (sym before)) (first_place 1 (lines_of text) x first))

    stays : (page text).header ≡ None → page (text ++ 10 ∷ more) ≡ page text
    stays e = after ∙ sets_stays (x.number + 1) x.rest (lines_of more) x.number (setting.read_setting x.line) (ap (λ (p : Page). p.header) (sym before) ∙ e) ∙ sym before

pub goes_on : GoesOn
goes_on text more h short e = go (first_filled 1 (lines_of text)) refl
  where
    go : (o : Option Filled) → first_filled 1 (lines_of text) ≡ o
        → (m : Meaning) × (page (text ++ 10 ∷ more) ≡ record { header = Some h; entries = (page text).entries ++ entries_from m (1 + length (lines_of text)) (lines_of more) })
    go (Some x) q = on text more short x q h e
    go None q = absurd (none_some (ap (λ (p : Page). p.header) (sym (whole text (short_text text more short) ∙ ap opened q)) ∙ e))

pub stays_refused : StaysRefused
stays_refused text more x short q e = stays text more short x q e
