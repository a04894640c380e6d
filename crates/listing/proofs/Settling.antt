-- The page of a setting, from what its making answers.
use Rattle.std.proofs.Common.{◌≡◌, ℕ, ◌≤◌, Bool, true, false, cond, ◌&&◌, leb, List, map, length, take, drop, is_ok, Ok, Err, sym, refl, ap, ◌∙◌, arith, take_at}
use Rattle.std.proofs.lemmas.List.{length-map, take-map}
use Rattle.std.proofs.lemmas.Bool.{and_from, le-leb}
use Rattle.model.specs.declared.refusals.Refusal.{Refusal}
use Rattle.model.specs.declared.refusals.Refusal.TheVariants.{CaseCount, BadDate}
use Rattle.model.specs.Meaning.{Meaning}
use Rattle.settings.specs.declared.dates.Date.{Date}
use Rattle.settings.specs.Pairs.{pairs, fill_answer, laid, filled, pairs_meaning, pairs_of}
use Rattle.settings.specs.Dates.{are_dates, dates_meaning, dates_of}
use Rattle.settings.specs.Readings.{date_numbers}
use Rattle.settings.proofs.Listing.{admitted, count_step}
use Rattle.lines.specs.declared.settings.Setting.{Setting}
use Rattle.lines.specs.Firsts.{Answer, accepted}
use Rattle.lines.specs.Settings.{Opening, opening_for, read_setting}
use Rattle.listing.specs.Listing.{played, model_of, plays, sets, of_refusal}

-- what a test answers is a value where it holds, and a refusal where it does not
pub held : {X : Type 0} (b : Bool) (x y : X) (r : Refusal) → Ok x ≡ cond b (Ok y) (Err r) → (b ≡ true) × (x ≡ y)
held true x y r e = (refl, cc)
held false x y r e = let z : ◌≡◌ {A = ℕ} 0 1 = cc in absurd (omega arith)

pub failed : {X : Type 0} (b : Bool) (y : X) (r e : Refusal) → Err e ≡ cond b (Ok y) (Err r) → (b ≡ false) × (e ≡ r)
failed true y r e q = let z : ◌≡◌ {A = ℕ} 0 1 = cc in absurd (omega arith)
failed false y r e q = (refl, cc)

-- a list has 1 to 4,096 cases
abbrev pub fair : ℕ → Bool
fair n = leb 1 n && leb n 4096

pub is_fair : (n : ℕ) → 1 ≤ n → n ≤ 4096 → fair n ≡ true
is_fair n low high = and_from _ _ (le-leb 1 n low) (le-leb n 4096 high)

-- the pairs are counted, and there is one at least
pub record Counted (low sum n count : ℕ) : Type 0 where
  pub all : count ≡ length (pairs low sum)
  pub some : 1 ≤ count
  pub few : count ≤ 4096
  pub fits : count ≤ n

pub counted : (low sum n count : ℕ) → Ok count ≡ fill_answer low sum n → Counted low sum n count
counted low sum n count e =
    let x = admitted low sum n (ap is_ok (sym e)) in
    let is : count ≡ length (pairs low sum) = cc (e, x.4) in
    record {
      all = is;
      some = omega (arith, is, count_step low sum (omega (arith, x.0)));
      few = omega (arith, is, x.2);
      fits = omega (arith, is, x.3);
    }

-- the pairs stand at the front of the list
pub pairs_front : {P : Type 0} (f : P → ℕ × ℕ) (low sum count : ℕ) (before after : List P) → Ok count ≡ fill_answer low sum (length before)
    → map f after ≡ filled low sum (map f before) → map f (take count after) ≡ pairs low sum
unfolding filled
pairs_front f low sum count before after e w =
    let same : fill_answer low sum (length (map f before)) ≡ Ok count = ap (fill_answer low sum) (length-map before f) ∙ sym e in
    sym (take-map f count after) ∙ ap (take count) (w ∙ ap (λ r. laid r (pairs low sum) (map f before)) same)
    ∙ take_at (pairs low sum) (drop count (map f before)) count (sym (counted low sum (length before) count e).all)

-- what the line lists are dates, and the dates that were made have these numbers
pub record Dated (ds : List (ℕ × ℕ)) (dates : List Date) : Type 0 where
  pub all : are_dates ds ≡ true
  pub same : map date_numbers dates ≡ ds
  pub long : length dates ≡ length ds

pub dated : (said ds : List (ℕ × ℕ)) (dates made : List Date) → said ≡ ds → dates ≡ made → Ok (tt {0}) ≡ cond (are_dates said) (Ok tt) (Err BadDate)
    → (are_dates said ≡ true → map date_numbers made ≡ said) → Dated ds dates
dated said ds dates made e f q holds =
    let so = (held (are_dates said) tt tt BadDate q).0 in
    let same = ap (map date_numbers) f ∙ holds so ∙ e in
    record { all = ap are_dates (sym e) ∙ so; same = same; long = sym (length-map dates date_numbers) ∙ ap length same }

module _ (n : ℕ) (ls : List (List ℕ)) where
  -- what a setting line asks for, from the setting that was read
  pub asked : (x v : Setting) (ds : List (ℕ × ℕ)) (line : List ℕ) → x ≡ v → accepted (opening_for x ds) ≡ read_setting line → plays (model_of (opening_for v ds)) n ls ≡ sets (read_setting line) n ls
  asked x v ds line e q = ap (λ (a : Answer Opening). sets a n ls) (ap (λ (y : Setting). accepted (opening_for y ds)) (sym e) ∙ q)

  pub pairs_refused : (low sum : ℕ) (e : Refusal) → Err e ≡ fill_answer low sum 4096 → Err (of_refusal e) ≡ plays (pairs_of low sum) n ls
  unfolding pairs_of
  pairs_refused low sum e q = rw (sym q) refl

  pub pairs_played : (low sum count : ℕ) (m : Meaning) → Ok count ≡ fill_answer low sum 4096 → m ≡ pairs_meaning (pairs low sum) → Ok (played m n ls) ≡ plays (pairs_of low sum) n ls
  unfolding pairs_of
  pairs_played low sum count m q e = rw (sym q, e) refl

  pub dates_bad : (ds : List (ℕ × ℕ)) → are_dates ds ≡ false → Err (of_refusal BadDate) ≡ plays (dates_of ds) n ls
  unfolding dates_of
  dates_bad ds e = rw e refl

  pub dates_refused : (ds : List (ℕ × ℕ)) → are_dates ds ≡ true → fair (length ds) ≡ false → Err (of_refusal CaseCount) ≡ plays (dates_of ds) n ls
  unfolding dates_of
  dates_refused ds a q = rw (a, q) refl

  pub dates_played : (ds : List (ℕ × ℕ)) (m : Meaning) → are_dates ds ≡ true → fair (length ds) ≡ true → m ≡ dates_meaning ds → Ok (played m n ls) ≡ plays (dates_of ds) n ls
  unfolding dates_of
  dates_played ds m a q e = rw (a, q, e) refl
