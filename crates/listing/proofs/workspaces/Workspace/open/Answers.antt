use Rattle.std.proofs.Common.{◌≡◌, ℕ, List, ◌++◌, map, length, take, Ok, vec_items, sym, ap, ◌∙◌, arith, length-take}
use Rattle.std.proofs.lemmas.Bool.{true≢false}
use Rattle.std.proofs.Math.Seq.{take-append_seam}
use Rattle.std.proofs.lemmas.Result.{err_from_is_err_and}
use Rattle.model.specs.declared.refusals.Refusal.TheVariants.{CaseCount, BadDate}
use Rattle.settings.specs.Pairs.{fill_answer, pairs_meaning}
use Rattle.settings.specs.Dates.{are_dates, dates_meaning}
use Rattle.settings.specs.Readings.{numbers, date_numbers, records}
use Rattle.settings.proofs.Meanings.{pairs_mean, dates_mean}
use Rattle.lines.specs.Dates.{month_day, days_of}
use Rattle.listing.specs.Lines.{lines_left}
use Rattle.listing.proofs.Settling.{held, failed, fair, is_fair, counted, pairs_front, dated, asked, pairs_refused, pairs_played, dates_bad, dates_refused, dates_played}
use Rattle.listing.proofs.workspaces.Workspace.open.Goals as goal

-- the front of what stands in the places
front : {P : Type 0} (len count : ℕ) (list rest : List P) → length list ≡ len → take count (take len (list ++ rest)) ≡ take count list
front len count list rest e = ap (λ (k : ℕ). take count (take k (list ++ rest))) (sym e) ∙ ap (take count) (take-append_seam list rest)

pub returns-in_err-count-in-Pairs : goal.returns-in_err-count-in-Pairs
returns-in_err-count-in-Pairs c =
    let p = err_from_is_err_and c.from_residual-in_err-count-in-Pairs.result c.from_residual-in_err-count-in-Pairs.ensures.1 in
    let low = c.in-Pairs.low in
    let sum = c.in-Pairs.sum in
    let n = c.args.lines.number in
    let ls = lines_left c.args.lines.rest in
    record {
      settles = rw (p.1, p.2) (pairs_refused n ls low sum c.in_err-count-in-Pairs.field-0.0 (c.in_err-count-in-Pairs.ensures.answers_how_many ∙ ap (fill_answer low sum) (c.as_mut_slice.ensures.len ∙ c.args.self.now.places))
          ∙ asked n ls _ _ (days_of c.read_setting.new.dates) c.args.line.now c.in-Pairs.is c.in_ok-low.ensures.answers_the_line);
    }

pub returns-in_err-cases_of-in-Pairs : goal.returns-in_err-cases_of-in-Pairs
returns-in_err-cases_of-in-Pairs c =
    let count = c.in_ok-count-in-Pairs.count in
    let x = counted c.in-Pairs.low c.in-Pairs.sum (length c.as_mut_slice.result.now) count c.in_ok-count-in-Pairs.ensures.answers_how_many in
    let long : length (take count c.deref.result.now) ≡ count = simp length-take (omega (arith, x.fits, c.deref.ensures.len, c.as_mut_slice.ensures.len)) in
    let bad = failed (fair (length (take count c.deref.result.now))) _ CaseCount _ c.in_err-cases_of-in-Pairs.ensures.checks_the_list in
    absurd (true≢false (sym (is_fair (length (take count c.deref.result.now)) (omega (arith, long, x.some)) (omega (arith, long, x.few))) ∙ bad.0))

pub returns-in_ok-cases_of-in-Pairs : goal.returns-in_ok-cases_of-in-Pairs
returns-in_ok-cases_of-in-Pairs c =
    let low = c.in-Pairs.low in
    let sum = c.in-Pairs.sum in
    let n = c.args.lines.number in
    let ls = lines_left c.args.lines.rest in
    let count = c.in_ok-count-in-Pairs.count in
    let answer = c.in_ok-count-in-Pairs.ensures.answers_how_many in
    let cases = c.in_ok-cases_of-in-Pairs.field-0.list in
    let is = (held (fair (length (take count c.deref.result.now))) (records cases) (take count c.deref.result.now) CaseCount c.in_ok-cases_of-in-Pairs.ensures.checks_the_list).1
    ∙ ap (take count) c.deref.ensures.value ∙ front c.args.self.now.pairs.len count c.fill_pairs.new.list _ (omega (arith, c.fill_pairs.auto.list, c.as_mut_slice.ensures.len)) in
    record {
      settles = ap Ok c.list.ensures.holds_the_page
          ∙ pairs_played n ls low sum count _ (answer ∙ ap (fill_answer low sum) (c.as_mut_slice.ensures.len ∙ c.args.self.now.places))
          (pairs_mean (records cases) ∙ ap pairs_meaning (ap (map numbers) is ∙ pairs_front numbers low sum count c.as_mut_slice.result.now c.fill_pairs.new.list answer c.in_ok-count-in-Pairs.ensures.fills_the_front))
          ∙ asked n ls _ _ (days_of c.read_setting.new.dates) c.args.line.now c.in-Pairs.is c.in_ok-low.ensures.answers_the_line;
    }

pub returns-in_err-fill_dates-in-Dates : goal.returns-in_err-fill_dates-in-Dates
returns-in_err-fill_dates-in-Dates c =
    let p = err_from_is_err_and c.from_residual-in_err-fill_dates-in-Dates.result c.from_residual-in_err-fill_dates-in-Dates.ensures.1 in
    let n = c.args.lines.number in
    let ls = lines_left c.args.lines.rest in
    let ds = days_of c.read_setting.new.dates in
    let x = failed (are_dates (map month_day c.as_slice.result.now)) (tt {0}) BadDate c.in_err-fill_dates-in-Dates.field-0.0 c.in_err-fill_dates-in-Dates.ensures.tells_dates in
    record { settles = rw (p.1, p.2, x.1) (dates_bad n ls ds (ap are_dates (sym c.as_slice.ensures.its_dates) ∙ x.0) ∙ asked n ls _ _ (days_of c.read_setting.new.dates) c.args.line.now c.in-Dates.is c.in_ok-low.ensures.answers_the_line) }

pub returns-in_err-cases_of-in-Dates : goal.returns-in_err-cases_of-in-Dates
returns-in_err-cases_of-in-Dates c =
    let p = err_from_is_err_and c.from_residual-in_err-cases_of-in-Dates.result c.from_residual-in_err-cases_of-in-Dates.ensures.1 in
    let n = c.args.lines.number in
    let ls = lines_left c.args.lines.rest in
    let ds = days_of c.read_setting.new.dates in
    let made = c.as_slice-in-Dates.result.now in
    let d = dated (map month_day c.as_slice.result.now) ds made (vec_items c.fill_dates.new.dates) c.as_slice.ensures.its_dates c.as_slice-in-Dates.ensures.value
    c.in_ok-fill_dates-in-Dates.ensures.tells_dates c.in_ok-fill_dates-in-Dates.ensures.holds_the_dates in
    let x = failed (fair (length made)) made CaseCount c.in_err-cases_of-in-Dates.field-0.0 c.in_err-cases_of-in-Dates.ensures.checks_the_list in
    record { settles = rw (p.1, p.2, x.1) (dates_refused n ls ds d.all (ap fair (sym d.long) ∙ x.0) ∙ asked n ls _ _ (days_of c.read_setting.new.dates) c.args.line.now c.in-Dates.is c.in_ok-low.ensures.answers_the_line) }

pub returns-in_ok-cases_of-in-Dates : goal.returns-in_ok-cases_of-in-Dates
returns-in_ok-cases_of-in-Dates c =
    let n = c.args.lines.number in
    let ls = lines_left c.args.lines.rest in
    let ds = days_of c.read_setting.new.dates in
    let made = c.as_slice-in-Dates.result.now in
    let cases = c.in_ok-cases_of-in-Dates.field-0.list in
    let d = dated (map month_day c.as_slice.result.now) ds made (vec_items c.fill_dates.new.dates) c.as_slice.ensures.its_dates c.as_slice-in-Dates.ensures.value
    c.in_ok-fill_dates-in-Dates.ensures.tells_dates c.in_ok-fill_dates-in-Dates.ensures.holds_the_dates in
    let x = held (fair (length made)) (records cases) made CaseCount c.in_ok-cases_of-in-Dates.ensures.checks_the_list in
    record {
      settles = ap Ok c.list-in-Dates.ensures.holds_the_page
          ∙ dates_played n ls ds _ d.all (ap fair (sym d.long) ∙ x.0) (dates_mean (records cases) ∙ ap dates_meaning (ap (map date_numbers) x.1 ∙ d.same))
          ∙ asked n ls _ _ (days_of c.read_setting.new.dates) c.args.line.now c.in-Dates.is c.in_ok-low.ensures.answers_the_line;
    }
