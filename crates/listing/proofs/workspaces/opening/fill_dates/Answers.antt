use Rattle.std.proofs.Common.{true, false, map, get_or, Ok, Err, sym, ap, ◌∙◌, arith}
use Rattle.std.proofs.lemmas.Result.{err_from_is_err_and}
use Rattle.std.proofs.lemmas.List.{take_all}
use Rattle.std.proofs.lemmas.Bool.{cond-true, cond-false, true≢false}
use Rattle.model.specs.declared.refusals.Refusal.TheVariants.{BadDate}
use Rattle.settings.specs.Dates.{is_date, are_dates}
use Rattle.lines.specs.declared.dates.MonthDay.{MonthDay}
use Rattle.lines.specs.Dates.{month_day}
use Rattle.listing.proofs.Settling.{held, failed}
use Rattle.listing.proofs.Dating.{dates_at, dates_end, dates_pushed}
use Rattle.listing.proofs.workspaces.opening.fill_dates.Goals as goal

-- the numbers at hand
abbrev first : MonthDay
first = record { month = 0; day = 0 }

pub returns-in_err-new : goal.returns-in_err-new
returns-in_err-new c =
    let days = c.args.days.now in
    let i = c.loop-day.day-index in
    let bad = failed (is_date (month_day (get_or days i first))) (month_day (get_or days i first)) BadDate c.in_err-new.field-0.0 c.in_err-new.ensures.is_of_its_numbers in
    let none = c.loop-day.invariant.1 ∙ dates_at days i first false c.loop-day-test.true bad.0 in
    let p = err_from_is_err_and c.from_residual.result c.from_residual.ensures.1 in
    record {
      keeps_its_room = c.loop-day.invariant.3 ∙ c.clear.ensures.capacity;
      tells_dates = rw (p.1, p.2) (ap Err bad.1 ∙ sym (cond-false (are_dates (map month_day days)) (Ok tt) (Err BadDate) none));
      holds_the_dates = λ all. absurd (true≢false (sym all ∙ none));
    }

pub loop-day-preserved : goal.loop-day-preserved
loop-day-preserved c =
    let days = c.args.days.now in
    let i = c.loop-day.day-index in
    let good = held (is_date (month_day (get_or days i first))) _ (month_day (get_or days i first)) BadDate c.in_ok-new.ensures.is_of_its_numbers in (
      dates_pushed days i first _ _ _ c.loop-day-test.true c.loop-day.invariant.0 good.1 c.push_reserved.ensures.items,
      c.loop-day.invariant.1 ∙ dates_at days i first true c.loop-day-test.true good.0,
      omega arith,
      c.push_reserved.ensures.capacity ∙ c.loop-day.invariant.3,
    )

pub returns : goal.returns
returns c =
    let days = c.args.days.now in
    let all = c.loop-day.invariant.1 ∙ dates_end days c.loop-day.day-index c.loop-day-test.false in
    record {
      keeps_its_room = c.loop-day.invariant.3 ∙ c.clear.ensures.capacity;
      tells_dates = sym (cond-true (are_dates (map month_day days)) (Ok tt) (Err BadDate) all);
      holds_the_dates = λ _. c.loop-day.invariant.0 ∙ ap (map month_day) (take_all c.loop-day.day-index days c.loop-day-test.false);
    }
