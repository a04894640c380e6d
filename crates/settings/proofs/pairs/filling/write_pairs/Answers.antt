use Rattle.std.proofs.Common.{rules, ◌≡◌, ℕ, ◌<◌, List, true, is_ok, ◌-◌, ◌*◌, ◌≤◌, ◌+◌, map, length, take, drop, arith, ◌∙◌}
use Rattle.std.proofs.lemmas.List.{length-map, length-take-le, length-drop}
use Rattle.settings.specs.Pairs.{row, pairs, fill_answer}
use Rattle.settings.specs.Readings.{numbers}
use Rattle.settings.proofs.Listing.{admitted, count_step, length_row, row_by_length, row_placed, rows_more, rows_all, accepted_fills}
use Rattle.settings.proofs.pairs.filling.write_pairs.Goals as goal

-- the row of x has its places from `start` on
room : (low sum n start x : ℕ) → is_ok (fill_answer low sum n) ≡ true → start + length (pairs x sum) ≡ length (pairs low sum) → x < sum → start + (sum - 2 * x) ≤ n
room low sum n start x h e l = let a = admitted low sum n h in omega (arith, count_step x sum l, a.3)

part : {X : Type 0} (xs : List X) (start n : ℕ) → start + n ≤ length xs → length (take (start + n - start) (drop start xs)) ≡ n
part xs start n h = let e : start + n - start ≡ n = omega arith in length-take-le (start + n - start) (drop start xs) (omega (arith, length-drop start xs)) ∙ e

pub slice_bounds-write_row-end : goal.slice_bounds-write_row-end
slice_bounds-write_row-end c =
    let r = room c.args.low c.args.sum (length c.args.list.now) c.loop-x.start c.loop-x.x c.requires.is_admitted c.loop-x.invariant.0 c.loop-x-test.true in search rules

pub loop-x-preserved : goal.loop-x-preserved
loop-x-preserved c =
    let e = count_step c.loop-x.x c.args.sum c.loop-x-test.true in
    let r = room c.args.low c.args.sum (length c.args.list.now) c.loop-x.start c.loop-x.x c.requires.is_admitted c.loop-x.invariant.0 c.loop-x-test.true in
    let p = part c.loop-x.list c.loop-x.start c.row_len.result (omega arith) in (
      omega arith,
      rows_more numbers c.loop-x.list _ c.loop-x.start (c.loop-x.start + c.row_len.result) c.loop-x.x c.args.sum _ c.loop-x-test.true
          (row_placed numbers c.loop-x.list c.write_row.new.row c.loop-x.start (c.loop-x.start + c.row_len.result - c.loop-x.start) (row c.args.sum c.loop-x.x)
          (c.write_row.ensures.writes_the_row ∙ row_by_length c.args.sum c.loop-x.x _ (p ∙ c.row_len.ensures.counts)) (length_row c.args.sum c.loop-x.x ∙ omega arith) (omega arith))
          (omega arith) c.loop-x.invariant.1,
    )

pub returns : goal.returns
returns c =
    let xs = c.args.list.now in
    let a = admitted c.args.low c.args.sum (length xs) c.requires.is_admitted in
    record {
      fills_the_front =
          accepted_fills numbers xs (map numbers c.loop-x.list) c.args.low c.args.sum _ a.4
          (rows_all numbers c.loop-x.list (map numbers xs) c.loop-x.start c.loop-x.x c.args.low c.args.sum
          c.loop-x-test.false (omega (arith, length-map xs numbers)) c.loop-x.invariant.1);
    }
