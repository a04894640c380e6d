use Rattle.std.proofs.Common.{◌≡◌, List, ◌++◌, map, vec_items, sym, ap, ◌∙◌, append-nil, arith}
use Rattle.std.proofs.lemmas.List.{map-append}
use Rattle.listing.specs.Outcomes.{Entry}
use Rattle.listing.specs.Lines.{lines_left}
use Rattle.listing.specs.Listing.{entries_from}
use Rattle.listing.specs.Readings.{entry_in}
use Rattle.listing.specs.Walks.{Steps}
use Rattle.listing.proofs.Lines.{entries_none, turned}
use Rattle.listing.proofs.sheets.Sheet.list.Goals as goal

pub loop-number-preserved : goal.loop-number-preserved
loop-number-preserved g c =
    let m = g.M.Model.meaning c.args.model.now in
    let it = c.loop-number.number-iterator in
    let s : Steps it (c.in-Some.number, c.in-Some.line) c.next.new.self = c.in-Some.ensures.steps in
    let before = vec_items c.loop-number.self.entries in (
      tt,
      tt,
      turned m it.number c.next.new.self.number (lines_left it.rest) _ (map entry_in before) (map entry_in (vec_items c.push_reserved.new.self)) _ s.first s.next
          (ap (map entry_in) c.push_reserved.ensures.items ∙ map-append entry_in before _)
          c.entry_for.ensures.lists_the_line
          ∙ c.loop-number.invariant.2,
      omega (arith, s.less, c.loop-number.invariant.3, c.push_reserved.ensures.len),
      c.loop-number.invariant.4,
    )

pub returns : goal.returns
returns g c =
    let m = g.M.Model.meaning c.args.model.now in
    let it = c.loop-number.number-iterator in
    let none = entries_none m it.number (lines_left it.rest) c.in-None.ensures.steps in
    let es = map entry_in (vec_items c.loop-number.self.entries) in
    let all : es ≡ entries_from m c.args.lines.number (lines_left c.args.lines.rest) = sym (append-nil es) ∙ ap (λ (l : List Entry). es ++ l) (sym none) ∙ c.loop-number.invariant.2 in
    record { holds_the_page = λ i. record { header = c.loop-number.invariant.4 i; entries = all i } }
