use Rattle.std.proofs.Common.{[], ◌∷◌, ◌++◌, sym, ap, ◌∙◌, arith, vec_items, length}
use Rattle.std.proofs.Output.{has_written_of_eq}
use Rattle.std.proofs.lemmas.List.{take_all}
use Rattle.std.specs.List.{flat_map}
use Rattle.listing.specs.Texts.{heading, numbered}
use Rattle.listing.specs.Readings.{entry_in}
use Rattle.listing.proofs.Printing.{printed_in}
use Rattle.listing.proofs.sheets.filling.SheetDisplay.fmt.Goals as goal

pub returns-clause-writes : goal.returns-clause-writes
returns-clause-writes g c plain ok =
    let entries = vec_items c.args.self.now.entries in
    let all = take_all c.loop-entry.entry-index entries (omega (arith, ap length c.as_slice-entry-items.ensures.value)) in
    has_written_of_eq g.W.Write.write_str_gives _ _ _ _ (ap (λ es. heading c.args.self.now.header ++ flat_map (λ e. numbered (entry_in e) ++ 10 ∷ []) es) all ∙ ap (λ l. heading c.args.self.now.header ++ l) (sym (printed_in entries)))
    (c.loop-entry.invariant plain)
