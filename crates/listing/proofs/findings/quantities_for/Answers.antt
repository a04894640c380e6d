use Rattle.std.proofs.Common.{◌≡◌, map, ◌∙◌, ap₂, take, arith}
use Rattle.std.specs.List.{range_with_len}
use Rattle.std.proofs.lemmas.List.FromFn.{fill_by_all, take-map-range_with_len}
use Rattle.listing.specs.Findings.{kept_at, quantities_at}
use Rattle.listing.proofs.findings.quantities_for.Goals as goal

pub returns : goal.returns
unfolding kept_at quantities_at
returns g c =
    let m = g.M.Model.meaning c.args.model.now in
    let few = (g.M.Model.lawful c.args.model.now).few_quantities in
    let all : c.loop-quantity.values ≡ map (λ q. m.quantity q c.args.world) (range_with_len 0 8) =
    fill_by_all (λ q. m.quantity q c.args.world) c.loop-quantity.values 8 0 c.loop-quantity.invariant.0 (λ k h. c.loop-quantity.invariant.1 k (omega arith)) in
    record {
      keeps_each_in_its_place = λ i. record { values = all i; count = c.quantities.ensures i };
      asks_each_quantity = ap₂ take c.quantities.ensures all ∙ take-map-range_with_len (λ q. m.quantity q c.args.world) 0 8 m.quantities few;
    }
