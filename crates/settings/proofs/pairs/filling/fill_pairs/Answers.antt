use Rattle.std.proofs.Common.{◌≡◌, length, Err, sym, ap, ◌∙◌}
use Rattle.std.proofs.lemmas.Result.{err_from_is_err_and}
use Rattle.settings.specs.Pairs.{fill_answer}
use Rattle.settings.specs.Readings.{numbers}
use Rattle.settings.proofs.Listing.{refused_leaves}
use Rattle.settings.proofs.pairs.filling.fill_pairs.Goals as goal

pub returns-in_err-count : goal.returns-in_err-count
returns-in_err-count c =
    let p = err_from_is_err_and c.from_residual.result c.from_residual.ensures.1 in
    let e : c.from_residual.result ≡ fill_answer c.args.low c.args.sum (length c.args.list.now) =
    p.1 ∙ ap Err p.2 ∙ c.in_err-count.ensures.answers_how_many in
    record {
      answers_how_many = e;
      fills_the_front = refused_leaves numbers c.args.list.now c.args.low c.args.sum p.0 (sym p.1 ∙ e);
    }
