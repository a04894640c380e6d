use Rattle.std.proofs.Common.{◌≡◌, ℕ, ◌+◌, ◌*◌, Bool, ◌++◌, drop, ap, ◌∙◌, arith}
use Rattle.model.specs.Rows.{count}
use Rattle.evaluator.specs.Rows.{rows_of}
use Rattle.evaluator.proofs.Written.{rows_none, rows_more, ready, each_row, each_tells}
use Rattle.evaluator.proofs.fills.fill_rows.Goals as goal

pub loop-place-init : goal.loop-place-init
loop-place-init g c = rows_none (g.M.Model.meaning c.args.model.now) c.args.nodes.now c.args.words c.args.work.now

pub fill_row-requires : goal.fill_row-requires
fill_row-requires g c =
    ready (g.M.Model.meaning c.args.model.now) c.args.nodes.now c.loop-place.place c.args.words c.args.work.now c.loop-place.work c.requires.per_row c.loop-place.invariant
    (c.args.root + 1) c.requires.fillable c.loop-place-test.true c.loop-place.auto.work

pub loop-place-preserved : goal.loop-place-preserved
loop-place-preserved g c =
    rows_more (g.M.Model.meaning c.args.model.now) c.args.nodes.now c.loop-place.place c.args.words c.args.work.now c.loop-place.work c.requires.per_row c.loop-place.invariant
    c.fill_row.new.work c.fill_row.ensures

pub returns : goal.returns
returns g c =
    let m = g.M.Model.meaning c.args.model.now in
    let ns = c.args.nodes.now in
    let last : c.loop-place.place ≡ c.args.root + 1 = omega arith in
    let all = c.loop-place.invariant ∙ ap (λ (k : ℕ). rows_of m ns k ++ drop (k * c.args.words) c.args.work.now) last in
    let rows = each_row m (g.M.Model.lawful c.args.model.now) ns (c.args.root + 1) c.args.words c.args.work.now c.loop-place.work c.requires.per_row all in
    record {
      writes = all;
      counts = ap (λ (t : ℕ → Bool). count t m.width) (rows c.args.root (omega arith));
      tells = each_tells m (g.M.Model.lawful c.args.model.now) ns (c.args.root + 1) c.args.words c.args.work.now c.loop-place.work c.requires.per_row all c.args.root (omega arith);
    }
