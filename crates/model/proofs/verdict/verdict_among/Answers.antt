use Rattle.model.proofs.Verdicts.{named_none, named_one, named_more, right_none, right_one}
use Rattle.model.proofs.verdict.verdict_among.Goals as goal

pub returns-then-count-eq0 : goal.returns-then-count-eq0
returns-then-count-eq0 g c =
    let x = right_none (g.M.Model.meaning c.args.model.now) (g.M.Model.lawful c.args.model.now) c.args.count c.requires c.if-count-eq0.true in
    record { is = x.is; names = x.names }

pub returns-in_default : goal.returns-in_default
returns-in_default g c =
    let x = named_none (g.M.Model.meaning c.args.model.now) (g.M.Model.lawful c.args.model.now) c.args.count c.requires c.in_default.ensures.is_the_lowest_survivor_from_there in
    record { is = x.is; names = x.names }

pub returns-then-count-eq1 : goal.returns-then-count-eq1
returns-then-count-eq1 g c =
    let x = right_one (g.M.Model.meaning c.args.model.now) (g.M.Model.lawful c.args.model.now) c.args.count c.requires c.if-count-eq0.false
    c.in-Some.lowest c.in-Some.ensures.is_the_lowest_survivor_from_there c.if-count-eq1.true in
    record { is = x.is; names = x.names }

pub returns-in-None : goal.returns-in-None
returns-in-None g c =
    let x = named_one (g.M.Model.meaning c.args.model.now) (g.M.Model.lawful c.args.model.now) c.args.count c.requires
    c.in-Some.lowest c.in-Some.ensures.is_the_lowest_survivor_from_there c.in-Some.ensures.is_a_survivor c.in-None.ensures.is_the_lowest_survivor_from_there in
    record { is = x.is; names = x.names }

pub returns-in-Some-lowest_from : goal.returns-in-Some-lowest_from
returns-in-Some-lowest_from g c =
    let x = named_more (g.M.Model.meaning c.args.model.now) (g.M.Model.lawful c.args.model.now) c.args.count c.requires
    c.in-Some.lowest c.in-Some-lowest_from.second c.in-Some.ensures.is_the_lowest_survivor_from_there c.in-Some.ensures.is_a_survivor
    c.in-Some-lowest_from.ensures.is_the_lowest_survivor_from_there c.in-Some-lowest_from.ensures.is_a_survivor in
    record { is = x.is; names = x.names }
