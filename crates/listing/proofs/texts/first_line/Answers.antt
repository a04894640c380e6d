use Rattle.std.proofs.Common.{ℕ, eqb, rules, add-one, Some, None, sym}
use Rattle.std.proofs.lemmas.List.{take_rest}
use Rattle.std.proofs.lemmas.List.Quantifiers.{position-Some}
use Rattle.std.proofs.lemmas.Iterator.{YieldsList-from_slice}
use Rattle.std.proofs.lemmas.Iterator.Search.{position_from_yields_List}
use borrow.Author.Tests.{tests}
use Rattle.listing.proofs.Lines.{line_ends, no_end}
use Rattle.listing.proofs.texts.first_line.Goals as goal

pub returns-in-Some-clause-parts_the_text : goal.returns-in-Some-clause-parts_the_text
returns-in-Some-clause-parts_the_text c =
    let is = position_from_yields_List (λ (b : ℕ). eqb b 10) _ _ (Some c.in-Some.end) c.in-Some.ensures.ran (YieldsList-from_slice c.args.text.now cc) (λ x b q k. search (rules, tests)) in
    let x = position-Some (λ (b : ℕ). eqb b 10) c.args.text.now c.in-Some.end 0 (sym is) in
    simp (take_rest, add-one) (line_ends c.args.text.now c.in-Some.end x.0 x.2 x.1)

pub returns-in-None-clause-parts_the_text : goal.returns-in-None-clause-parts_the_text
returns-in-None-clause-parts_the_text c =
    let is = position_from_yields_List (λ (b : ℕ). eqb b 10) _ _ None c.in-None.ensures.ran (YieldsList-from_slice c.args.text.now cc) (λ x b q k. search (rules, tests)) in
    no_end c.args.text.now (sym is)
