use Rattle.std.proofs.Common.{ℕ, List, Option, Some, sym, ap, ap₂, ◌∙◌, arith}
use Rattle.std.specs.Borrow.{Bor}
use Rattle.listing.specs.Lines.{lines_left, size_left}
use Rattle.listing.specs.Listing.{first_filled}
use Rattle.listing.proofs.Lines.{passes, finds, none_left}
use Rattle.listing.proofs.texts.walking.LinesIterator.next.Goals as goal

pub returns-then-not-is_blank-clause-steps : goal.returns-then-not-is_blank-clause-steps
returns-then-not-is_blank-clause-steps c = record {
  first =
      sym c.loop-self.invariant.0
      ∙ finds c.loop-self.self.number _ _ _ (ap lines_left c.in-Some.is ∙ c.first_line.ensures.parts_the_text) (sym c.if-not-is_blank.ensures.tells_blank_lines)
      ∙ ap (λ (t : Option (Bor (List ℕ))). Some (record { number = c.loop-self.self.number; line = c.first_line.result.0.now; rest = lines_left t })) (sym c.after.ensures.keeps_the_rest);
  next = c.after.ensures.counts_on;
  less = omega (arith, ap size_left c.in-Some.is, c.first_line.ensures.leaves_less, c.loop-self.invariant.1, ap size_left c.after.ensures.keeps_the_rest);
}

pub loop-self-preserved : goal.loop-self-preserved
loop-self-preserved c = (
  ap₂ (λ (n : ℕ) (t : Option (Bor (List ℕ))). first_filled n (lines_left t)) c.after.ensures.counts_on c.after.ensures.keeps_the_rest
      ∙ passes c.loop-self.self.number _ _ _ (ap lines_left c.in-Some.is ∙ c.first_line.ensures.parts_the_text) (sym c.if-not-is_blank.ensures.tells_blank_lines)
      ∙ c.loop-self.invariant.0,
  omega (arith, ap size_left c.in-Some.is, c.first_line.ensures.leaves_less, c.loop-self.invariant.1, ap size_left c.after.ensures.keeps_the_rest),
)

pub returns-clause-steps : goal.returns-clause-steps
returns-clause-steps c = sym c.loop-self.invariant.0 ∙ none_left c.loop-self.self.number _ (ap lines_left c.in_default.is)
