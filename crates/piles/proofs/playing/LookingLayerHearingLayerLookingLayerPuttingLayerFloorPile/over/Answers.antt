use Rattle.std.proofs.Common.{ap, ◌∙◌}
use Rattle.stages.specs.Layers.{hearing_stage}
use Rattle.putting.specs.Layer.{putting_stage}
use Rattle.looking.specs.Layer.{looking_stage}
use Rattle.piles.proofs.playing.LookingLayerHearingLayerLookingLayerPuttingLayerFloorPile.over.Goals as goal

pub returns : goal.returns
returns g c =
    let lower = c.new-lower.ensures.is_the_stage_below_with_16_looks_more ∙ ap looking_stage (c.new-2.ensures.is_the_stage_below_and_puts ∙ ap putting_stage c.new.ensures.is_the_model_without_steps) in
    record { is_the_full_stage = c.new-4.ensures.is_the_stage_below_with_16_looks_more ∙ ap looking_stage (c.new-3.ensures.is_the_stage_below_and_hears ∙ ap hearing_stage lower) }
