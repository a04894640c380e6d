-- What the program's steps stand for.
use Rattle.std.specs.Prelude.{List, map}
use Rattle.model.specs.Actions.{Action}
use Rattle.steps.specs.declared.requests.Step.{Step}
use Rattle.steps.specs.declared.requests.Step.TheVariants.{Hear, Look, Put}

abbrev pub action_of : Step → Action
action_of (Hear row) = Action.hear row.now
action_of (Look agent row) = Action.look agent row.now
action_of (Put fact row) = Action.put fact row.now

abbrev pub actions : List Step → List Action
actions steps = map action_of steps
