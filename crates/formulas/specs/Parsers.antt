-- What the readers of formulas do to the cursor and the list that they hold.
use Rattle.std.specs.Prelude.{◌≡◌, Result}
use Rattle.formulas.specs.declared.faults.FormulaFault.{FormulaFault}
use Rattle.formulas.specs.declared.terms.Parser.{Parser}
use Rattle.formulas.specs.Reading.{Reader}
use Rattle.formulas.specs.Sentences.{Sentence}
use Rattle.formulas.specs.Stores.{store_of}
use Rattle.formulas.specs.Steps.{Reads, Keeps}

-- what was read was written behind the nodes that were there; the cursor and the list are the same ones
pub record Parsed (read : Reader Sentence) (before after : Parser) (r : Result (Unit {0}) FormulaFault) : Type 0 where
  pub reads : Reads read before.cursor.now after.cursor.now r (store_of before.nodes.now) (store_of after.nodes.now)
  pub keeps : Keeps (store_of before.nodes.now) (store_of after.nodes.now)
  pub same_cursor : after.cursor.ghost_name ≡ before.cursor.ghost_name
  pub same_nodes : after.nodes.ghost_name ≡ before.nodes.ghost_name
