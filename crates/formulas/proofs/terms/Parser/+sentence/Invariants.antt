use Rattle.std.proofs.Common.{◌≡◌, ◌+◌, ◌*◌, length}
use Rattle.lexer.specs.declared.tokens.Sign.TheVariants.{And, Or}
use Rattle.formulas.specs.Readers.{term, conjunction}
use Rattle.formulas.specs.Sentences.{both, either}
use Rattle.formulas.specs.Stores.{store_of}
use Rattle.formulas.proofs.Chains.{Going}
use Rattle.formulas.proofs.terms.Parser.+sentence.Given as goal

abbrev pub decreases-conjunction : goal.decreases-conjunction
decreases-conjunction l = 4 * l.levels + 2

abbrev pub decreases-disjunction : goal.decreases-disjunction
decreases-disjunction l = 4 * l.levels + 3

abbrev pub decreases-group : goal.decreases-group
decreases-group l = 4 * l.levels

abbrev pub decreases-knowledge : goal.decreases-knowledge
decreases-knowledge l = 4 * l.levels

abbrev pub decreases-negation : goal.decreases-negation
decreases-negation l = 4 * l.levels

abbrev pub decreases-term : goal.decreases-term
decreases-term l = 4 * l.levels + 1

abbrev pub decreases-value : goal.decreases-value
decreases-value l = 4 * l.levels

abbrev pub invariant-conjunction-loop-column : goal.invariant-conjunction-loop-column
invariant-conjunction-loop-column l =
    record {
      going : Going And both (term l.levels) l.initial.self.cursor.now (store_of l.initial.self.nodes.now) l.self.cursor.now (store_of l.self.nodes.now);
      same_cursor : l.self.cursor.ghost_name ≡ l.initial.self.cursor.ghost_name;
      same_nodes : l.self.nodes.ghost_name ≡ l.initial.self.nodes.ghost_name;
    }

abbrev pub decreases-conjunction-loop-column : goal.decreases-conjunction-loop-column
decreases-conjunction-loop-column l = length l.self.cursor.now

abbrev pub invariant-disjunction-loop-column : goal.invariant-disjunction-loop-column
invariant-disjunction-loop-column l =
    record {
      going : Going Or either (conjunction l.levels) l.initial.self.cursor.now (store_of l.initial.self.nodes.now) l.self.cursor.now (store_of l.self.nodes.now);
      same_cursor : l.self.cursor.ghost_name ≡ l.initial.self.cursor.ghost_name;
      same_nodes : l.self.nodes.ghost_name ≡ l.initial.self.nodes.ghost_name;
    }

abbrev pub decreases-disjunction-loop-column : goal.decreases-disjunction-loop-column
decreases-disjunction-loop-column l = length l.self.cursor.now
