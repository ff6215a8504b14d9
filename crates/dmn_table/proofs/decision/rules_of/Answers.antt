use Rattle.std.proofs.Common.{sym, subst, IfSome}
use Rattle.dmn_table.specs.Classes.{input_entries}
use Rattle.table_classes.specs.Classes.{TellsColumns}
use Rattle.dmn_table.proofs.decision.rules_of.Goals as goal

pub rules_that_hit-requires-clause-tell : goal.rules_that_hit-requires-clause-tell
rules_that_hit-requires-clause-tell c =
    subst (λ rules. IfSome c.table.inside.classes (λ columns. TellsColumns (input_entries rules) columns.items)) (sym c.deref-3.ensures.value) c.table.invariant.3
