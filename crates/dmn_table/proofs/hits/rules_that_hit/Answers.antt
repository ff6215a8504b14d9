use Rattle.std.proofs.Common.{Option, Vec, Global, sym, subst, IfSome}
use Rattle.dmn_table.specs.Classes.{input_entries}
use Rattle.table_classes.specs.Classes.{TellsColumns}
use Rattle.table_classes.specs.declared.classes.ColumnClasses.{ColumnClasses}
use Rattle.dmn_table.proofs.hits.rules_that_hit.Goals as goal

pub hits_by_classes-requires-clause-tell : goal.hits_by_classes-requires-clause-tell
hits_by_classes-requires-clause-tell c =
    subst (TellsColumns (input_entries c.args.rules.now)) (sym c.deref.ensures.value)
    (subst (λ (o : Option (Vec ColumnClasses Global)). IfSome o (λ columns. TellsColumns (input_entries c.args.rules.now) columns.items)) c.in-Some.is c.requires.tell)
