use Rattle.std.proofs.Common.{subst}
use Rattle.dmn_table.specs.Classes.{input_entries}
use Rattle.table_classes.specs.Classes.{TellsColumns}
use Rattle.dmn_table.proofs.table.Table.with_classes.Goals as goal

pub invariant_of-self : goal.invariant_of-self
invariant_of-self c =
    let kept = c.self.invariant in
    (kept.0, kept.1, kept.2, subst (λ rules. TellsColumns (input_entries rules) c.in_ok-classes.classes.items) c.deref-3.ensures.value c.in_ok-classes.ensures)
