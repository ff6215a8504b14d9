use Rattle.std.proofs.Common.{length}
use Rattle.dmn_table.specs.Parts.{entry_counts}
use Rattle.dmn_table.proofs.EqualPlaces.{fitting_distinct}
use Rattle.dmn_table.proofs.table.Table.one_or_context.Goals as goal

pub one_or_context-requires : goal.one_or_context-requires
one_or_context-requires c =
    let table = c.self.inside in
    rw c.deref.ensures.value (fitting_distinct (length table.inputs.items) table.outputs.items (entry_counts table.rules.items) c.self.invariant.0)
