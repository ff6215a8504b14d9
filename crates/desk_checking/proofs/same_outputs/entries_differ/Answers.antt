use Rattle.std.proofs.Common.{◌∙◌, sym}
use Rattle.desk_checking.proofs.SameValues.{same_told}
use Rattle.desk_checking.proofs.same_outputs.entries_differ.Goals as goal

pub returns-then-are_same : goal.returns-then-are_same
returns-then-are_same c = same_told c.args.one.now c.args.other.now (sym c.tree-one.ensures ∙ c.are_same.ensures c.if-are_same.true ∙ c.tree-other.ensures)
