use Rattle.std.proofs.Common.{map, sym, ◌∙◌}
use Rattle.dmn_table.specs.Parts.{column_view}
use Rattle.dmn_table.proofs.Wholes.{counted}
use Rattle.dmn_table.proofs.collected.count.Goals as goal

pub returns : goal.returns
returns c = c.number_of.ensures ∙ sym (counted (map column_view c.args.outputs.now) c.args.env.now c.args.rules.now (sym c.in_ok-have_outputs.ensures ∙ c.if-not-branch.false))
