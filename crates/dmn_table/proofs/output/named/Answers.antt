use Rattle.std.proofs.Common.{ap, ◌∙◌}
use Rattle.feel_value.specs.Limits.{names_differ}
use Rattle.dmn_table.specs.Parts.{names_of}
use Rattle.dmn_table.proofs.Scalars.{differ}
use Rattle.dmn_table.proofs.output.named.Goals as goal

pub context_of_distinct-requires : goal.context_of_distinct-requires
context_of_distinct-requires c = ap names_differ c.in_ok-entries.ensures ∙ differ (names_of c.args.outputs.now) c.args.values.items c.requires
