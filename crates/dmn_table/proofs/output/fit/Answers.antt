use Rattle.std.proofs.Common.{arith}
use Rattle.dmn_table.proofs.Scalars.{scalars_made}
use Rattle.dmn_table.proofs.output.fit.Goals as goal

pub returns-then-values-lt-MOST_NODES : goal.returns-then-values-lt-MOST_NODES
returns-then-values-lt-MOST_NODES c = λ all. scalars_made c.args.outputs.now c.args.values.now c.requires (c.are_scalars.ensures all) (omega (arith, c.if-values-lt-MOST_NODES.true))
