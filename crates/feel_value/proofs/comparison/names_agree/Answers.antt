use Rattle.std.proofs.Common.{sym}
use Rattle.feel_value.proofs.Pairs.{other_names}
use Rattle.feel_value.proofs.comparison.names_agree.Goals as goal

pub returns-then-a-b : goal.returns-then-a-b
returns-then-a-b c = sym (other_names c.args.a.now c.args.b.now c.if-a-b.true)
