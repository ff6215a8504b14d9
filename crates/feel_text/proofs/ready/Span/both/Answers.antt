use Rattle.std.proofs.Common.{arith}
use Rattle.std.proofs.lemmas.Int.{to_z-of_z}
use Rattle.feel_text.proofs.ReadyTests.{both_spans}
use Rattle.feel_text.proofs.ready.Span.both.Goals as goal

pub returns : goal.returns
returns c = both_spans c.args.self c.args.other _ (grind (arith, to_z-of_z)) (grind (arith, to_z-of_z))
