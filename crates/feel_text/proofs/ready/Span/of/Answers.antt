use Rattle.std.proofs.Common.{arith}
use Rattle.std.proofs.lemmas.Int.{ints}
use Rattle.feel_text.proofs.ReadyTests.{one_number}
use Rattle.feel_text.proofs.ready.Span.of.Goals as goal

pub returns : goal.returns
returns c v = one_number _ c.args.n v (omega (arith, ints)) (omega (arith, ints))
