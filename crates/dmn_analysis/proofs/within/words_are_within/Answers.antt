use Rattle.std.proofs.Common.{arith}
use Rattle.dmn_analysis.proofs.Halves.{words_inside}
use Rattle.dmn_analysis.proofs.within.words_are_within.Goals as goal

pub returns : goal.returns
returns c = λ _ ws s e. words_inside ws s c.args.a.from c.args.a.to c.args.b.from c.args.b.to (omega arith) (omega arith) (omega arith) e
