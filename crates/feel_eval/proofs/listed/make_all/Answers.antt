use Rattle.std.proofs.Common.{◌∙◌, ap, get_or, arith}
use Rattle.feel_eval.proofs.Positions.{filled}
use Rattle.feel_eval.proofs.listed.make_all.Goals as goal

pub returns-clause-same : goal.returns-clause-same
returns-clause-same o c = λ i.
    ap (λ ys. get_or ys i 0) c.in_ok-resize.ensures.items ∙ filled c.args.slots.now.items c.args.count _ i (omega (arith, c.requires))
