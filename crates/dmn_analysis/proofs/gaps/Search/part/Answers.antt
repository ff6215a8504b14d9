use Rattle.dmn_analysis.proofs.gaps.Search.part.Goals as goal

pub returns-clause-known : goal.returns-clause-known
returns-clause-known c = λ s order knows left. c.in_ok-put.ensures.known s c.args.cells.now order knows (rw c.in-Some.is at c.in_ok-lower.ensures.halves) left
