use Rattle.std.proofs.Common.{subst}
use Rattle.dmn_ranges.specs.Folds.{IsNearIf}
use Rattle.dmn_ranges.proofs.Folding.{near_first}
use Rattle.dmn_ranges.proofs.folded.with_member.Goals as goal

pub returns-in-None-clause-near : goal.returns-in-None-clause-near
returns-in-None-clause-near c = λ n h. near_first n c.first.result.numbers c.first.ensures.near

pub returns-in-Some-clause-near : goal.returns-in-Some-clause-near
returns-in-Some-clause-near c = λ n h. c.next.ensures.near n (subst (λ g. IsNearIf n g) c.in-Some.is h)
