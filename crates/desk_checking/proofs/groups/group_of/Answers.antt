use Rattle.std.proofs.Common.{◌<◌, arith}
use Rattle.desk_checking.proofs.Grouping.{element_holds}
use Rattle.desk_checking.proofs.groups.group_of.Goals as goal

pub returns-then-rules-gt-MOST_RULES-clause-same : goal.returns-then-rules-gt-MOST_RULES-clause-same
returns-then-rules-gt-MOST_RULES-clause-same c = λ i r s at there here.
    absurd (omega (arith, element_holds (λ g. g < c.args.rule) c.args.groups.now i c.args.rule c.requires.before at))

pub returns-then-fits-clause-same : goal.returns-then-fits-clause-same
returns-then-fits-clause-same c = λ i r s at there here. c.fits.ensures c.if-fits.true i r s at there here

pub returns-clause-same : goal.returns-clause-same
returns-clause-same c = λ i r s at there here.
    absurd (omega (arith, element_holds (λ g. g < c.args.rule) c.args.groups.now i c.args.rule c.requires.before at))
