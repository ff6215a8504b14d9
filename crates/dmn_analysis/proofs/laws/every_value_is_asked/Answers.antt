use Rattle.dmn_analysis.proofs.HitRules.{everything}
use Rattle.dmn_analysis.proofs.laws.every_value_is_asked.Goals as goal

pub returns-clause-unique : goal.returns-clause-unique
returns-clause-unique c = λ t asked every unique m values inputs none. unique m values inputs (everything asked values every)

pub returns-clause-never : goal.returns-clause-never
returns-clause-never c = λ t asked i every never m values inputs none. never m values inputs (everything asked values every)

pub returns-clause-masked : goal.returns-clause-masked
returns-clause-masked c = λ t asked i every masked m values inputs none. masked m values inputs (everything asked values every)
