use Rattle.desk_checking.proofs.AskedWithin.{other_texts}
use Rattle.desk_checking.proofs.decision_inputs.asked_within.Goals as goal

pub returns : goal.returns
returns c = other_texts c.args.asked c.texts_within-texts.result c.texts_within-texts.ensures
