use Rattle.dmn_told.proofs.Parting.{parts_by}
use Rattle.dmn_told.proofs.domains.first_part.Goals as goal

pub returns : goal.returns
returns c = parts_by c.args.text.now c.split_once.result c.split_once.ensures.cases
