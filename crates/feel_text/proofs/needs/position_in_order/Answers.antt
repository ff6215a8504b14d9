use Rattle.feel_text.proofs.Needed.{found_in_order}
use Rattle.feel_text.proofs.needs.position_in_order.Goals as goal

pub returns : goal.returns
returns c = found_in_order c.args.name.now c.args.needs.now c.args.order.now c.found_by_halves.result c.requires c.found_by_halves.ensures
