use Rattle.dmn_names.proofs.Indexing.{place_in}
use Rattle.dmn_names.proofs.index.place_in_order.Goals as goal

pub returns : goal.returns
returns c = place_in c.args.names.now c.args.order.now c.args.name.now c.found_by_halves.result c.requires c.found_by_halves.ensures
