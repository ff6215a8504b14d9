use Rattle.std.proofs.Common.{sym}
use Rattle.dmn_names.specs.Index.{names_in}
use Rattle.dmn_names.proofs.Indexing.{place_there}
use Rattle.dmn_names.proofs.index.place_near.Goals as goal

pub returns-then-is_at : goal.returns-then-is_at
returns-then-is_at c = sym (place_there (names_in c.args.names.now) c.args.order.now c.args.name.now c.args.guess c.requires (c.is_at.ensures c.if-is_at.true))
