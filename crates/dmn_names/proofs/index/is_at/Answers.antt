use Rattle.std.proofs.Common.{◌∙◌, sym}
use Rattle.dmn_names.proofs.Indexing.{named_at}
use Rattle.dmn_names.proofs.index.is_at.Goals as goal

pub returns-in-Some : goal.returns-in-Some
returns-in-Some c = λ e. named_at c.args.names.now c.args.place c.in-Some.other.now c.args.name.now c.in-Some.ensures.lookup.1 c.in-Some.ensures.lookup.3.0 (sym c.eq.ensures ∙ e)
