use Rattle.std.proofs.Common.{◌∙◌, sym, map}
use Rattle.dmn_names.proofs.Rising.{rising_once}
use Rattle.dmn_names.proofs.distinct.have_twice.Goals as goal

pub returns-then-are_rising : goal.returns-then-are_rising
returns-then-are_rising g c = sym (rising_once (map g.T.Named.name_of c.args.items.now) (sym c.are_rising.ensures ∙ c.if-are_rising.true))
