use Rattle.std.proofs.Common.{◌≡◌, map, drop}
use Rattle.feel_value.specs.Distinct.{is_among}
use Rattle.dmn_names.proofs.distinct.is_name_of_one.Given as goal

abbrev pub invariant-loop-item : goal.invariant-loop-item
invariant-loop-item g l = is_among (map g.T.Named.name_of l.items) l.name ≡ is_among (map g.T.Named.name_of (drop l.item-index l.items)) l.name
