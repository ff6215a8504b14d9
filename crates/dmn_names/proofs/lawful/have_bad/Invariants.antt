use Rattle.std.proofs.Common.{◌≡◌, map, drop}
use Rattle.dmn_names.specs.Names.{have_bad}
use Rattle.dmn_names.proofs.lawful.have_bad.Given as goal

abbrev pub invariant-loop-item : goal.invariant-loop-item
invariant-loop-item g l = have_bad (map g.T.Named.name_of l.items) ≡ have_bad (map g.T.Named.name_of (drop l.item-index l.items))
