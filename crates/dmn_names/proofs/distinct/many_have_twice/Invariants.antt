use Rattle.std.proofs.Common.{◌≡◌, map, drop}
use Rattle.dmn_names.specs.Names.{have_twice}
use Rattle.dmn_names.proofs.Seen.{twice_after}
use Rattle.dmn_names.proofs.distinct.many_have_twice.Given as goal

abbrev pub invariant-loop-item : goal.invariant-loop-item
invariant-loop-item g l = have_twice (map g.T.Named.name_of l.items) ≡ twice_after l.seen (map g.T.Named.name_of (drop l.item-index l.items))
