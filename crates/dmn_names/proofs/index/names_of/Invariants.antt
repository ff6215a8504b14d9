use Rattle.std.proofs.Common.{◌≡◌, ◌++◌, map, drop}
use Rattle.dmn_names.specs.Index.{names_in}
use Rattle.dmn_names.proofs.index.names_of.Given as goal

abbrev pub invariant-loop-item : goal.invariant-loop-item
invariant-loop-item g l = map g.T.Named.name_of l.items ≡ names_in l.names.items ++ map g.T.Named.name_of (drop l.item-index l.items)
