use Rattle.std.proofs.Common.{◌≡◌, map, drop}
use Rattle.dmn_names.specs.Names.{have_twice}
use Rattle.dmn_names.proofs.distinct.few_have_twice.Given as goal

abbrev pub invariant-loop-place : goal.invariant-loop-place
invariant-loop-place g l = have_twice (map g.T.Named.name_of l.items) ≡ have_twice (map g.T.Named.name_of (drop l.place l.items))
