use Rattle.std.proofs.Common.{◌≡◌, ◌++◌, drop}
use Rattle.dmn_ranges.specs.Ranges.{scope}
use Rattle.dmn_ranges.proofs.names.Names.listed.Given as goal

abbrev pub invariant-loop-one : goal.invariant-loop-one
invariant-loop-one l = scope l.names ≡ l.listed ++ scope (drop l.one-index l.names)
