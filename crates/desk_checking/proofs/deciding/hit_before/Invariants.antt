use Rattle.std.proofs.Common.{◌≡◌, ◌≢◌, ◌<◌, ℕ, map, Some, true}
use Rattle.std.specs.List.{slice_get}
use Rattle.dmn_table.specs.Hits.{does_hit}
use Rattle.dmn_table.specs.Parts.{rule_view}
use Rattle.dmn_table.specs.Table.{Rule}
use Rattle.desk_checking.proofs.deciding.hit_before.Given as goal

abbrev pub invariant-loop-other : goal.invariant-loop-other
invariant-loop-other l = (j : ℕ) (r : Rule) → j < l.other → slice_get (map rule_view l.rules) j ≡ Some r → does_hit l.env l.values r ≢ Some true
