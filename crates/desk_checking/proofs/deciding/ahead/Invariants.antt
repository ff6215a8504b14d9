use Rattle.std.proofs.Common.{◌≡◌, ◌<◌, ℕ, Some, true}
use Rattle.std.specs.List.{slice_get}
use Rattle.dmn_table.specs.declared.hit_policy.HitPolicy.TheVariants.{Priority}
use Rattle.dmn_table.specs.Hits.{does_hit}
use Rattle.dmn_table.specs.Table.{Rule}
use Rattle.desk_checking.specs.Deciding.{HitsBefore}
use Rattle.desk_checking.proofs.deciding.ahead.Given as goal

abbrev pub invariant-loop-other : goal.invariant-loop-other
invariant-loop-other l =
    (s : Rule) → slice_get l.table.rules l.rule ≡ Some s → (j : ℕ) (r : Rule) → j < l.other → slice_get l.table.rules j ≡ Some r → does_hit l.env l.values r ≡ Some true
    → HitsBefore Priority l.table.outputs l.env j l.rule r s → ⊥
