use Rattle.std.proofs.Common.{◌≡◌, ◌<◌, ℕ, map, Some}
use Rattle.std.specs.List.{slice_get}
use Rattle.dmn_table.specs.Parts.{rule_view}
use Rattle.dmn_table.specs.Table.{Rule}
use Rattle.desk_checking.specs.Outputs.{AreSame}
use Rattle.desk_checking.proofs.groups.fits.Given as goal

abbrev pub invariant-loop-place : goal.invariant-loop-place
invariant-loop-place l =
    (i : ℕ) (r s : Rule) → i < l.place → slice_get l.groups i ≡ Some l.number → slice_get (map rule_view l.rules) i ≡ Some r → slice_get (map rule_view l.rules) l.rule ≡ Some s → AreSame r.gives s.gives
