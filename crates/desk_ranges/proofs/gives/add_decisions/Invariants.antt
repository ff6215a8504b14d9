use Rattle.std.proofs.Common.{◌≡◌, ◌++◌, drop}
use Rattle.std.specs.List.{flat_map}
use Rattle.desk_lines.specs.Lines.{ended}
use Rattle.desk_ranges.specs.Lines.{decision_lines}
use Rattle.desk_ranges.proofs.gives.add_decisions.Given as goal

abbrev pub invariant-loop-place : goal.invariant-loop-place
invariant-loop-place l =
    l.initial.text.items ++ flat_map ended (decision_lines l.service l.told l.order) ≡ l.text.items ++ flat_map ended (decision_lines l.service l.told (drop l.place-index l.order))
