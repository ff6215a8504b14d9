use Rattle.std.proofs.Common.{◌≡◌, ◌++◌, drop}
use Rattle.std.specs.List.{flat_map, slice_get}
use Rattle.desk_lines.specs.Lines.{ended}
use Rattle.desk_checking.specs.TableTold.{line_if}
use Rattle.desk_checking.proofs.table_lines.add_each_overlap.Given as goal

abbrev pub invariant-loop-place : goal.invariant-loop-place
invariant-loop-place l = l.text.items ++ flat_map ended (flat_map (λ place. line_if l.words (slice_get l.found place)) (drop l.place-index l.places)) ≡ l.fn.text.items ++ flat_map ended (flat_map (λ place. line_if l.words (slice_get l.found place)) l.places)
