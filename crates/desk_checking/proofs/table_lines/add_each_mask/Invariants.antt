use Rattle.std.proofs.Common.{◌≡◌, ◌++◌, drop, map}
use Rattle.std.specs.List.{flat_map}
use Rattle.desk_lines.specs.Lines.{ended}
use Rattle.desk_checking.specs.TableTold.{mask_line}
use Rattle.desk_checking.proofs.table_lines.add_each_mask.Given as goal

abbrev pub invariant-loop-mask : goal.invariant-loop-mask
invariant-loop-mask l = l.text.items ++ flat_map ended (map mask_line (drop l.mask-index l.masks)) ≡ l.fn.text.items ++ flat_map ended (map mask_line l.masks)
