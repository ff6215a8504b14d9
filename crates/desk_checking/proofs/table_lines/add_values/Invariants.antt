use Rattle.std.proofs.Common.{◌≡◌, ◌++◌, drop}
use Rattle.serde_json.specs.Data.{array}
use Rattle.serde_json.specs.Written.{compact_text, items_text}
use Rattle.desk_checking.specs.TableTold.{values_told}
use Rattle.desk_checking.proofs.table_lines.add_values.Given as goal

abbrev pub invariant-loop-value : goal.invariant-loop-value
invariant-loop-value l = l.text.items ++ items_text l.later (values_told (drop l.value-index l.values)) ≡ l.fn.text.items ++ compact_text (array (values_told l.values))
