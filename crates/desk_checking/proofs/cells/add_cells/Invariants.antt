use Rattle.std.proofs.Common.{◌≡◌, ◌++◌, drop}
use Rattle.serde_json.specs.Data.{array}
use Rattle.serde_json.specs.Written.{compact_text, items_text}
use Rattle.desk_checking.specs.TableTold.{cells_told}
use Rattle.desk_checking.proofs.cells.add_cells.Given as goal

abbrev pub invariant-loop-place : goal.invariant-loop-place
invariant-loop-place l = l.text.items ++ items_text l.later (cells_told l.words l.place (drop l.place l.cells)) ≡ l.fn.text.items ++ compact_text (array (cells_told l.words 0 l.cells))
