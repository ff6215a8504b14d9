use Rattle.std.proofs.Common.{◌≡◌, ◌+◌, ◌*◌, drop}
use Rattle.feel_value.specs.Limits.{depth, items_depth}
use Rattle.feel_value.specs.View.{datum_of, items_view}
use Rattle.feel_text.specs.Meaning.{paths_of}
use Rattle.feel_value.proofs.FromJson.{items_after}
use Rattle.feel_eval.proofs.eval_paths.+path.Given as goal

abbrev pub decreases-path : goal.decreases-path
decreases-path l = 3 * depth (datum_of l.value.now)

abbrev pub decreases-list_path : goal.decreases-list_path
decreases-list_path l = 3 * items_depth (items_view l.items.now) + 2

abbrev pub decreases-paths : goal.decreases-paths
decreases-paths l = 3 * items_depth (items_view l.items.now) + 1

abbrev pub invariant-paths-loop-item : goal.invariant-paths-loop-item
invariant-paths-loop-item l = paths_of l.name (items_view l.items) ≡ items_after l.values.items (paths_of l.name (items_view (drop l.item-index l.items)))
