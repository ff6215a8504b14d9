use Rattle.std.proofs.Common.{◌≡◌, drop}
use Rattle.feel_value.specs.Datum.{list}
use Rattle.feel_value.specs.View.{items_view}
use Rattle.feel_text.specs.Meaning.{fold_of, folded, least}
use Rattle.feel_eval.proofs.eval_calls.least_of.Given as goal

abbrev pub invariant-loop-item : goal.invariant-loop-item
invariant-loop-item l = fold_of least (list (items_view l.items)) ≡ folded least l.best (items_view (drop l.item-index l.rest))
