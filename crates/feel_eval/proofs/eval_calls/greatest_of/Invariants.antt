use Rattle.std.proofs.Common.{◌≡◌, drop}
use Rattle.feel_value.specs.Datum.{list}
use Rattle.feel_value.specs.View.{items_view}
use Rattle.feel_text.specs.Meaning.{fold_of, folded, greatest}
use Rattle.feel_eval.proofs.eval_calls.greatest_of.Given as goal

abbrev pub invariant-loop-item : goal.invariant-loop-item
invariant-loop-item l = fold_of greatest (list (items_view l.items)) ≡ folded greatest l.best (items_view (drop l.item-index l.rest))
