use Rattle.std.proofs.Common.{◌≡◌, ◌+◌, ◌*◌, ◌+ℤ◌, ◌≤ℤ◌, neg_ℤ, pos, drop}
use Rattle.feel_value.specs.Datum.{list}
use Rattle.feel_value.specs.View.{items_view}
use Rattle.feel_text.specs.Meaning.{fold_of, folded}
use Rattle.feel_eval.proofs.eval_calls.sum_of.Given as goal

abbrev pub invariant-loop-item : goal.invariant-loop-item
invariant-loop-item l = record {
  total : fold_of (λ x y. x +ℤ y) (list (items_view l.items)) ≡ folded (λ x y. x +ℤ y) l.total (items_view (drop l.item-index l.rest));
  low : neg_ℤ (pos (9223372036854775808 * (1 + l.item-index))) ≤ℤ l.total;
  high : l.total ≤ℤ pos (9223372036854775808 * (1 + l.item-index));
}
