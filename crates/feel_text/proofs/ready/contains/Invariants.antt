use Rattle.std.proofs.Common.{◌≡◌, drop}
use Rattle.feel_value.specs.View.{datum_of, items_view}
use Rattle.feel_text.specs.Satisfied.{is_member}
use Rattle.feel_text.proofs.ready.contains.Given as goal

abbrev pub invariant-loop-item : goal.invariant-loop-item
invariant-loop-item l = is_member (datum_of l.value) (items_view l.items) ≡ is_member (datum_of l.value) (items_view (drop l.item-index l.items))
