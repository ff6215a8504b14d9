use Rattle.std.proofs.Common.{◌≡◌, ap, sym, subst, option_map, get_or, ◌∙◌}
use Rattle.dmn_logic.specs.LogicView.{logic_view}
use Rattle.dmn_service.specs.Places.{name_at, named_places}
use Rattle.dmn_service.specs.Run.{values_in, outcome_under, filled_by}
use Rattle.dmn_service.specs.declared.plan.Item.{Item}
use Rattle.dmn_service.proofs.Kept.{filled_more, outcome_named}
use Rattle.dmn_service.proofs.service.fill.Goals as goal

pub loop-place-preserved : goal.loop-place-preserved
loop-place-preserved c =
    let items = c.args.items.now in
    let order = c.args.order.now in
    let x = c.index-items-place.result in
    let place = get_or order c.loop-place.place-index 0 in
    let named : x.named ≡ named_places (name_at items) x.needs.items =
    subst (λ (y : Item). y.named ≡ named_places (name_at items) y.needs.items) (sym c.index-items-place.is) (c.requires.named place x (c.requires.order c.loop-place.place-index 0 c.loop-place-test.true)) in record {
      filled = filled_more (filled_by items order (values_in c.args.found.now.items)) items order (values_in c.loop-place.found.items) (values_in c.keep.new.found.items) c.loop-place.place-index x c.in_ok-outcome.outcome
          c.loop-place.invariant.filled c.loop-place-test.true (c.requires.order c.loop-place.place-index 0 c.loop-place-test.true) c.index-items-place.is
          (c.in_ok-outcome.ensures ∙ ap (λ f. outcome_under f x.named (option_map logic_view x.logic)) c.deref.ensures.value ∙ outcome_named items c.loop-place.found.items x named) c.keep.ensures.kept;
      count = c.keep.ensures.count ∙ c.loop-place.invariant.count;
    }
