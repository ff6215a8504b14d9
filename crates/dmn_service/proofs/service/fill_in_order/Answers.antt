use Rattle.std.proofs.Common.{◌≡◌, ◌∙◌, ◌+◌, ap, sym, subst, true, List, ℕ, is_some, option_map, get_or, drop, ◌∷◌}
use Rattle.std.specs.List.{list_all}
use Rattle.std.proofs.lemmas.List.{at_drop_more}
use Rattle.feel_value.specs.Found.{value_of}
use Rattle.feel_text.specs.Needed.{is_found}
use Rattle.dmn_logic.specs.LogicView.{logic_view}
use Rattle.dmn_service.specs.Places.{name_at, named_places}
use Rattle.dmn_service.specs.Run.{values_in, outcome_under, filled_by, AreKnown}
use Rattle.dmn_service.specs.declared.plan.Item.{Item}
use Rattle.dmn_service.proofs.Given.{two_true}
use Rattle.dmn_service.proofs.Kept.{filled_more, outcome_named}
use Rattle.dmn_service.proofs.Known.{known_more, known_needs}
use Rattle.dmn_service.proofs.service.fill_in_order.Goals as goal

pub outcome_known-requires : goal.outcome_known-requires
outcome_known-requires c = λ yes.
    let items = c.args.items.now in
    let order = c.args.order.now in
    let found = c.loop-place.found.items in
    let x = c.index-items-place.result in
    let i = c.loop-place.place-index in
    let inside = c.requires.order i 0 c.loop-place-test.true in
    let named : x.named ≡ named_places (name_at items) x.needs.items =
    subst (λ (y : Item). y.named ≡ named_places (name_at items) y.needs.items) (sym c.index-items-place.is) (c.requires.named (get_or order i 0) x inside) in
    let known : AreKnown items (values_in found) (get_or order i 0 ∷ drop (i + 1) order) =
    subst (λ qs. AreKnown items (values_in found) qs) (at_drop_more (λ (qs : List ℕ). qs) order i 0 c.loop-place-test.true) (c.loop-place.invariant.known yes) in
    subst (λ fs. list_all (is_found fs) x.named ≡ true) (sym c.deref.ensures.value) (known_needs items found (get_or order i 0) (drop (i + 1) order) x known inside c.index-items-place.is named)

pub loop-place-preserved : goal.loop-place-preserved
loop-place-preserved c =
    let items = c.args.items.now in
    let order = c.args.order.now in
    let found = c.loop-place.found.items in
    let x = c.index-items-place.result in
    let i = c.loop-place.place-index in
    let place = get_or order i 0 in
    let o = c.in_ok-outcome.outcome in
    let named : x.named ≡ named_places (name_at items) x.needs.items =
    subst (λ (y : Item). y.named ≡ named_places (name_at items) y.needs.items) (sym c.index-items-place.is) (c.requires.named place x (c.requires.order i 0 c.loop-place-test.true)) in record {
      filled = filled_more (filled_by items order (values_in c.args.found.now.items)) items order (values_in found) (values_in c.keep.new.found.items) i x o
          c.loop-place.invariant.filled c.loop-place-test.true (c.requires.order i 0 c.loop-place-test.true) c.index-items-place.is
          (c.in_ok-outcome.ensures ∙ ap (λ f. outcome_under f x.named (option_map logic_view x.logic)) c.deref.ensures.value ∙ outcome_named items found x named) c.keep.ensures.kept;
      count = c.keep.ensures.count ∙ c.loop-place.invariant.count;
      known = λ yes.
          let both = two_true c.loop-place.all (is_some (value_of o)) (sym c.are_all-all.ensures ∙ yes) in
          known_more items (values_in found) (values_in c.keep.new.found.items) place (drop (i + 1) order) o
          (subst (λ qs. AreKnown items (values_in found) qs) (at_drop_more (λ (qs : List ℕ). qs) order i 0 c.loop-place-test.true) (c.loop-place.invariant.known both.0)) c.keep.ensures.kept both.1;
    }
