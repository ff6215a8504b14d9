use Rattle.std.proofs.Common.{◌∙◌, sym, ap, map, [], ◌∷◌, option_map, string_bytes}
use Rattle.std.proofs.lemmas.List.{map-append}
use Rattle.dmn_form.specs.ModelView.{decision_view}
use Rattle.dmn_names.specs.Places.{value_place, needs_by_place}
use Rattle.feel_value.specs.Found.{each}
use Rattle.dmn_names.specs.PlacedModel.{placed_model, needs_view}
use Rattle.dmn_names.proofs.Placing.{placed_turn}
use Rattle.dmn_names.proofs.places.Places.needs_of_all.Goals as goal

pub loop-decision-preserved : goal.loop-decision-preserved
loop-decision-preserved c =
    let model = placed_model c.args.self.now in
    placed_turn (λ d. each (value_place model) d.needs) decision_view c.deref-decision-items.result.now c.loop-decision.decision-index c.decision-item.result
    (needs_view c.loop-decision.needs) (needs_view c.push.new.self) c.in-Some.places.items (needs_by_place model)
    c.loop-decision.invariant c.decision-item.is c.loop-decision-test.true
    (sym (ap (option_map (λ v. v.items)) c.in-Some.is) ∙ c.in_ok-places.ensures ∙ ap (λ ts. each (value_place model) (map string_bytes ts)) c.deref.ensures.value)
    (ap (map (λ p. p.items)) c.in_ok-push.ensures.items ∙ map-append (λ p. p.items) c.loop-decision.needs.items (c.in-Some.places ∷ []))
