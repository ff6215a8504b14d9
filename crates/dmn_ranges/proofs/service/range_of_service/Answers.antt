use Rattle.std.proofs.Common.{◌≡◌, ◌∙◌, sym, ap, subst, true}
use Rattle.std.specs.List.{zip}
use Rattle.feel_value.specs.declared.feel.Outcome.{Outcome}
use Rattle.dmn_service.proofs.Result.{found_is_result}
use Rattle.dmn_service.specs.Decision.{parameters_of, service_result}
use Rattle.dmn_service.specs.Places.{name_at}
use Rattle.dmn_service.specs.Run.{nothing_found, filled_by, given_at}
use Rattle.dmn_ranges.specs.Ranges.{covers}
use Rattle.dmn_ranges.specs.Services.{outputs_outcomes}
use Rattle.dmn_ranges.specs.declared.outcomes.Outcomes.{Outcomes}
use Rattle.dmn_ranges.proofs.SoundServices.{outputs_told, within_length}
use Rattle.dmn_ranges.proofs.service.range_of_service.Goals as goal

pub returns : goal.returns
returns c =
    let items = c.args.items.now in
    let service = c.args.service.now in
    let outs = service.outputs.items in
    let told = c.in_ok-along.along.told.items in
    let same : c.outputs_outcomes.result ≡ outputs_outcomes told outs =
    c.outputs_outcomes.ensures ∙ ap (λ ts. outputs_outcomes ts c.deref.result.now) c.deref-2.ensures.value ∙ ap (outputs_outcomes told) c.deref.ensures.value in
    λ m s values plan within. (
    let found = filled_by items service.order.items (given_at service.parameters.items values nothing_found) in
    let P : Outcomes → Type 0 = λ o. covers o (service_result m s (zip (parameters_of s) values)) ≡ true in
    let Q : Outcome → Type 0 = λ p. covers (outputs_outcomes told outs) p ≡ true in
    subst P (sym same) (subst Q (found_is_result m s items service values plan c.requires.places (sym (within_length c.args.domains.now values within) ∙ c.requires.domains)) (outputs_told (name_at items) told found outs (c.in_ok-along.ensures.told values within).0)))
