use Rattle.std.proofs.Common.{◌≡◌, ◌∙◌, ◌<◌, ℕ, Some, option_map, sym, ap, subst, arith, length}
use Rattle.std.proofs.lemmas.List.{length-map}
use Rattle.dmn_form.specs.ModelView.{service_view}
use Rattle.dmn_graph.specs.Needs.{needs_view, AreNeedsBelow}
use Rattle.dmn_names.specs.Parts.{value_names}
use Rattle.dmn_names.specs.Places.{placed_service, ArePlacesOf}
use Rattle.dmn_names.specs.PlacedModel.{placed_model, placed_service_view}
use Rattle.dmn_names.proofs.NamesBack.{distinct_values}
use Rattle.dmn_plan.proofs.ServicesByName.{all_from, needs_inside, as_many_places, few_need}
use Rattle.dmn_plan.proofs.ServicesFaults.{output_below}
use Rattle.dmn_check.proofs.ServiceLaws.{fault_by_name}
use Rattle.dmn_check.proofs.services.fault_of.Goals as goal

pub placed_fault-requires-clause-inside : goal.placed_fault-requires-clause-inside
placed_fault-requires-clause-inside c =
    let m = placed_model c.args.places.now in
    subst (λ (n : ℕ). AreNeedsBelow n (needs_view c.args.needs.now)) (length-map c.args.needs.now (λ v. v.items))
    (needs_inside m (needs_view c.args.needs.now) (distinct_values m c.requires.distinct) c.requires.known)

pub placed_fault-requires-clause-starts : goal.placed_fault-requires-clause-starts
placed_fault-requires-clause-starts c =
    let m = placed_model c.args.places.now in
    let s = service_view c.args.service.now in
    let p = placed_service_view c.in-Some.lists in
    let distinct = distinct_values m c.requires.distinct in
    let placed : placed_service m s ≡ Some p = sym c.in_ok-lists.ensures.places ∙ ap (option_map placed_service_view) c.in-Some.is in
    let places : ArePlacesOf m p = rw c.in-Some.is at c.in_ok-lists.ensures.inside in
    let many : length (needs_view c.args.needs.now) ≡ length (value_names m) = as_many_places m (needs_view c.args.needs.now) distinct c.requires.known in
    all_from (λ q. q < length c.args.needs.now) c.in-Some.lists.outputs.items
    (λ q i. let b = (output_below m s (needs_view c.args.needs.now) p distinct c.requires.known placed places q i).1 in omega (arith, length-map c.args.needs.now (λ v. v.items)))

pub returns : goal.returns
returns c =
    let m = placed_model c.args.places.now in
    let s = service_view c.args.service.now in
    let p = placed_service_view c.in-Some.lists in
    let distinct = distinct_values m c.requires.distinct in
    let placed : placed_service m s ≡ Some p = sym c.in_ok-lists.ensures.places ∙ ap (option_map placed_service_view) c.in-Some.is in
    let places : ArePlacesOf m p = rw c.in-Some.is at c.in_ok-lists.ensures.inside in
    c.in_ok-fault.ensures (length m.decisions) (few_need m (needs_view c.args.needs.now) distinct c.requires.known)
    ∙ fault_by_name m s (needs_view c.args.needs.now) p distinct c.requires.known placed places
    (sym c.has_no_output.ensures ∙ c.if-has_no_output.false)
