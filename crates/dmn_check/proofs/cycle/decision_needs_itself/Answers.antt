use Rattle.std.proofs.Common.{◌≡◌, ◌+◌, ℕ, length, refl, ap, subst, ◌∙◌, arith, string_bytes}
use Rattle.std.proofs.lemmas.List.{length-map}
use Rattle.dmn_form.specs.ModelView.{model_view}
use Rattle.dmn_graph.specs.Needs.{needs_view, needs_itself, AreNeedsBelow}
use Rattle.dmn_names.proofs.NamesBack.{distinct_values}
use Rattle.dmn_plan.proofs.ServicesByName.{needs_inside}
use Rattle.dmn_check.proofs.CycleLaws.{place_below, decision_by_place}
use Rattle.dmn_check.proofs.cycle.decision_needs_itself.Goals as goal

pub needs_itself-requires-clause-inside : goal.needs_itself-requires-clause-inside
needs_itself-requires-clause-inside c =
    let m = model_view c.args.model.now in
    subst (λ (n : ℕ). AreNeedsBelow n (needs_view c.args.needs.now)) (length-map c.args.needs.now (λ v. v.items))
    (needs_inside m (needs_view c.args.needs.now) (distinct_values m c.requires.distinct) c.requires.known)

pub needs_itself-requires-clause-place : goal.needs_itself-requires-clause-place
needs_itself-requires-clause-place c =
    let m = model_view c.args.model.now in
    let b = place_below m (needs_view c.args.needs.now) c.args.model.now.decisions.items refl c.requires.distinct c.requires.known c.args.index c.requires.index in
    omega (arith, length-map c.args.needs.now (λ v. v.items), length-map c.args.model.now.inputs.items string_bytes, c.len.ensures, c.args.model.now.inputs.ok.0)

pub returns : goal.returns
returns c = λ d e.
    let m = model_view c.args.model.now in
    let at : c.len.result + c.args.index ≡ length m.inputs + c.args.index =
    omega (arith, length-map c.args.model.now.inputs.items string_bytes, c.len.ensures, c.args.model.now.inputs.ok.0)
    in
    decision_by_place m (needs_view c.args.needs.now) c.args.model.now.decisions.items refl c.requires.distinct c.requires.known c.args.index d c.in_ok-is_in_cycle.is_in_cycle c.requires.index e
    (λ steps enough. c.in_ok-is_in_cycle.ensures steps enough ∙ ap (needs_itself steps (needs_view c.args.needs.now)) at)
