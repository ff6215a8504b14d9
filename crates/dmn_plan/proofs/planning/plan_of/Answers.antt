use Rattle.std.proofs.Common.{map, ap, sym, subst, ◌∙◌, Some, None, if◌then◌else◌}
use Rattle.std.proofs.lemmas.List.{length-map}
use Rattle.dmn_form.specs.ModelView.{model_view}
use Rattle.dmn_graph.specs.Needs.{needs_view, AreNeedsBelow}
use Rattle.dmn_logic.specs.LogicView.{logic_view}
use Rattle.dmn_names.proofs.Within.{needs_inside}
use Rattle.dmn_plan.specs.declared.fault.ModelFault.TheVariants.{Large}
use Rattle.dmn_plan.proofs.Planned.{planned, at_most_large, as_many, after_inputs, have_logic_of}
use Rattle.dmn_plan.proofs.planning.plan_of.Goals as goal

pub items_of-requires-clause-needs : goal.items_of-requires-clause-needs
items_of-requires-clause-needs c =
    after_inputs (model_view c.args.model.now) (needs_view c.in_ok-requirements.requirements.needs.items) c.in_ok-requirements.ensures.ok.needed

pub items_of-requires-clause-logics : goal.items_of-requires-clause-logics
items_of-requires-clause-logics c =
    let logics = c.in_ok-logics.logics.items in sym (length-map logics logic_view) ∙ as_many (model_view c.args.model.now) (map logic_view logics) c.in_ok-logics.ensures.logic

pub returns-clause-ok : goal.returns-clause-ok
returns-clause-ok c =
    let m = model_view c.args.model.now in
    let r = c.in_ok-requirements.requirements in
    let needs = needs_view r.needs.items in
    let met = c.in_ok-requirements.ensures.ok in
    planned m needs (map logic_view c.in_ok-logics.logics.items) c.in_ok-items.items.items r.services.items c.in_ok-logics.ensures.readable.once
    (at_most_large m needs r.services.items c.in_ok-logics.ensures.readable met ∙ ap (λ b. if b then Some Large else None) (sym c.is_large.ensures ∙ c.if-is_large.false))
    c.in_ok-logics.ensures.logic met.needed
    (subst (λ n. AreNeedsBelow n needs) (sym (length-map r.needs.items (λ v. v.items))) (needs_inside m (Some r.needs) (sym met.needed)))
    c.in_ok-items.ensures met.routes

pub returns-clause-logic : goal.returns-clause-logic
returns-clause-logic c =
    let m = model_view c.args.model.now in
    let r = c.in_ok-requirements.requirements in
    let needs = needs_view r.needs.items in
    have_logic_of m needs (map logic_view c.in_ok-logics.logics.items) c.in_ok-items.items.items
    (at_most_large m needs r.services.items c.in_ok-logics.ensures.readable c.in_ok-requirements.ensures.ok ∙ ap (λ b. if b then Some Large else None) (sym c.is_large.ensures ∙ c.if-is_large.false))
    c.in_ok-logics.ensures.logic c.in_ok-items.ensures
