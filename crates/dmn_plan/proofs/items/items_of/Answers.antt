use Rattle.std.proofs.Common.{◌≡◌, ◌∙◌, [], ap, ap₂, sym, Some, map, drop, length, inl, inr, ◌++◌, arith, string_bytes}
use Rattle.std.proofs.lemmas.List.{drop_all, length-map}
use Rattle.dmn_form.specs.ModelView.{model_view, decision_view}
use Rattle.dmn_graph.specs.Needs.{needs_view}
use Rattle.dmn_logic.specs.LogicView.{logic_view}
use Rattle.dmn_plan.proofs.Filling.{behind_inputs, named_behind, none_named, all_filled, empty}
use Rattle.dmn_plan.proofs.items.items_of.Goals as goal
use Rattle.dmn_plan.proofs.items.items_of.Goals.{else-loop-decision-test, then-loop-decision-test+in_default, then-loop-decision-test+in-Some+in_default-next, then-loop-decision-test+in-Some+in-Some-next+in_default-next-2}

pub loop-decision-init : goal.loop-decision-init
loop-decision-init c =
    let m = model_view c.args.model.now in (
      ap₂ (λ a b. a ++ map (λ d. d.name) (map decision_view b)) (sym c.in_ok-items.ensures.names) (sym c.deref-decision-items.ensures.value),
      behind_inputs m c.args.needs.items c.len.result c.requires.needs (let e = length-map c.args.model.now.inputs.items string_bytes in omega (arith, c.len.ensures, c.args.model.now.inputs.ok.0, e))
          ∙ ap₂ (λ a b. a ++ needs_view b) (sym c.in_ok-items.ensures.needs) (sym c.in_ok-split_off.ensures.tail ∙ sym c.into_iter-needs.ensures.rest),
      ap₂ (λ a b. a ++ map Some (map logic_view b)) (sym c.in_ok-items.ensures.logic) (sym c.into_iter-logics.ensures.rest),
      c.in_ok-items.ensures.named,
      c.into_iter-named.ensures.rest
          ∙ named_behind m c.args.named.items c.args.needs.items c.into_iter-needs.result.rest.items c.len.result c.requires.named
          (let e = length-map c.args.model.now.inputs.items string_bytes in omega (arith, c.len.ensures, c.args.model.now.inputs.ok.0, e))
          (c.into_iter-needs.ensures.rest ∙ c.in_ok-split_off.ensures.tail),
    )

pub returns : goal.returns
returns c =
    let m = model_view c.args.model.now in
    let left = drop c.loop-decision.decision-index c.deref-decision-items.result.now in
    let needs = c.loop-decision.needs.rest.items in
    let logics = c.loop-decision.logics.rest.items in
    all_filled m (needs_view c.args.needs.items) (map logic_view c.args.logics.items) c.loop-decision.items.items
    (map (λ d. d.name) (map decision_view left)) (needs_view needs) (map logic_view logics)
    c.requires.needs (length-map c.args.logics.items logic_view ∙ c.requires.logics)
    c.loop-decision.invariant.0 c.loop-decision.invariant.1 c.loop-decision.invariant.2
    (elim c.loop-decision-test.branch [
      | else-loop-decision-test w ↦ inl (ap (λ ds. length (map (λ d. d.name) (map decision_view ds))) (drop_all c.loop-decision.decision-index c.deref-decision-items.result.now (omega (arith, w.loop-decision-test.false))))
      | then-loop-decision-test+in_default w ↦ inr (inl (ap (λ ns. length (needs_view ns)) (empty needs (omega (arith, w.in_default.ensures.cases.0, c.loop-decision.needs.rest.ok.0)))))
      | then-loop-decision-test+in-Some+in_default-next w ↦
          (let nothing : c.loop-decision.named.rest.items ≡ [] = empty c.loop-decision.named.rest.items (omega (arith, w.in_default-next.ensures.cases.0, c.loop-decision.named.rest.ok.0)) in
          inr (inl (none_named m (needs_view needs) (sym (ap length c.loop-decision.invariant.4) ∙ ap length nothing))))
      | then-loop-decision-test+in-Some+in-Some-next+in_default-next-2 w ↦ inr (inr (ap (λ ls. length (map logic_view ls)) (empty logics (omega (arith, w.in_default-next-2.ensures.cases.0, c.loop-decision.logics.rest.ok.0)))))
    ])
    c.loop-decision.invariant.3
