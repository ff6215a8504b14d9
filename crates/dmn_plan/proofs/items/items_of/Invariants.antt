use Rattle.std.proofs.Common.{◌≡◌, ◌++◌, Some, map, drop}
use Rattle.dmn_form.specs.ModelView.{model_view, decision_view}
use Rattle.dmn_graph.specs.Needs.{needs_view}
use Rattle.dmn_logic.specs.LogicView.{logic_view}
use Rattle.dmn_names.specs.Parts.{value_names}
use Rattle.dmn_plan.specs.Items.{have_names, have_needs, have_logic}
use Rattle.dmn_plan.specs.Plans.{AreNamed, needed_by_name, place_logic}
use Rattle.dmn_plan.proofs.items.items_of.Given as goal

abbrev pub invariant-loop-decision : goal.invariant-loop-decision
invariant-loop-decision l =
    (value_names (model_view l.model) ≡ have_names l.items.items ++ map (λ d. d.name) (map decision_view (drop l.decision-index l.decision-items)))
    × (needs_view l.fn.needs.items ≡ have_needs l.items.items ++ needs_view l.needs.rest.items)
    × (place_logic (model_view l.model).inputs (map logic_view l.fn.logics.items) ≡ have_logic l.items.items ++ map Some (map logic_view l.logics.rest.items))
    × AreNamed (model_view l.model) l.items.items
    × (l.named.rest.items ≡ needed_by_name (model_view l.model) (needs_view l.needs.rest.items))
