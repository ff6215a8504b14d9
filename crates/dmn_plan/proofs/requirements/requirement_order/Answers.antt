-- The decisions need themselves where their places do.
use Rattle.std.proofs.Common.{subst}
use Rattle.std.proofs.lemmas.List.{length-map}
use Rattle.dmn_form.specs.ModelView.{model_view}
use Rattle.dmn_graph.specs.Needs.{needs_view, AreNeedsBelow}
use Rattle.dmn_names.proofs.NamesBack.{distinct_values}
use Rattle.dmn_plan.proofs.ServicesByName.{needs_inside}
use Rattle.dmn_plan.proofs.RequirementCycles.{cycle_told}
use Rattle.dmn_plan.proofs.requirements.requirement_order.Goals as goal

pub order_of-requires : goal.order_of-requires
order_of-requires c =
    subst (λ k. AreNeedsBelow k (needs_view c.args.needs.now)) (length-map c.args.needs.now (λ v. v.items))
    (needs_inside (model_view c.args.model.now) (needs_view c.args.needs.now) (distinct_values (model_view c.args.model.now) c.requires.distinct) c.requires.known)

pub returns-clause-cycle : goal.returns-clause-cycle
returns-clause-cycle c =
    cycle_told (model_view c.args.model.now) (needs_view c.args.needs.now) c.requires.distinct c.requires.known c.in_ok-order.order
    c.in_ok-order.ensures.cycle c.in_ok-order.ensures.sound
