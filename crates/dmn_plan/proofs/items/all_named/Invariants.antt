use Rattle.std.proofs.Common.{◌≡◌, ◌++◌, drop}
use Rattle.dmn_form.specs.ModelView.{model_view}
use Rattle.dmn_graph.specs.Needs.{needs_view}
use Rattle.dmn_plan.specs.Plans.{needed_by_name}
use Rattle.dmn_plan.proofs.items.all_named.Given as goal

abbrev pub invariant-loop-places : goal.invariant-loop-places
invariant-loop-places l = needed_by_name (model_view l.model) (needs_view l.needs) ≡ l.named.items ++ needed_by_name (model_view l.model) (needs_view (drop l.places-index l.needs))
