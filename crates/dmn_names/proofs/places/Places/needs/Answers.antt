use Rattle.std.proofs.Common.{◌∙◌, sym, ap, is_none}
use Rattle.dmn_names.specs.PlacedModel.{placed_model, needs_view}
use Rattle.dmn_names.proofs.Strangers.{none_mapped, unknown_where_none}
use Rattle.dmn_names.proofs.Within.{needs_inside}
use Rattle.dmn_names.proofs.places.Places.needs.Goals as goal

pub returns-clause-unknown : goal.returns-clause-unknown
returns-clause-unknown c =
    sym (none_mapped needs_view c.in_ok-needs.needs) ∙ ap is_none c.in_ok-needs.ensures ∙ unknown_where_none (placed_model c.args.self.now)

pub returns-clause-inside : goal.returns-clause-inside
returns-clause-inside c = needs_inside (placed_model c.args.self.now) c.in_ok-needs.needs c.in_ok-needs.ensures
