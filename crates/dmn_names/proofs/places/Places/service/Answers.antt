use Rattle.std.proofs.Common.{◌∙◌, sym, ap, is_none}
use Rattle.dmn_form.specs.ModelView.{service_view}
use Rattle.dmn_names.specs.PlacedModel.{placed_model, placed_service_view}
use Rattle.dmn_names.proofs.Strangers.{none_mapped, stranger_where_none}
use Rattle.dmn_names.proofs.Within.{service_inside}
use Rattle.dmn_names.proofs.places.Places.service.Goals as goal

pub returns-clause-strangers : goal.returns-clause-strangers
returns-clause-strangers c =
    sym (none_mapped placed_service_view c.in_ok-places.places) ∙ ap is_none c.in_ok-places.ensures
    ∙ stranger_where_none (placed_model c.args.self.now) (service_view c.args.service.now)

pub returns-clause-inside : goal.returns-clause-inside
returns-clause-inside c =
    service_inside (placed_model c.args.self.now) (service_view c.args.service.now) c.in_ok-places.places c.in_ok-places.ensures
