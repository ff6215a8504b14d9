use Rattle.std.proofs.Common.{◌≡◌, drop}
use Rattle.serde_json.specs.View.{items_view}
use Rattle.dmn_form.specs.Draft.{each_in, service_of}
use Rattle.dmn_form.specs.ModelView.{services_view}
use Rattle.dmn_form.proofs.Readings.{read_after}
use Rattle.dmn_form.proofs.form.services_at.Given as goal

abbrev pub invariant-loop-item : goal.invariant-loop-item
invariant-loop-item l = each_in service_of (items_view l.item-items) ≡ read_after (services_view l.services) (each_in service_of (items_view (drop l.item-index l.item-items)))
