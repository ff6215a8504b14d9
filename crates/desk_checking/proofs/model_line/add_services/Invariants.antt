use Rattle.std.proofs.Common.{◌≡◌, ◌++◌, drop, map}
use Rattle.serde_json.specs.Data.{array}
use Rattle.serde_json.specs.Written.{compact_text, items_text}
use Rattle.dmn_form.specs.ModelView.{service_view}
use Rattle.desk_checking.specs.Told.{services_told}
use Rattle.desk_checking.proofs.model_line.add_services.Given as goal

abbrev pub invariant-loop-service : goal.invariant-loop-service
invariant-loop-service l =
    l.text.items ++ items_text l.later (services_told (map service_view (drop l.service-index l.services)))
    ≡ l.fn.text.items ++ compact_text (array (services_told (map service_view l.services)))
