use Rattle.std.proofs.Common.{◌≡◌, map, drop}
use Rattle.std.specs.List.{list_any, flat_map}
use Rattle.dmn_form.specs.ModelView.{service_view}
use Rattle.dmn_names.specs.Parts.{service_lists}
use Rattle.dmn_names.proofs.walk.is_in_services.Given as goal

abbrev pub invariant-loop-service : goal.invariant-loop-service
invariant-loop-service g l = list_any g.Q.Question.is_so (flat_map service_lists (map service_view l.services)) ≡ list_any g.Q.Question.is_so (flat_map service_lists (map service_view (drop l.service-index l.services)))
