-- The services that don't fit the decisions.
use Rattle.std.specs.Prelude.{List, [], ◌∷◌, ◌++◌, length, Option, None, Some, not, nat_lt, if◌then◌else◌}
use Rattle.std.specs.List.{list_any}
use Rattle.feel_value.specs.Distinct.{is_among}
use Rattle.dmn_form.specs.Model.{Service}
use Rattle.dmn_form.specs.Draft.{Draft}
use Rattle.dmn_names.specs.Places.{has_stranger}
use Rattle.dmn_plan.specs.Faults.{reaches_unlisted}
use Rattle.dmn_check.specs.declared.place.Step.TheVariants as step
use Rattle.dmn_check.specs.declared.place.Key.TheVariants as key
use Rattle.dmn_check.specs.declared.finding.Mistake.TheVariants as mistake
use Rattle.dmn_check.specs.declared.finding.ServiceFault.{ServiceFault}
use Rattle.dmn_check.specs.declared.finding.ServiceFault.TheVariants.{NoOutput, Stranger, Shared, Unlisted}
use Rattle.dmn_check.specs.Findings.{Finding, behind, each_of}

-- the first fault of a service: no output; a name in the wrong list; an input decision that is also an output or encapsulated;
-- something reachable that isn't listed
abbrev pub service_fault : Draft → Service → Option ServiceFault
service_fault m s =
    if not (nat_lt 0 (length s.outputs)) then Some NoOutput
    else (if has_stranger m s then Some Stranger
    else (if list_any (is_among (s.outputs ++ s.encapsulated)) s.input_decisions then Some Shared
    else (if reaches_unlisted m s then Some Unlisted else None)))

abbrev pub service_mistake : Option ServiceFault → List Finding
service_mistake None = []
service_mistake (Some f) = record { place = []; mistake = mistake.Service f } ∷ []

abbrev pub bad_service : Draft → Service → List Finding
bad_service m s = service_mistake (service_fault m s)

-- each service that doesn't fit the decisions, with its fault
abbrev pub bad_services : Draft → List Finding
bad_services m = behind (step.Key key.Services) (each_of (bad_service m) m.services)
