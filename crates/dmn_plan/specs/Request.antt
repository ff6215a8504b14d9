-- What a request is, and what its result is.
use Rattle.std.specs.Prelude.{◌≡◌, ℕ, List, [], ◌∷◌, length, Option, None, Some, option_map, Result, Ok, Err, bytes_eq, if◌then◌else◌}
use Rattle.std.specs.List.{zip}
use Rattle.serde_json.specs.Data as json
use Rattle.serde_json.specs.Find.{get_member}
use Rattle.feel_value.specs.Datum.{Datum, null}
use Rattle.feel_value.specs.Faults.{json_reading}
use Rattle.feel_value.specs.declared.feel.Outcome.{Outcome}
use Rattle.feel_value.specs.declared.feel.Outcome.TheVariants.{Limit}
use Rattle.feel_value.specs.declared.fault.ValueFault.{ValueFault}
use Rattle.feel_text.specs.Expr.{Expr}
use Rattle.feel_value.specs.Found.{each}
use Rattle.dmn_table.specs.Table.{Table}
use Rattle.dmn_form.specs.Model.{Name, Service, Model}
use Rattle.dmn_service.specs.Decision.{parameters_of, service_result}
use Rattle.dmn_plan.specs.declared.fault.ModelFault.{ModelFault}
use Rattle.dmn_plan.specs.declared.fault.TaskFault.{TaskFault}
use Rattle.dmn_plan.specs.declared.fault.TaskFault.TheVariants as fault
use Rattle.dmn_plan.specs.ReadModel.{read_text}

-- the text of a model, the name of one of its services, and the values of the service's input decisions and then of its input data
pub record Request : Type 0 where
  pub text : List ℕ
  pub service : Name
  pub values : List Datum

abbrev pub service_named : List Service → Name → Option Service
service_named [] n = None
service_named (s ∷ ss) n = if bytes_eq n s.name then Some s else service_named ss n

-- the service of this name in the model, where that is one
abbrev pub service_in : Result (Model Expr Table) ModelFault → Name → Option Service
service_in (Err f) n = None
service_in (Ok m) n = service_named m.services n

-- the outcome under a model; no request names a service that the model lacks
abbrev pub outcome_under : Result (Model Expr Table) ModelFault → Option Service → List Datum → Outcome
outcome_under (Ok m) (Some s) values = service_result m s (zip (parameters_of s) values)
outcome_under (Ok m) None values = Limit
outcome_under (Err f) o values = Limit

-- the result of a request: the outcome of its service in the model that its text has, with its values
unfoldable pub request_result : Request → Outcome
request_result q = outcome_under (read_text q.text) (service_in (read_text q.text) q.service) q.values

-- the service takes so many values
abbrev pub TakesValues : List ℕ → Name → ℕ → Type 0
TakesValues text service count = option_map (λ s. length (parameters_of s)) (service_in (read_text text) service) ≡ Some count

-- ---- making a request

abbrev pub if_ok : Result Datum ValueFault → Option Datum
if_ok (Ok d) = Some d
if_ok (Err f) = None

-- the value under a name; null where there is none
abbrev pub value_under : Option json.Data → Option Datum
value_under None = Some null
value_under (Some d) = if_ok (json_reading d)

-- the values under these names of an object; a name that isn't asked for is ignored
abbrev pub values_under : List Name → json.Data → Option (List Datum)
values_under ns (json.object ms) = each (λ n. value_under (get_member n ms)) ns
values_under ns _ = None

abbrev pub request_with : List ℕ → Name → Option (List Datum) → Result Request TaskFault
request_with text service None = Err fault.Value
request_with text service (Some values) = Ok (record { text = text; service = service; values = values })

abbrev pub request_to : List ℕ → Name → Option Service → json.Data → Result Request TaskFault
request_to text service None inputs = Err fault.Service
request_to text service (Some s) inputs = request_with text service (values_under (parameters_of s) inputs)

-- the request to the service of this name in the model of this text, with these inputs, or its first fault
abbrev pub request_of : List ℕ → Name → json.Data → Result Request TaskFault
request_of text service inputs = request_to text service (service_in (read_text text) service) inputs
