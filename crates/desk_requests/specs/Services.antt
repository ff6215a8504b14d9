-- What the services of a model take, and which requests to them are lawful.
use Rattle.std.specs.Prelude.{◌≡◌, ◌⊎◌, ℕ, List, true, false, Option, None, Some, Result, Ok, Err, is_some, String}
use Rattle.std.specs.BTreeMap.{get_by_text}
use Rattle.std.specs.BTreeSet.{BTreeSet, contains_text}
use Rattle.std.specs.declared.alloc.Global.{Global}
use Rattle.serde_json.specs.Data.{Data}
use Rattle.serde_json.specs.Find.{get}
use Rattle.feel_value.specs.Distinct.{is_among}
use Rattle.dmn_form.specs.Model.{Name, Service}
use Rattle.dmn_service.specs.Decision.{parameters_of}
use Rattle.dmn_plan.specs.ReadModel.{read_text}
use Rattle.dmn_plan.specs.Request.{Request, service_in, value_under}
use Rattle.dmn_plan.specs.declared.fault.TaskFault.{TaskFault}
use Rattle.desk_wire.specs.Parts.{IsObject}
use Rattle.desk_requests.specs.declared.services.Services.{Services}

-- the names are those of what the service of this name takes
pub record KnowsService (text : List ℕ) (n : Name) (names : BTreeSet (String Global)) : Type 0 where
  pub service : Service
  pub found : service_in (read_text text) n ≡ Some service
  pub takes : (k : Name) → contains_text names k ≡ is_among (parameters_of service) k

-- the same of each service of the model of this text that was asked
abbrev pub KnowsServices : List ℕ → Services → Type 0
KnowsServices text services = (n : Name) (names : BTreeSet (String Global)) → get_by_text services.known n ≡ Some names → KnowsService text n names

-- Internal from here on.

-- each of these names stands over a value in an object, or not at all
pub record HaveValues (names : BTreeSet (String Global)) (inputs : Data) : Type 0 where
  pub of_object : IsObject inputs
  pub each : (k : Name) → contains_text names k ≡ true → is_some (value_under (get k inputs)) ≡ true

-- one of these names stands over what is no value
pub record StandsOverNoValue (names : BTreeSet (String Global)) (inputs : Data) : Type 0 where
  pub name : Name
  pub asked : contains_text names name ≡ true
  pub none : is_some (value_under (get name inputs)) ≡ false

-- the same, or there is no object
abbrev pub HasNoValue : BTreeSet (String Global) → Data → Type 0
HasNoValue names inputs = StandsOverNoValue names inputs ⊎ (IsObject inputs → ⊥)

-- why there is no request, if there is none
abbrev pub fault_in : Result Request TaskFault → Option TaskFault
fault_in (Ok q) = None
fault_in (Err fault) = Some fault
