-- What it says of a model that no service of it can give null or break a limit.
use Rattle.std.specs.Prelude.{◌≡◌, ◌≢◌, List, ℕ, Option, Some}
use Rattle.feel_value.specs.Datum.{Datum, null}
use Rattle.feel_value.specs.declared.feel.Outcome.{Outcome}
use Rattle.feel_value.specs.declared.feel.Outcome.TheVariants.{Is}
use Rattle.dmn_form.specs.Model.{Name, Service}
use Rattle.dmn_service.specs.Decision.{parameters_of}
use Rattle.dmn_plan.specs.ReadModel.{read_text}
use Rattle.dmn_plan.specs.Request.{request_result, service_in}
use Rattle.dmn_told.specs.Told.{AreMet}
use Rattle.dmn_told.specs.declared.domains.Domain.{Domain}

abbrev pub HasValue : Outcome → Type 0
HasValue o = (d : Datum) × (o ≡ Is d) × (d ≢ null)

-- the service of this name in the model of a text: each request whose values meet what is declared has a value, which is not null
abbrev pub NeverFails : List ℕ → List Domain → Name → Type 0
NeverFails text domains n =
    (s : Service) (values : List Datum) → service_in (read_text text) n ≡ Some s → AreMet domains (parameters_of s) values → HasValue (request_result (record { text = text; service = n; values = values }))
