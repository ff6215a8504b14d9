-- What is told of a service, from the ranges of its parameters.
use Rattle.std.proofs.Common.{◌≡◌, ◌∙◌, ℕ, List, Option, Some, option_map, true, sym, ap, subst}
use Rattle.std.specs.Prelude.{Result, Ok}
use Rattle.std.specs.List.{zip}
use Rattle.feel_value.specs.Datum.{Datum}
use Rattle.feel_value.specs.declared.feel.Outcome.{Outcome}
use Rattle.feel_text.specs.Expr.{Expr}
use Rattle.dmn_table.specs.Table.{Table}
use Rattle.dmn_form.specs.Model.{Name, Model, Service}
use Rattle.dmn_service.specs.Decision.{parameters_of, service_result}
use Rattle.dmn_service.specs.Plan.{IsPlanOf}
use Rattle.dmn_plan.specs.ReadModel.{read_text}
use Rattle.dmn_plan.specs.Request.{request_result, outcome_under, service_in, service_named}
use Rattle.dmn_plan.specs.Served.{IsServicePlan}
use Rattle.dmn_plan.specs.declared.fault.ModelFault.{ModelFault}
use Rattle.dmn_ranges.specs.Decisions.{AreRangesOf}
use Rattle.dmn_ranges.specs.Ranges.{AreWithin, covers}
use Rattle.dmn_ranges.specs.declared.range.ParameterRange.{ParameterRange}
use Rattle.dmn_told.specs.Told.{AreMet, IsToldOf}
use Rattle.dmn_told.specs.Covered.{AreCovered}
use Rattle.dmn_told.specs.declared.domains.Domain.{Domain}
use Rattle.dmn_told.specs.declared.told.ServiceTold.{ServiceTold}
use Rattle.dmn_told.proofs.Covering.{covered_within}

-- the result of a request to a service of a model
result_at : (text : List ℕ) (n : Name) (values : List Datum) (m : Model Expr Table) (s : Service) → read_text text ≡ Ok m → service_named m.services n ≡ Some s
    → request_result (record { text = text; service = n; values = values }) ≡ service_result m s (zip (parameters_of s) values)
unfolding request_result
result_at text n values m s read named =
    ap (λ (r : Result (Model Expr Table) ModelFault). outcome_under r (service_in r n) values) read ∙ ap (λ (o : Option Service). outcome_under (Ok m) o values) named

-- these are the names of the service's parameters
pub named_by : (text : List ℕ) (n : Name) (names : List Name) (m : Model Expr Table) (s : Service) → read_text text ≡ Ok m → service_named m.services n ≡ Some s
    → Some names ≡ option_map parameters_of (service_in (read_text text) n) → names ≡ parameters_of s
named_by text n names m s read named e =
    let same : Some names ≡ Some (parameters_of s) = e ∙ ap (λ (r : Result (Model Expr Table) ModelFault). option_map parameters_of (service_in r n)) read ∙ ap (option_map parameters_of) named in
    cc

-- what the ranges of the parameters give is told of the service
pub told_of : (text : List ℕ) (n : Name) (ds : List Domain) (t : ServiceTold) (names : List Name) (ranges : List ParameterRange) → IsServicePlan (read_text text) n t.items.now t.plan.now
    → Some names ≡ option_map parameters_of (service_in (read_text text) n) → AreCovered ds names ranges → AreRangesOf t.items.now t.plan.now ranges t.decisions.items
    → ((m : Model Expr Table) (s : Service) (values : List Datum) → IsPlanOf m s t.items.now t.plan.now → AreWithin ranges values → covers t.result (service_result m s (zip (parameters_of s) values)) ≡ true)
    → IsToldOf text n ds t
told_of text n ds t names ranges served named covered decisions result =
    let m = served.model in
    let s = served.service in
    let are : names ≡ parameters_of s = named_by text n names m s served.is served.named named in
    let within : (values : List Datum) → AreMet ds (parameters_of s) values → AreWithin ranges values =
    λ values met. covered_within ds (parameters_of s) ranges values (subst (λ (ns : List Name). AreCovered ds ns ranges) are covered) met in
    record {
      served = served;
      decisions = λ values met. decisions m s values served.plan (within values met);
      result = λ values met. subst (λ (o : Outcome). covers t.result o ≡ true) (sym (result_at text n values m s served.is served.named)) (result m s values served.plan (within values met));
    }
