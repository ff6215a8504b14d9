-- What a plan answers for its text's services.
use Rattle.std.proofs.Common.{◌≡◌, ℕ, List, length, Option, Some, None, option_map, refl, sym, ap, ◌∙◌, String, Global}
use Rattle.std.specs.Prelude.{Result, Ok, Err, nat_eq}
use Rattle.std.specs.BTreeMap.{BTreeMap, get_by_text}
use Rattle.std.specs.List.{zip}
use Rattle.std.proofs.lemmas.List.{length-map}
use Rattle.feel_value.specs.Datum.{Datum}
use Rattle.feel_value.specs.declared.feel.Outcome.{Outcome}
use Rattle.feel_text.specs.Expr.{Expr}
use Rattle.dmn_table.specs.Table.{Table}
use Rattle.dmn_form.specs.Model.{Name, Service, Model}
use Rattle.dmn_graph.specs.Reach.{IsInOrder}
use Rattle.dmn_plan.specs.Course.{HasReach}
use Rattle.dmn_plan.specs.Indexed.{IsPlanAt, IsIndexed}
use Rattle.dmn_plan.specs.ReadModel.{read_text}
use Rattle.dmn_plan.specs.Request.{Request, request_result, outcome_under, service_in, service_named}
use Rattle.dmn_plan.specs.declared.fault.ModelFault.{ModelFault}
use Rattle.dmn_service.specs.Decision.{parameters_of, service_result}
use Rattle.dmn_service.specs.Places.{name_at, needs_at}
use Rattle.dmn_service.specs.Plan.{HasPlacesWithin, IsPlanOf, IsServiceOutcome}
use Rattle.dmn_service.specs.declared.plan.Item.{Item}
use Rattle.dmn_service.specs.declared.plan.ServicePlan.{ServicePlan}

-- the service that is asked, its plan, and what that is
pub record Takes (r : Result (Model Expr Table) ModelFault) (items : List Item) (n : Name) (count : ℕ) (p : ServicePlan) : Type 0 where
  pub model : Model Expr Table
  pub read : r ≡ Ok model
  pub service : Service
  pub named : service_named model.services n ≡ Some service
  pub within : HasPlacesWithin items p
  pub plan : IsPlanOf model service items p
  pub reach : HasReach items p
  pub counted : count ≡ length p.parameters.items

takes_at : (m : Model Expr Table) (items : List Item) (n : Name) (so : Option Service) (o : Option ServicePlan) (count : ℕ) → service_named m.services n ≡ so → IsPlanAt m items so o
    → option_map (λ s. length (parameters_of s)) so ≡ Some count → (p : ServicePlan) × (o ≡ Some p) × Takes (Ok m) items n count p
takes_at m items n None o count is h e = cc
takes_at m items n (Some s) None count is h e = absurd h
takes_at m items n (Some s) (Some p) count is h e =
    let many : length (parameters_of s) ≡ count = cc in (
      p,
      refl,
      record {
        model = m;
        read = refl;
        service = s;
        named = is;
        within = h.1;
        plan = h.2;
        reach = h.3;
        counted = sym many ∙ ap length h.2.parameters ∙ length-map p.parameters.items (name_at items);
      },
    )

-- the plan under the name of a service that takes so many values, with what it is a plan of
pub taken : (r : Result (Model Expr Table) ModelFault) (items : List Item) (found : BTreeMap (String Global) ServicePlan) (n : Name) (count : ℕ)
    → IsIndexed r items found → option_map (λ s. length (parameters_of s)) (service_in r n) ≡ Some count
    → (p : ServicePlan) × (get_by_text found n ≡ Some p) × Takes r items n count p
taken (Ok m) items found n count h e = takes_at m items n (service_named m.services n) (get_by_text found n) count refl (h n) e
taken (Err f) items found n count h e = absurd h

-- a plan whose outcome, for so many values, is that of the service
pub record Answers (r : Result (Model Expr Table) ModelFault) (items : List Item) (o : Option Service) (count : ℕ) (p : ServicePlan) : Type 0 where
  pub within : HasPlacesWithin items p
  pub counted : count ≡ length p.parameters.items
  pub behind : IsInOrder nat_eq (needs_at items) p.parameters.items p.order.items
  pub outcome : (values : List Datum) (out : Outcome) → IsServiceOutcome items p values out → out ≡ outcome_under r o values

at_place : (m : Model Expr Table) (items : List Item) (so : Option Service) (o : Option ServicePlan) (count : ℕ) → IsPlanAt m items so o → option_map (λ s. length (parameters_of s)) so ≡ Some count
    → (p : ServicePlan) × (o ≡ Some p) × Answers (Ok m) items so count p
at_place m items None o count h e = cc
at_place m items (Some s) None count h e = absurd h
at_place m items (Some s) (Some p) count h e =
    let many : length (parameters_of s) ≡ count = cc in (
      p,
      refl,
      record {
        within = h.1;
        counted = sym many ∙ ap length h.2.parameters ∙ length-map p.parameters.items (name_at items);
        behind = h.2.behind;
        outcome = λ values out f. f m s h.2;
      },
    )

-- the plan under the name of a service that takes so many values
pub asked : (r : Result (Model Expr Table) ModelFault) (items : List Item) (found : BTreeMap (String Global) ServicePlan) (n : Name) (count : ℕ)
    → IsIndexed r items found → option_map (λ s. length (parameters_of s)) (service_in r n) ≡ Some count
    → (p : ServicePlan) × (get_by_text found n ≡ Some p) × Answers r items (service_in r n) count p
asked (Ok m) items found n count h e = at_place m items (service_named m.services n) (get_by_text found n) count (h n) e
asked (Err f) items found n count h e = absurd h

pub result_of : (q : Request) → request_result q ≡ outcome_under (read_text q.text) (service_in (read_text q.text) q.service) q.values
unfolding request_result
result_of q = refl

-- the result of a request to a service of a model
pub result_at : (text : List ℕ) (n : Name) (values : List Datum) (m : Model Expr Table) (s : Service) → read_text text ≡ Ok m → service_named m.services n ≡ Some s
    → request_result (record { text = text; service = n; values = values }) ≡ service_result m s (zip (parameters_of s) values)
result_at text n values m s read named =
    result_of (record { text = text; service = n; values = values })
    ∙ ap (λ (r : Result (Model Expr Table) ModelFault). outcome_under r (service_in r n) values) read ∙ ap (λ (o : Option Service). outcome_under (Ok m) o values) named
