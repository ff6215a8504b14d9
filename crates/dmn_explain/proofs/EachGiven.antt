-- A request that is made from JSON has a value for each parameter of its service.
use Rattle.std.proofs.Common.{◌≡◌, ◌∙◌, sym, ap, refl, ℕ, List, length, Option, None, Some, Result, Ok}
use Rattle.std.proofs.lemmas.Option.{same_Some}
use Rattle.serde_json.specs.Data as json
use Rattle.feel_value.specs.Datum.{Datum}
use Rattle.feel_text.specs.Expr.{Expr}
use Rattle.dmn_table.specs.Table.{Table}
use Rattle.dmn_table.proofs.Each.{each_length}
use Rattle.dmn_form.specs.Model.{Name, Service, Model}
use Rattle.dmn_service.specs.Decision.{parameters_of}
use Rattle.dmn_plan.specs.Course.{IsCourseOf}
use Rattle.dmn_plan.specs.ReadModel.{read_text}
use Rattle.dmn_plan.specs.Request.{Request, request_of, request_to, request_with, service_in, values_under}
use Rattle.dmn_plan.specs.declared.course.Course.{Course}
use Rattle.dmn_plan.specs.declared.fault.ModelFault.{ModelFault}
use Rattle.dmn_plan.specs.declared.fault.TaskFault.{TaskFault}

count_of : (ns : List Name) (d : json.Data) (values : List Datum) → values_under ns d ≡ Some values → length values ≡ length ns
count_of ns json.null values e = cc
count_of ns (json.boolean b) values e = cc
count_of ns (json.number n) values e = cc
count_of ns (json.string s) values e = cc
count_of ns (json.array ds) values e = cc
count_of ns (json.object ms) values e = each_length _ ns values e

same_ok : (q r : Request) → ◌≡◌ {A = Result Request TaskFault} (Ok q) (Ok r) → q ≡ r
same_ok q r e = cc

by_values : (text : List ℕ) (name : Name) (inputs : json.Data) (q : Request) (s t : Service) → service_in (read_text text) name ≡ Some t → service_in (read_text q.text) q.service ≡ Some s
    → (o : Option (List Datum)) → values_under (parameters_of t) inputs ≡ o → request_with text name o ≡ Ok q → length q.values ≡ length (parameters_of s)
by_values text name inputs q s t here there None given e = cc
by_values text name inputs q s t here there (Some values) given e =
    let is : record { text = text; service = name; values = values } ≡ q = same_ok (record { text = text; service = name; values = values }) q e in
    let same : t ≡ s = same_Some t s (sym here ∙ ap (λ (r : Request). service_in (read_text r.text) r.service) is ∙ there) in
    ap (λ (r : Request). length r.values) (sym is) ∙ count_of (parameters_of t) inputs values given ∙ ap (λ (x : Service). length (parameters_of x)) same

by_service : (text : List ℕ) (name : Name) (inputs : json.Data) (q : Request) (s : Service) → service_in (read_text q.text) q.service ≡ Some s
    → (o : Option Service) → service_in (read_text text) name ≡ o → request_to text name o inputs ≡ Ok q → length q.values ≡ length (parameters_of s)
by_service text name inputs q s there None here e = cc
by_service text name inputs q s there (Some t) here e = by_values text name inputs q s t here there (values_under (parameters_of t) inputs) refl e

pub each_given : (text : List ℕ) (name : Name) (inputs : json.Data) (q : Request) (c : Course) (of : IsCourseOf q c) → request_of text name inputs ≡ Ok q → length q.values ≡ length (parameters_of of.service)
each_given text name inputs q c of e =
    by_service text name inputs q of.service (ap (λ (r : Result (Model Expr Table) ModelFault). service_in r q.service) of.read ∙ of.named) (service_in (read_text text) name) refl e
