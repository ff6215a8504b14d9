-- Services that can't give null or break a limit.
use Rattle.std.proofs.Common.{◌≡◌, ◌≤◌, ◌∙◌, ℕ, List, [], ◌∷◌, arith, length, map, nat_lt, take, Bool, true, false, ◌||◌, Option, None, Some, Result, Ok, refl, sym, ap, subst}
use Rattle.std.specs.List.{list_any}
use Rattle.std.proofs.lemmas.List.{take_all}
use Rattle.feel_value.specs.Datum.{Datum, null, boolean, number, text, list, context}
use Rattle.feel_value.specs.declared.feel.Outcome.{Outcome}
use Rattle.feel_value.specs.declared.feel.Outcome.TheVariants.{Is, Limit}
use Rattle.feel_text.specs.Expr.{Expr}
use Rattle.dmn_table.specs.Table.{Table}
use Rattle.dmn_form.specs.Model.{Model, Name, Service}
use Rattle.dmn_graph.specs.Reach.{Each}
use Rattle.dmn_service.specs.Decision.{parameters_of}
use Rattle.dmn_plan.specs.ReadModel.{read_text}
use Rattle.dmn_plan.specs.Request.{service_in}
use Rattle.dmn_plan.specs.declared.fault.ModelFault.{ModelFault}
use Rattle.dmn_ranges.specs.Ranges.{covers}
use Rattle.dmn_ranges.specs.declared.outcomes.Outcomes.{Outcomes}
use Rattle.dmn_told.specs.Told.{AreMet, IsToldOf}
use Rattle.dmn_told.specs.declared.domains.Domain.{Domain}
use Rattle.dmn_told.specs.declared.told.ServiceTold.{ServiceTold}
use Rattle.desk_ranges.specs.Gives.{IsToldIf, Looked, TellsEach, TellsServices, fails_if, fails_with, left_out, most_services}
use Rattle.desk_ranges.specs.declared.gives.Gives.{Gives}
use Rattle.desk_checking.specs.NeverNull.{HasValue, NeverFails}

first_not : (a b : Bool) → (a || b) ≡ false → a ≡ true → ⊥
first_not true b e h = cc
first_not false b e h = cc

second_not : (a b : Bool) → (a || b) ≡ false → b ≡ true → ⊥
second_not true b e h = cc
second_not false true e h = cc
second_not false false e h = cc

first_false : (a b : Bool) → (a || b) ≡ false → a ≡ false
first_false true b e = cc
first_false false b e = refl

second_false : (a b : Bool) → (a || b) ≡ false → b ≡ false
second_false true b e = cc
second_false false b e = e

value_of : (t : Outcomes) (o : Outcome) → covers t o ≡ true → fails_with t ≡ false → HasValue o
value_of t (Is null) h e = absurd (first_not t.range.nulls t.limit e h)
value_of t (Is (boolean b)) h e = (boolean b, refl, λ w. cc)
value_of t (Is (number z)) h e = (number z, refl, λ w. cc)
value_of t (Is (text s)) h e = (text s, refl, λ w. cc)
value_of t (Is (list ds)) h e = (list ds, refl, λ w. cc)
value_of t (Is (context es)) h e = (context es, refl, λ w. cc)
value_of t Limit h e = absurd (second_not t.range.nulls t.limit e h)

same_some : (a b : Service) → Some a ≡ Some b → a ≡ b
same_some a b e = cc

module _ (model : List ℕ) (domains : List Domain) where
  told_never : (n : Name) (t : ServiceTold) → IsToldOf model n domains t → fails_with t.result ≡ false → NeverFails model domains n
  told_never n t is e = λ s values there met.
      let here : service_in (read_text model) n ≡ Some is.served.service = ap (λ (r : Result (Model Expr Table) ModelFault). service_in r n) is.served.is ∙ is.served.named in
      let same : s ≡ is.served.service = same_some s is.served.service (sym there ∙ here) in
      value_of t.result _ (is.result values (subst (λ (x : Service). AreMet domains (parameters_of x) values) same met)) e

  looked_never : (n : Name) (o : Option ServiceTold) → IsToldIf model domains n o → fails_if o ≡ false → NeverFails model domains n
  looked_never n None is e = λ s values there met. let wrong : ⊥ = cc in absurd wrong
  looked_never n (Some t) is e = told_never n t is e

  each_never : (ls : List (Looked model domains)) → list_any (λ (l : Looked model domains). fails_if l.told) ls ≡ false → Each (NeverFails model domains) (map (λ (l : Looked model domains). l.name) ls)
  each_never [] e = tt
  each_never (l ∷ ls) e =
      let rest = list_any (λ (x : Looked model domains). fails_if x.told) ls in
      (looked_never l.name l.told l.is (first_false (fails_if l.told) rest e), each_never ls (second_false (fails_if l.told) rest e))

  all_never : (names : List Name) (g : Gives) → TellsEach model domains names g → g.can_fail ≡ false → Each (NeverFails model domains) names
  all_never names g tells e = subst (Each (NeverFails model domains)) tells.each (each_never tells.looked (sym tells.fails ∙ e))

  pub never : (names : List Name) (g : Gives) → TellsServices model domains names g → g.can_fail ≡ false → Each (NeverFails model domains) names
  never names g tells e =
      let either = sym tells.fails ∙ e in
      let none : nat_lt 0 (left_out names) ≡ false = second_false tells.first.can_fail (nat_lt 0 (left_out names)) either in
      let few : length names ≤ most_services = grind arith in
      subst (Each (NeverFails model domains)) (take_all most_services names few) (all_never (take most_services names) tells.first tells.told (first_false tells.first.can_fail (nat_lt 0 (left_out names)) either))
