-- The values of a request, from what was found at the places of its parameters.
use Rattle.std.proofs.Common.{◌≡◌, ◌∙◌, sym, ap, ap₂, refl, subst, ℕ, ◌+◌, ◌<◌, ◌≤◌, List, [], ◌∷◌, ◌++◌, map, length, get_or, drop, Bool, true, false, Option, Some, append_assoc, arith}
use Rattle.std.specs.List.{zip}
use Rattle.std.proofs.lemmas.List.{at_drop_more, drop_all, length-map}
use Rattle.json.specs.Print.{quoted}
use Rattle.serde_json.specs.Data.{Data, Members, member, object}
use Rattle.serde_json.specs.Written.{comma_if, compact_text, members_text}
use Rattle.feel_value.specs.Datum.{Datum}
use Rattle.feel_value.specs.Found.{value_of}
use Rattle.feel_value.specs.declared.feel.Outcome.{Outcome}
use Rattle.feel_value.specs.declared.feel.Outcome.TheVariants.{Is}
use Rattle.feel_text.specs.Expr.{Expr}
use Rattle.feel_text.specs.Needed.{found_at}
use Rattle.dmn_table.specs.Table.{Table}
use Rattle.dmn_form.specs.Model.{Name, Service, Model}
use Rattle.dmn_graph.specs.Reach.{Each}
use Rattle.dmn_service.specs.Decision.{Given, decided_if, decision_named, given_or, given_value, outcome_of, outcome_within, parameters_of}
use Rattle.dmn_service.specs.Outcomes.{HaveOutcomes}
use Rattle.dmn_service.specs.Places.{name_at}
use Rattle.dmn_service.specs.Plan.{IsPlanOf}
use Rattle.dmn_service.specs.declared.plan.Item.{Item}
use Rattle.dmn_service.specs.declared.plan.ServicePlan.{ServicePlan}
use Rattle.dmn_service.proofs.Given.{zip_given}
use Rattle.dmn_explain.specs.Explanation.{inputs_told}
use Rattle.dmn_explain.specs.Placed.{inputs_by_place, value_told}
use Rattle.dmn_explain.specs.Text.{input_text}

-- ---- the text of an object, member by member

regroup : (t a b c r : List ℕ) → (t ++ ((a ++ (b ++ 58 ∷ [])) ++ c)) ++ r ≡ t ++ (a ++ (b ++ 58 ∷ (c ++ r)))
regroup t a b c r = simp append_assoc

pub inputs_begun : (t t1 : List ℕ) (ms : Members) → t1 ≡ t ++ 123 ∷ [] → t1 ++ members_text false ms ≡ t ++ compact_text (object ms)
inputs_begun t t1 ms begin = ap (λ s. s ++ members_text false ms) begin ∙ append_assoc t (123 ∷ []) (members_text false ms)

pub input_more : (t t1 whole : List ℕ) (later : Bool) (found : List Outcome) (items : List Item) (qs : List ℕ) (i : ℕ) (name : Name) → i < length qs
    → t ++ members_text later (inputs_by_place found items (drop i qs)) ≡ whole → name ≡ name_at items (get_or qs i 0) → t1 ≡ t ++ input_text later name (found_at found (get_or qs i 0))
    → t1 ++ members_text true (inputs_by_place found items (drop (i + 1) qs)) ≡ whole
input_more t t1 whole later found items qs i name more before named added =
    let q = get_or qs i 0 in
    let d = value_told (found_at found q) in
    let rest = inputs_by_place found items (drop (i + 1) qs) in
    ap (λ (s : List ℕ). s ++ members_text true rest) (added ∙ ap (λ (n : Name). t ++ input_text later n (found_at found q)) named)
    ∙ regroup t (comma_if later) (quoted (name_at items q)) (compact_text d) (members_text true rest)
    ∙ sym (at_drop_more (λ (ps : List ℕ). t ++ members_text later (inputs_by_place found items ps)) qs i 0 more)
    ∙ before

pub inputs_ended : (t t1 whole : List ℕ) (later : Bool) (found : List Outcome) (items : List Item) (qs : List ℕ) (i : ℕ) → length qs ≤ i
    → t ++ members_text later (inputs_by_place found items (drop i qs)) ≡ whole → t1 ≡ t ++ 125 ∷ [] → t1 ≡ whole
inputs_ended t t1 whole later found items qs i end before added =
    added ∙ ap (λ (ps : List ℕ). t ++ members_text later (inputs_by_place found items ps)) (sym (drop_all i qs end)) ∙ before

-- ---- what was found there are the values of the request

given_outcome : (m : Model Expr Table) (g : Given) (n : Name) (v : Datum) → given_value g n ≡ Some v → outcome_of m g n ≡ Is v
unfolding outcome_of outcome_within
given_outcome m g n v e = ap (λ (o : Option Datum). given_or o (decided_if (outcome_within (length m.decisions) m g) (decision_named m.decisions n))) e

each_outcome : (m : Model Expr Table) (g : Given) (es : Given) → Each (λ e. given_value g e.0 ≡ Some e.1) es → Each (λ e. outcome_of m g e.0 ≡ Is e.1) es
each_outcome m g [] h = tt
each_outcome m g (e ∷ es) h = (given_outcome m g e.0 e.1 h.0, each_outcome m g es h.1)

by_place : (outcome : Name → Outcome) (items : List Item) (found : List Outcome) (qs : List ℕ) (vs : List Datum) → length vs ≡ length qs → HaveOutcomes outcome items found qs
    → Each (λ e. outcome e.0 ≡ Is e.1) (zip (map (name_at items) qs) vs) → inputs_by_place found items qs ≡ inputs_told (zip (map (name_at items) qs) vs)
by_place outcome items found [] vs count stands given = refl
by_place outcome items found (q ∷ qs) [] count stands given = cc
by_place outcome items found (q ∷ qs) (v ∷ vs) count stands given =
    ap₂ (λ (d : Data) (ms : Members). member (name_at items q) d ms) (ap value_told (stands.0 ∙ ap value_of given.0))
    (by_place outcome items found qs vs (omega arith) stands.1 given.1)

pub inputs_same : (m : Model Expr Table) (s : Service) (items : List Item) (plan : ServicePlan) (found : List Outcome) (values : List Datum) → IsPlanOf m s items plan
    → HaveOutcomes (outcome_of m (zip (parameters_of s) values)) items found plan.parameters.items → length values ≡ length (parameters_of s)
    → inputs_by_place found items plan.parameters.items ≡ inputs_told (zip (parameters_of s) values)
inputs_same m s items plan found values h stands count =
    let given = zip (parameters_of s) values in
    let as_given : Each (λ e. outcome_of m given e.0 ≡ Is e.1) (zip (map (name_at items) plan.parameters.items) values) =
    subst (λ ns. Each (λ e. outcome_of m given e.0 ≡ Is e.1) (zip ns values)) h.parameters (each_outcome m given given (zip_given (parameters_of s) values h.distinct)) in
    by_place (outcome_of m given) items found plan.parameters.items values (count ∙ ap length h.parameters ∙ length-map plan.parameters.items (name_at items)) stands as_given
    ∙ ap (λ ns. inputs_told (zip ns values)) (sym h.parameters)
