-- What is told of the places of a plan holds of the outcomes of the decisions there.
use Rattle.std.proofs.Common.{◌≡◌, ◌∙◌, refl, sym, ap, subst, ℕ, zero, suc, ◌<◌, List, [], ◌∷◌, ◌++◌, length, true, Option, None, Some, unwrap_or, arith}
use Rattle.std.specs.Prelude.{slice_set}
use Rattle.std.specs.List.{slice_get, zip, All}
use Rattle.std.proofs.lemmas.List.{length-append}
use Rattle.feel_value.specs.Datum.{Datum}
use Rattle.feel_value.specs.Found.{value_of, outcome_from}
use Rattle.feel_value.specs.declared.feel.Outcome.{Outcome}
use Rattle.feel_value.specs.declared.feel.Outcome.TheVariants.{Is, Limit}
use Rattle.feel_text.specs.Expr.{Expr}
use Rattle.dmn_table.specs.Table.{Table}
use Rattle.dmn_graph.specs.Reach.{Each}
use Rattle.dmn_form.specs.Model.{Model, Service}
use Rattle.dmn_service.proofs.Kept.{values_in-set, nothing_more}
use Rattle.dmn_service.proofs.Result.{found_stands}
use Rattle.dmn_service.specs.Decision.{parameters_of, outcome_of}
use Rattle.dmn_service.specs.Places.{name_at, needs_at}
use Rattle.dmn_service.specs.Plan.{HasPlacesWithin, IsPlanOf}
use Rattle.dmn_service.specs.Run.{Found, values_in, nothing_found, outcome_at, filled_by, given_at, logic_at}
use Rattle.dmn_service.specs.declared.plan.Item.{Item}
use Rattle.dmn_service.specs.declared.plan.ServicePlan.{ServicePlan}
use Rattle.dmn_ranges.specs.Ranges.{covers}
use Rattle.dmn_ranges.specs.Services.{not_found, told_at, TellsFound}
use Rattle.dmn_ranges.specs.Decisions.{covered}
use Rattle.dmn_ranges.specs.declared.outcomes.Outcomes.{Outcomes}
use Rattle.dmn_ranges.proofs.SoundServices.{length_set, first_inside, others_inside}

-- ---- the outcomes that a run keeps, as a list

abbrev blank : ℕ → List Outcome
blank zero = []
blank (suc n) = blank n ++ Limit ∷ []

none_in : values_in [] ≡ nothing_found
none_in = let at : (q : ℕ) → values_in [] q ≡ None = λ q. refl in λ i q. at q i

blank_found : (n : ℕ) → values_in (blank n) ≡ nothing_found
blank_found zero = none_in
blank_found (suc n) = nothing_more (blank n) (blank_found n)

length_blank : (n : ℕ) → length (blank n) ≡ n
length_blank zero = refl
length_blank (suc n) = let more = length-append (blank n) (Limit ∷ []) in omega (arith, more, length_blank n)

abbrev given_list : List ℕ → List Datum → List Outcome → List Outcome
given_list [] vs os = os
given_list (q ∷ qs) [] os = os
given_list (q ∷ qs) (v ∷ vs) os = given_list qs vs (slice_set os q (Is v))

length_given : (qs : List ℕ) (vs : List Datum) (os : List Outcome) → length (given_list qs vs os) ≡ length os
length_given [] vs os = refl
length_given (q ∷ qs) [] os = refl
length_given (q ∷ qs) (v ∷ vs) os = length_given qs vs (slice_set os q (Is v)) ∙ length_set os q (Is v)

given_found : (n : ℕ) (qs : List ℕ) (vs : List Datum) (os : List Outcome) → All (λ p. p < n) qs → n ≡ length os → values_in (given_list qs vs os) ≡ given_at qs vs (values_in os)
given_found n [] vs os all count = refl
given_found n (q ∷ qs) [] os all count = refl
given_found n (q ∷ qs) (v ∷ vs) os all count =
    given_found n qs vs (slice_set os q (Is v)) (others_inside n q qs all) (count ∙ sym (length_set os q (Is v)))
    ∙ ap (given_at qs vs) (values_in-set os q (Is v) (omega (arith, count, first_inside n q qs all)))

abbrev filled_list : List Item → List ℕ → List Outcome → List Outcome
filled_list items [] os = os
filled_list items (q ∷ qs) os = filled_list items qs (slice_set os q (outcome_at (name_at items) (values_in os) (needs_at items q) (logic_at items q)))

filled_found : (items : List Item) (qs : List ℕ) (os : List Outcome) → All (λ p. p < length items) qs → length os ≡ length items → values_in (filled_list items qs os) ≡ filled_by items qs (values_in os)
filled_found items [] os all count = refl
filled_found items (q ∷ qs) os all count =
    let o : Outcome = outcome_at (name_at items) (values_in os) (needs_at items q) (logic_at items q) in
    filled_found items qs (slice_set os q o) (others_inside (length items) q qs all) (length_set os q o ∙ count)
    ∙ ap (filled_by items qs) (values_in-set os q o (omega (arith, count, first_inside (length items) q qs all)))

abbrev pub run : List Item → ServicePlan → List Datum → List Outcome
run items plan values = filled_list items plan.order.items (given_list plan.parameters.items values (blank (length items)))

pub run_found : (items : List Item) (plan : ServicePlan) (values : List Datum) → HasPlacesWithin items plan
    → values_in (run items plan values) ≡ filled_by items plan.order.items (given_at plan.parameters.items values nothing_found)
run_found items plan values inside =
    filled_found items plan.order.items (given_list plan.parameters.items values (blank (length items))) inside.order (length_given plan.parameters.items values (blank (length items)) ∙ length_blank (length items))
    ∙ ap (filled_by items plan.order.items)
    (given_found (length items) plan.parameters.items values (blank (length items)) inside.parameters (sym (length_blank (length items))) ∙ ap (given_at plan.parameters.items values) (blank_found (length items)))

-- ---- what is told

get_inside : {A : Type 0} (xs : List A) (q : ℕ) (d : A) → q < length xs → slice_get xs q ≡ Some (unwrap_or (slice_get xs q) d)
get_inside [] q d inside = absurd (omega (arith, inside))
get_inside (x ∷ xs) zero d inside = refl
get_inside (x ∷ xs) (suc q) d inside = get_inside xs q d (omega (arith, inside))

one_outcome : (o : Outcomes) (p : Outcome) → covers o (outcome_from Is (value_of p)) ≡ true → covers o p ≡ true
one_outcome o (Is d) h = h
one_outcome o Limit h = h

outcome_told : (told : List Outcomes) (found : Found) (q : ℕ) (o : Outcome) → q < length told → TellsFound told found → found q ≡ value_of o → covered (slice_get told q) o ≡ true
outcome_told told found q o inside tells e =
    let P : Option Datum → Type 0 = λ f. covers (told_at told q) (outcome_from Is f) ≡ true in
    let Q : Option Outcomes → Type 0 = λ w. covered w o ≡ true in
    subst Q (sym (get_inside told q not_found inside)) (one_outcome (told_at told q) o (subst P e (tells q)))

each_told : (told : List Outcomes) (found : Found) (outcome : ℕ → Outcome) (n : ℕ) (qs : List ℕ) → n ≡ length told → All (λ p. p < n) qs → TellsFound told found → Each (λ q. found q ≡ value_of (outcome q)) qs
    → Each (λ q. covered (slice_get told q) (outcome q) ≡ true) qs
each_told told found outcome n [] count all tells h = tt
each_told told found outcome n (q ∷ qs) count all tells h = (
  outcome_told told found q (outcome q) (omega (arith, count, first_inside n q qs all)) tells h.0,
  each_told told found outcome n qs count (others_inside n q qs all) tells h.1,
)

pub decisions_told : (told : List Outcomes) (m : Model Expr Table) (s : Service) (items : List Item) (plan : ServicePlan) (values : List Datum) → IsPlanOf m s items plan → HasPlacesWithin items plan
    → length values ≡ length plan.parameters.items → length told ≡ length items → TellsFound told (filled_by items plan.order.items (given_at plan.parameters.items values nothing_found))
    → Each (λ q. covered (slice_get told q) (outcome_of m (zip (parameters_of s) values) (name_at items q)) ≡ true) plan.order.items
decisions_told told m s items plan values is inside same count tells =
    let T : Found → Type 0 = λ f. TellsFound told f in
    let found = run_found items plan values inside in
    each_told told (values_in (run items plan values)) (λ q. outcome_of m (zip (parameters_of s) values) (name_at items q)) (length items) plan.order.items (sym count) inside.order (subst T (sym found) tells)
    (found_stands m s items plan values (run items plan values) is inside same found).1
