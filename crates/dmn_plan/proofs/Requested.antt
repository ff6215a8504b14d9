-- What is asked of a service: values under the names of its parameters.
use Rattle.std.proofs.Common.{◌≡◌, ℕ, List, [], ◌∷◌, map, length, Option, Some, None, option_map, true, false, is_some, true≢false, refl, sym, ap, subst, ◌∙◌, String, Global, suc}
use Rattle.std.specs.Prelude.{Result, Ok, Err}
use Rattle.std.specs.BTreeMap.{BTreeMap, get_by_text}
use Rattle.serde_json.specs.Data as json
use Rattle.serde_json.specs.Find.{get, as_object}
use Rattle.feel_value.specs.Datum.{Datum}
use Rattle.feel_text.specs.Expr.{Expr}
use Rattle.feel_value.specs.Found.{◌>>=◌, each}
use Rattle.dmn_table.specs.Table.{Table}
use Rattle.dmn_form.specs.Model.{Name, Service, Model}
use Rattle.dmn_plan.specs.Indexed.{IsPlanAt, IsIndexed}
use Rattle.dmn_plan.specs.ReadModel.{read_text}
use Rattle.dmn_plan.specs.Request.{Request, TakesValues, service_in, service_named, value_under, values_under, request_with, request_to, request_of}
use Rattle.dmn_plan.specs.Served.{ArePlansOf, IsServicePlan}
use Rattle.dmn_plan.specs.declared.fault.ModelFault.{ModelFault}
use Rattle.dmn_plan.specs.declared.fault.TaskFault.TheVariants as fault
use Rattle.dmn_service.specs.Decision.{parameters_of}
use Rattle.dmn_service.specs.Places.{name_at}
use Rattle.dmn_service.specs.Plan.{HasPlacesWithin}
use Rattle.dmn_service.specs.declared.plan.Item.{Item}
use Rattle.dmn_service.specs.declared.plan.ServicePlan.{ServicePlan}

-- ---- values by places and by names

-- what is found for each after f
pub each_mapped : {X Y Z : Type 0} (g : Y → Option Z) (f : X → Y) (xs : List X) → each (λ x. g (f x)) xs ≡ each g (map f xs)
each_mapped g f [] = refl
each_mapped {Z = Z} g f (x ∷ xs) = ap (λ (o : Option (List Z)). g (f x) >>= λ z. o >>= λ zs. Some (z ∷ zs)) (each_mapped g f xs)

pub of_object : (ns : List Name) (d : json.Data) → is_some (as_object d) ≡ true → each (λ n. value_under (get n d)) ns ≡ values_under ns d
of_object ns json.null h = absurd (true≢false (sym h))
of_object ns (json.boolean b) h = absurd (true≢false (sym h))
of_object ns (json.number n) h = absurd (true≢false (sym h))
of_object ns (json.string s) h = absurd (true≢false (sym h))
of_object ns (json.array ds) h = absurd (true≢false (sym h))
of_object ns (json.object ms) h = refl

pub of_other : (ns : List Name) (d : json.Data) → is_some (as_object d) ≡ false → values_under ns d ≡ None
of_other ns json.null h = refl
of_other ns (json.boolean b) h = refl
of_other ns (json.number n) h = refl
of_other ns (json.string s) h = refl
of_other ns (json.array ds) h = refl
of_other ns (json.object ms) h = absurd (true≢false h)

-- ---- the service of a plan

-- the service that a plan is found for, with its parameters by places
pub record Serves (r : Result (Model Expr Table) ModelFault) (items : List Item) (n : Name) (p : ServicePlan) : Type 0 where
  pub within : HasPlacesWithin items p
  pub service : Service
  pub found : service_in r n ≡ Some service
  pub parameters : parameters_of service ≡ map (name_at items) p.parameters.items

serves_at : (m : Model Expr Table) (items : List Item) (n : Name) (so : Option Service) (o : Option ServicePlan) (p : ServicePlan) → service_named m.services n ≡ so → IsPlanAt m items so o → o ≡ Some p
    → Serves (Ok m) items n p
serves_at m items n None None p is h e = cc
serves_at m items n None (Some q) p is h e = absurd h
serves_at m items n (Some s) None p is h e = absurd h
serves_at m items n (Some s) (Some q) p is h e =
    let same : q ≡ p = cc in
    record {
      within = subst (HasPlacesWithin items) same h.1;
      service = s;
      found = is;
      parameters = h.2.parameters ∙ ap (λ (x : ServicePlan). map (name_at items) x.parameters.items) same;
    }

pub serves : (r : Result (Model Expr Table) ModelFault) (items : List Item) (found : BTreeMap (String Global) ServicePlan) (n : Name) (p : ServicePlan)
    → IsIndexed r items found → Some p ≡ get_by_text found n → Serves r items n p
serves (Ok m) items found n p h e = serves_at m items n (service_named m.services n) (get_by_text found n) p refl (h n) (sym e)
serves (Err f) items found n p h e = absurd h

served_at : (m : Model Expr Table) (items : List Item) (n : Name) (so : Option Service) (o : Option ServicePlan) (p : ServicePlan) → service_named m.services n ≡ so → IsPlanAt m items so o → o ≡ Some p
    → IsServicePlan (Ok m) n items p
served_at m items n None None p is h e = cc
served_at m items n None (Some q) p is h e = absurd h
served_at m items n (Some s) None p is h e = absurd h
served_at m items n (Some s) (Some q) p is h e =
    let same : q ≡ p = cc in
    subst (IsServicePlan (Ok m) n items) same (record { model = m; is = refl; service = s; named = is; within = h.1; plan = h.2 })

-- the plan that is found is that of the service
pub served : (r : Result (Model Expr Table) ModelFault) (items : List Item) (found : BTreeMap (String Global) ServicePlan) (n : Name) (p : ServicePlan)
    → IsIndexed r items found → Some p ≡ get_by_text found n → IsServicePlan r n items p
served (Ok m) items found n p h e = served_at m items n (service_named m.services n) (get_by_text found n) p refl (h n) (sym e)
served (Err f) items found n p h e = absurd h

-- and those that are found for these names are the plans of these services
plan_and : (r : Result (Model Expr Table) ModelFault) (items : List Item) (found : BTreeMap (String Global) ServicePlan) (n : Name) (ns : List Name) (o : Option ServicePlan) (rest : Option (List ServicePlan)) (ps : List ServicePlan)
    → IsIndexed r items found → o ≡ get_by_text found n → ((qs : List ServicePlan) → rest ≡ Some qs → ArePlansOf r items ns qs) → (o >>= λ p. rest >>= λ qs. Some (p ∷ qs)) ≡ Some ps → ArePlansOf r items (n ∷ ns) ps
plan_and r items found n ns None rest ps h is others e = cc
plan_and r items found n ns (Some p) None ps h is others e = cc
plan_and r items found n ns (Some p) (Some qs) ps h is others e =
    let same : p ∷ qs ≡ ps = cc in
    subst (ArePlansOf r items (n ∷ ns)) same (served r items found n p h is, others qs refl)

none_left : (r : Result (Model Expr Table) ModelFault) (items : List Item) (ps : List ServicePlan) → Some [] ≡ Some ps → ArePlansOf r items [] ps
none_left r items [] e = tt
none_left r items (p ∷ ps) e = cc

pub all_served : (r : Result (Model Expr Table) ModelFault) (items : List Item) (found : BTreeMap (String Global) ServicePlan) (ns : List Name) (ps : List ServicePlan)
    → IsIndexed r items found → each (get_by_text found) ns ≡ Some ps → ArePlansOf r items ns ps
all_served r items found [] ps h e = none_left r items ps e
all_served r items found (n ∷ ns) ps h e = plan_and r items found n ns (get_by_text found n) (each (get_by_text found) ns) ps h refl (λ qs f. all_served r items found ns qs h f) e

lacks_at : (m : Model Expr Table) (items : List Item) (so : Option Service) (o : Option ServicePlan) → IsPlanAt m items so o → o ≡ None → so ≡ None
lacks_at m items None o h e = refl
lacks_at m items (Some s) None h e = absurd h
lacks_at m items (Some s) (Some q) h e = cc

-- there is no service where no plan is found
pub lacks : (r : Result (Model Expr Table) ModelFault) (items : List Item) (found : BTreeMap (String Global) ServicePlan) (n : Name)
    → IsIndexed r items found → None ≡ get_by_text found n → service_in r n ≡ None
lacks (Ok m) items found n h e = lacks_at m items (service_named m.services n) (get_by_text found n) (h n) (sym e)
lacks (Err f) items found n h e = absurd h

-- ---- the request

-- the request of a service with these values
pub requested : (text : List ℕ) (n : Name) (d : json.Data) (items : List Item) (p : ServicePlan) (values : Option (List Datum)) → Serves (read_text text) items n p
    → values ≡ values_under (map (name_at items) p.parameters.items) d → request_of text n d ≡ request_with text n values
requested text n d items p values s e =
    ap (λ (o : Option Service). request_to text n o d) s.found
    ∙ ap (λ (ns : List Name). request_with text n (values_under ns d)) s.parameters ∙ ap (request_with text n) (sym e)

pub unserved : (text : List ℕ) (n : Name) (d : json.Data) → service_in (read_text text) n ≡ None → request_of text n d ≡ Err fault.Service
unserved text n d e = ap (λ (o : Option Service). request_to text n o d) e

-- ---- as many values as parameters

counted : {Y : Type 0} (n : ℕ) (o : Option Y) (p : Option (List Y)) (ys : List Y) → ((zs : List Y) → p ≡ Some zs → length zs ≡ n) → (o >>= λ y. p >>= λ zs. Some (y ∷ zs)) ≡ Some ys → length ys ≡ suc n
counted n None p ys g e = cc
counted n (Some y) None ys g e = cc
counted n (Some y) (Some zs) ys g e = let same : ys ≡ y ∷ zs = cc in ap length same ∙ ap suc (g zs refl)

each_count : {X Y : Type 0} (f : X → Option Y) (xs : List X) (ys : List Y) → each f xs ≡ Some ys → length ys ≡ length xs
each_count f [] ys e = let same : ys ≡ [] = cc in ap length same
each_count f (x ∷ xs) ys e = counted (length xs) (f x) (each f xs) ys (each_count f xs) e

values_count : (ns : List Name) (d : json.Data) (vs : List Datum) → values_under ns d ≡ Some vs → length vs ≡ length ns
values_count ns json.null vs e = cc
values_count ns (json.boolean b) vs e = cc
values_count ns (json.number n) vs e = cc
values_count ns (json.string s) vs e = cc
values_count ns (json.array ds) vs e = cc
values_count ns (json.object ms) vs e = each_count _ ns vs e

with_count : (text : List ℕ) (n : Name) (s : Service) (o : Option (List Datum)) (q : Request) → ((vs : List Datum) → o ≡ Some vs → length vs ≡ length (parameters_of s)) → request_with text n o ≡ Ok q
    → length q.values ≡ length (parameters_of s)
with_count text n s None q g e = cc
with_count text n s (Some vs) q g e = let same : q.values ≡ vs = cc in ap length same ∙ g vs refl

to_count : (text : List ℕ) (n : Name) (o : Option Service) (d : json.Data) (q : Request) → request_to text n o d ≡ Ok q → option_map (λ s. length (parameters_of s)) o ≡ Some (length q.values)
to_count text n None d q e = cc
to_count text n (Some s) d q e = ap Some (sym (with_count text n s (values_under (parameters_of s) d) q (values_count (parameters_of s) d) e))

-- a request that is made has as many values as the service takes
pub takes : (text : List ℕ) (n : Name) (d : json.Data) (q : Request) → request_of text n d ≡ Ok q → TakesValues text n (length q.values)
takes text n d q e = to_count text n (service_in (read_text text) n) d q e
