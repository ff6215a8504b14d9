-- What is found along the places of a plan is what its names stand for in the model.
use Rattle.std.proofs.Common.{◌≡◌, ◌∙◌, sym, ap, refl, subst, ℕ, zero, suc, ◌+◌, ◌<◌, ◌≤◌, ◌⊎◌, inl, inr, List, [], ◌∷◌, map, length, true, false, cond, ◌||◌, Option, None, Some, option_map, arith}
use Rattle.std.specs.Prelude.{nat_eq, ◌≢◌}
use Rattle.std.specs.List.{list_any, zip, All}
use Rattle.std.proofs.lemmas.Bool.Decides.{eqb_tells}
use Rattle.feel_value.specs.Datum.{Datum}
use Rattle.feel_value.specs.declared.feel.Outcome.{Outcome}
use Rattle.feel_value.specs.declared.feel.Outcome.TheVariants.{Is}
use Rattle.feel_text.specs.Expr.{Expr}
use Rattle.feel_text.specs.Meaning.{Bindings}
use Rattle.feel_text.specs.Needed.{found_at}
use Rattle.feel_value.specs.Found.{value_of, ◌>>=◌, each, outcome_from}
use Rattle.feel_value.specs.Distinct.{are_distinct}
use Rattle.dmn_table.specs.Hits.{one_or_context}
use Rattle.dmn_table.specs.Table.{Table}
use Rattle.dmn_form.specs.Model.{Name, Boxed, Service, Model}
use Rattle.dmn_logic.specs.Boxed.{boxed}
use Rattle.dmn_service.specs.Decision.{parameters_of, Given, given_value, given_or, decision_named, decided_if, bindings_to, stands_for, outcome_within, outcome_of, outputs_result, service_result}
use Rattle.dmn_service.specs.Places.{names_of, name_at, needs_at}
use Rattle.dmn_service.specs.Outcomes.{HaveOutcomes}
use Rattle.dmn_service.specs.Run.{logic_at, Found, values_in, nothing_found, kept_at, needed_at, outcome_at, filled_by, given_at, outputs_at}
use Rattle.dmn_service.specs.Plan.{HasPlacesWithin, IsAmong, IsNotAmong, IsPlanOf, ObeysRecursion}
use Rattle.dmn_graph.specs.Reach.{Each, IsInOrder}
use Rattle.dmn_service.specs.declared.plan.Item.{Item}
use Rattle.dmn_service.specs.declared.plan.ServicePlan.{ServicePlan}
use Rattle.dmn_service.proofs.Given.{zip_given, not_given}
use Rattle.dmn_service.proofs.Decisions.{decision_at, fits, name_apart}

-- what holds of each of a list holds of what is among it
each_at : (P : ℕ → Type 0) (qs : List ℕ) (q : ℕ) → Each P qs → IsAmong qs q → P q
each_at P [] q h a = absurd (cc)
each_at P (p ∷ ps) q h a = go (eqb_tells q p) (each_at P ps q h.1)
  where
    go : ((nat_eq q p ≡ true) × (q ≡ p)) ⊎ ((nat_eq q p ≡ false) × (q ≢ p)) → (IsAmong ps q → P q) → P q
    go (inl e) rest = subst P (sym e.1) h.0
    go (inr e) rest = rest (sym (ap (λ b. b || list_any (nat_eq q) ps) e.0) ∙ a)

each_all : (P Q : ℕ → Type 0) → ((q : ℕ) → P q → Q q) → (qs : List ℕ) → Each P qs → Each Q qs
each_all P Q f [] h = tt
each_all P Q f (q ∷ qs) h = (f q h.0, each_all P Q f qs h.1)

each_from_all : (P : ℕ → Type 0) (qs : List ℕ) → All P qs → Each P qs
each_from_all P [] h = tt
each_from_all P (q ∷ qs) h = (h 0 q (omega arith), each_from_all P qs (λ k d l. h (suc k) d (omega (arith, l))))

both : (P Q : ℕ → Type 0) (qs : List ℕ) → Each P qs → Each Q qs → Each (λ q. P q × Q q) qs
both P Q [] p q = tt
both P Q (x ∷ xs) p q = ((p.0, q.0), both P Q xs p.1 q.1)

-- the outcomes of names, stage after stage of the recursion
module _ (m : Model Expr Table) (given : Given) (items : List Item) (fits : (q : ℕ) → q < length items → decision_named m.decisions (name_at items q) ≡ decision_at items q)
    (stage : ℕ → Name → Outcome) (step : (n : ℕ) (name : Name) → stage (suc n) name ≡ stands_for m given (stage n) name) where
  -- from stage r on, the name of the place has the outcome that was found there
  abbrev Settled : ℕ → Found → ℕ → Type 0
  Settled r found q = (steps : ℕ) → r ≤ steps → value_of (stage steps (name_at items q)) ≡ found q

  settled_later : (r s : ℕ) (found : Found) (q : ℕ) → r ≤ s → Settled r found q → Settled s found q
  settled_later r s found q le h steps l = h steps (omega arith)

  bindings_same : (outcome : Name → Outcome) (found : Found) (qs : List ℕ) → Each (λ q. value_of (outcome (name_at items q)) ≡ found q) qs
      → bindings_to outcome (map (name_at items) qs) ≡ needed_at (name_at items) found qs
  bindings_same outcome found [] h = refl
  bindings_same outcome found (q ∷ qs) h =
      ap (λ (o : Option Datum). (o >>= λ v. Some (name_at items q, v)) >>= λ b. bindings_to outcome (map (name_at items) qs) >>= λ bs. Some (b ∷ bs)) h.0
      ∙ ap (λ (r : Option Bindings). (found q >>= λ v. Some (name_at items q, v)) >>= λ b. r >>= λ bs. Some (b ∷ bs)) (bindings_same outcome found qs h.1)

  -- what a name that isn't given stands for, from what was found for its needs
  stands_here : (outcome : Name → Outcome) (found : Found) (q : ℕ) → q < length items → given_value given (name_at items q) ≡ None
      → Each (λ p. value_of (outcome (name_at items p)) ≡ found p) (needs_at items q)
      → stands_for m given outcome (name_at items q) ≡ outcome_at (name_at items) found (needs_at items q) (logic_at items q)
  stands_here outcome found q inside free h =
      ap (λ g. given_or g (decided_if outcome (decision_named m.decisions (name_at items q)))) free ∙ ap (decided_if outcome) (fits q inside) ∙ by_logic (logic_at items q)
    where
      by_logic : (l : Option (Boxed Expr Table))
          → decided_if outcome (option_map (λ b. record { name = name_at items q; needs = map (name_at items) (needs_at items q); logic = b }) l) ≡ outcome_at (name_at items) found (needs_at items q) l
      by_logic None = refl
      by_logic (Some b) = ap (outcome_from (boxed b)) (bindings_same outcome found (needs_at items q) h)

  kept_here : (found : Found) (q : ℕ) (o : Outcome) → kept_at found q o q ≡ value_of o
  kept_here found q o = go (eqb_tells q q)
    where
      go : ((nat_eq q q ≡ true) × (q ≡ q)) ⊎ ((nat_eq q q ≡ false) × (q ≢ q)) → kept_at found q o q ≡ value_of o
      go (inl e) = ap (λ b. cond b (value_of o) (found q)) e.0
      go (inr e) = absurd (e.1 refl)

  -- a place in its turn, one step later
  settled_next : (r : ℕ) (found : Found) (q : ℕ) → q < length items → given_value given (name_at items q) ≡ None → Each (Settled r found) (needs_at items q)
      → Settled (suc r) (kept_at found q (outcome_at (name_at items) found (needs_at items q) (logic_at items q))) q
  settled_next r found q inside free h zero l = absurd (omega arith)
  settled_next r found q inside free h (suc n) l =
      ap value_of (step n (name_at items q)
      ∙ stands_here (stage n) found q inside free
      (each_all (Settled r found) (λ p. value_of (stage n (name_at items p)) ≡ found p) (λ p s. s n (omega arith)) (needs_at items q) h))
      ∙ sym (kept_here found q (outcome_at (name_at items) found (needs_at items q) (logic_at items q)))

  -- keeping a settled outcome unsettles no place
  settled_kept : (r : ℕ) (found : Found) (q : ℕ) (o : Outcome) → Settled r (kept_at found q o) q → (p : ℕ) → Settled r found p → Settled r (kept_at found q o) p
  settled_kept r found q o here p h = go (eqb_tells q p)
    where
      go : ((nat_eq q p ≡ true) × (q ≡ p)) ⊎ ((nat_eq q p ≡ false) × (q ≢ p)) → Settled r (kept_at found q o) p
      go (inl e) = subst (Settled r (kept_at found q o)) e.1 here
      go (inr e) = λ steps l. h steps l ∙ sym (ap (λ b. cond b (value_of o) (found p)) e.0)

  abbrev Turn : ℕ → Type 0
  Turn q = (q < length items) × (given_value given (name_at items q) ≡ None)

  -- along an order, what is found at its places settles, and what was settled before stays so
  settled_along : (qs seen : List ℕ) (r : ℕ) (found : Found) → Each Turn qs → Each (Settled r found) seen → IsInOrder nat_eq (needs_at items) seen qs
      → Each (Settled (r + length qs) (filled_by items qs found)) qs × Each (Settled (r + length qs) (filled_by items qs found)) seen
  settled_along [] seen r found turns h order = (tt, each_all (Settled r found) (Settled (r + 0) found) (λ q s. settled_later r (r + 0) found q (omega arith) s) seen h)
  settled_along (q ∷ qs) seen r found turns h order =
      let o : Outcome = outcome_at (name_at items) found (needs_at items q) (logic_at items q) in
      let needs = each_all (IsAmong seen) (Settled r found) (λ p a. each_at (Settled r found) seen p h a) (needs_at items q) order.0 in
      let here = settled_next r found q turns.0.0 turns.0.1 needs in
      let others = each_all (Settled r found) (Settled (suc r) (kept_at found q o)) (λ p s. settled_kept (suc r) found q o here p (settled_later r (suc r) found p (omega arith) s)) seen h in
      let rest = settled_along qs (q ∷ seen) (suc r) (kept_at found q o) turns.1 (here, others) order.1 in
      let later = λ (ps : List ℕ). each_all (Settled (suc r + length qs) (filled_by items (q ∷ qs) found)) (Settled (r + suc (length qs)) (filled_by items (q ∷ qs) found))
      (λ p s. settled_later (suc r + length qs) (r + suc (length qs)) (filled_by items (q ∷ qs) found) p (omega arith) s) ps in
      let all = later (q ∷ seen) rest.1 in
      ((all.0, later qs rest.0), all.1)

  -- a given name stands for the given value
  settled_given : (found : Found) (q : ℕ) (v : Datum) → given_value given (name_at items q) ≡ Some v → Settled 1 (kept_at found q (Is v)) q
  settled_given found q v e zero l = absurd (omega arith)
  settled_given found q v e (suc n) l =
      ap value_of (step n (name_at items q) ∙ ap (λ g. given_or g (decided_if (stage n) (decision_named m.decisions (name_at items q)))) e)
      ∙ sym (kept_here found q (Is v))

  -- these places have these values
  abbrev Own : List ℕ → List Datum → Type 0
  Own ps vs = Each (λ e. given_value given e.0 ≡ Some e.1) (zip (map (name_at items) ps) vs)

  settled_stays : (ps : List ℕ) (vs : List Datum) (found : Found) (q : ℕ) → Own ps vs → Settled 1 found q → Settled 1 (given_at ps vs found) q
  settled_stays [] vs found q own h = h
  settled_stays (p ∷ ps) [] found q own h = h
  settled_stays (p ∷ ps) (v ∷ vs) found q own h =
      settled_stays ps vs (kept_at found p (Is v)) q own.1 (settled_kept 1 found p (Is v) (settled_given found p v own.0) q h)

  settled_parameters : (ps : List ℕ) (vs : List Datum) (found : Found) → length vs ≡ length ps → Own ps vs → Each (Settled 1 (given_at ps vs found)) ps
  settled_parameters [] vs found same own = tt
  settled_parameters (p ∷ ps) [] found same own = absurd (omega (arith, same))
  settled_parameters (p ∷ ps) (v ∷ vs) found same own = (
    settled_stays ps vs (kept_at found p (Is v)) p own.1 (settled_given found p v own.0),
    settled_parameters ps vs (kept_at found p (Is v)) (omega (arith, same)) own.1,
  )

-- outputs that have the outcomes of their names are those of the recursion
outputs_same : (items : List Item) (outcome : Name → Outcome) (found : Found) (qs : List ℕ) → Each (λ q. value_of (outcome (name_at items q)) ≡ found q) qs
    → each found qs ≡ each (λ k. value_of (outcome k)) (map (name_at items) qs)
outputs_same items outcome found [] h = refl
outputs_same items outcome found (q ∷ qs) h =
    ap (λ (o : Option Datum). o >>= λ y. each found qs >>= λ ys. Some (y ∷ ys)) (sym h.0)
    ∙ ap (λ (r : Option (List Datum)). value_of (outcome (name_at items q)) >>= λ y. r >>= λ ys. Some (y ∷ ys)) (outputs_same items outcome found qs h.1)

free_of : (items : List Item) → are_distinct (names_of items) ≡ true → (ps : List ℕ) (vs : List Datum) (qs : List ℕ) → Each (λ p. p < length items) ps → Each (λ q. q < length items) qs
    → Each (IsNotAmong ps) qs → Each (λ q. given_value (zip (map (name_at items) ps) vs) (name_at items q) ≡ None) qs
free_of items distinct ps vs [] inside within apart = tt
free_of items distinct ps vs (q ∷ qs) inside within apart = (
  not_given (name_at items q) (map (name_at items) ps) vs (name_apart items distinct ps q inside within.0 apart.0),
  free_of items distinct ps vs qs inside within.1 apart.1,
)

-- What a run finds at the places of the order and of the parameters, from the values of these, is what the recursion has for their
-- names at each late stage.
found_late : (late_stage : ℕ) (m : Model Expr Table) (s : Service) (items : List Item) (plan : ServicePlan) (values : List Datum) → IsPlanOf m s items plan → HasPlacesWithin items plan
    → length values ≡ length plan.parameters.items → suc (length m.decisions) ≤ late_stage → (stage : ℕ → Name → Outcome) → ((n : ℕ) (name : Name) → stage (suc n) name ≡ stands_for m (zip (parameters_of s) values) (stage n) name)
    → Each (λ q. value_of (stage late_stage (name_at items q)) ≡ filled_by items plan.order.items (given_at plan.parameters.items values nothing_found) q) plan.order.items
    × Each (λ q. value_of (stage late_stage (name_at items q)) ≡ filled_by items plan.order.items (given_at plan.parameters.items values nothing_found) q) plan.parameters.items
found_late late_stage m s items plan values h inside same enough stage step =
    let given : Given = zip (parameters_of s) values in
    let ps = plan.parameters.items in
    let order = plan.order.items in
    let start : Found = given_at ps values nothing_found in
    let found : Found = filled_by items order start in
    let own : Each (λ e. given_value (zip (parameters_of s) values) e.0 ≡ Some e.1) (zip (map (name_at items) ps) values) =
    subst (λ ns. Each (λ e. given_value (zip (parameters_of s) values) e.0 ≡ Some e.1) (zip ns values)) h.parameters (zip_given (parameters_of s) values h.distinct) in
    let within = each_from_all (λ q. q < length items) order inside.order in
    let free : Each (λ q. given_value (zip (parameters_of s) values) (name_at items q) ≡ None) order =
    subst (λ ns. Each (λ q. given_value (zip ns values) (name_at items q) ≡ None) order) (sym h.parameters)
    (free_of items h.names ps values order (each_from_all (λ q. q < length items) ps inside.parameters) within h.apart) in
    let turns = both (λ q. q < length items) (λ q. given_value (zip (parameters_of s) values) (name_at items q) ≡ None) order within free in
    let fit = fits m items h.names h.decisions in
    let settled = settled_along m given items fit stage step order ps 1 start turns (settled_parameters m given items fit stage step ps values nothing_found same own) h.behind in
    let few : 1 + length order ≤ late_stage = (let e = h.short in omega (arith, enough)) in
    let at_last = λ (qs : List ℕ). each_all (Settled m given items fit stage step (1 + length order) found) (λ q. value_of (stage late_stage (name_at items q)) ≡ found q)
    (λ q settled. settled late_stage few) qs in
    (at_last order settled.0, at_last ps settled.1)

-- What it finds for the outputs is what the recursion has at each late stage.
found_is_late : (late_stage : ℕ) (m : Model Expr Table) (s : Service) (items : List Item) (plan : ServicePlan) (values : List Datum) → IsPlanOf m s items plan → HasPlacesWithin items plan
    → length values ≡ length plan.parameters.items → suc (length m.decisions) ≤ late_stage → (stage : ℕ → Name → Outcome) → ((n : ℕ) (name : Name) → stage (suc n) name ≡ stands_for m (zip (parameters_of s) values) (stage n) name)
    → outputs_at (name_at items) (filled_by items plan.order.items (given_at plan.parameters.items values nothing_found)) plan.outputs.items ≡ outputs_result s (stage late_stage)
found_is_late late_stage m s items plan values h inside same enough stage step =
    let order = plan.order.items in
    let outs = plan.outputs.items in
    let found : Found = filled_by items order (given_at plan.parameters.items values nothing_found) in
    let late = found_late late_stage m s items plan values h inside same enough stage step in
    let ends = each_all (IsAmong order) (λ q. value_of (stage late_stage (name_at items q)) ≡ found q)
    (λ q a. each_at (λ p. value_of (stage late_stage (name_at items p)) ≡ found p) order q late.0 a) outs h.ends in
    ap (outcome_from (one_or_context (map (name_at items) outs))) (outputs_same items (stage late_stage) found outs ends)
    ∙ ap (λ ns. outcome_from (one_or_context ns) (each (λ n. value_of (stage late_stage n)) ns)) (sym h.outputs)

-- So it is what the recursion gives in as many steps as there are decisions, and one, or in more.
pub found_within : (steps : ℕ) (m : Model Expr Table) (s : Service) (items : List Item) (plan : ServicePlan) (values : List Datum) → IsPlanOf m s items plan → HasPlacesWithin items plan
    → length values ≡ length plan.parameters.items → suc (length m.decisions) ≤ steps
    → outputs_at (name_at items) (filled_by items plan.order.items (given_at plan.parameters.items values nothing_found)) plan.outputs.items
    ≡ outputs_result s (outcome_within steps m (zip (parameters_of s) values))
unfolding outcome_within
found_within steps m s items plan values h inside same enough = found_is_late steps m s items plan values h inside same enough (λ n. outcome_within n m (zip (parameters_of s) values)) (λ n name. refl)

-- And it is the service's result.
pub found_is_result : (m : Model Expr Table) (s : Service) (items : List Item) (plan : ServicePlan) (values : List Datum) → IsPlanOf m s items plan → HasPlacesWithin items plan
    → length values ≡ length plan.parameters.items
    → outputs_at (name_at items) (filled_by items plan.order.items (given_at plan.parameters.items values nothing_found)) plan.outputs.items ≡ service_result m s (zip (parameters_of s) values)
unfolding service_result outcome_of
found_is_result m s items plan values h inside same = found_within (suc (length m.decisions)) m s items plan values h inside same (omega arith)

-- It is what any outcomes give that obey the recursion.
pub found_obeys : (m : Model Expr Table) (s : Service) (items : List Item) (plan : ServicePlan) (values : List Datum) → IsPlanOf m s items plan → HasPlacesWithin items plan
    → length values ≡ length plan.parameters.items → (outcome : Name → Outcome) → ObeysRecursion m (zip (parameters_of s) values) outcome
    → outputs_at (name_at items) (filled_by items plan.order.items (given_at plan.parameters.items values nothing_found)) plan.outputs.items ≡ outputs_result s outcome
found_obeys m s items plan values h inside same outcome obeys =
    found_is_late (suc (length m.decisions)) m s items plan values h inside same (omega arith) (λ n. outcome) (λ n name. obeys name)

-- What a run finds at the places of the parameters and of the order has the outcomes of their names.
pub found_stands : (m : Model Expr Table) (s : Service) (items : List Item) (plan : ServicePlan) (values : List Datum) (outcomes : List Outcome) → IsPlanOf m s items plan → HasPlacesWithin items plan
    → length values ≡ length plan.parameters.items → values_in outcomes ≡ filled_by items plan.order.items (given_at plan.parameters.items values nothing_found)
    → HaveOutcomes (outcome_of m (zip (parameters_of s) values)) items outcomes plan.parameters.items
    × HaveOutcomes (outcome_of m (zip (parameters_of s) values)) items outcomes plan.order.items
unfolding outcome_of outcome_within
found_stands m s items plan values outcomes h inside same found =
    let given : Given = zip (parameters_of s) values in
    let whole : Found = filled_by items plan.order.items (given_at plan.parameters.items values nothing_found) in
    let steps : ℕ = suc (length m.decisions) in
    let late = found_late steps m s items plan values h inside same (omega arith) (λ n. outcome_within n m given) (λ n name. refl) in
    let stands = λ (qs : List ℕ). each_all (λ q. value_of (outcome_within steps m given (name_at items q)) ≡ whole q)
    (λ q. found_at outcomes q ≡ value_of (outcome_within steps m given (name_at items q))) (λ q e. ap (λ (f : Found). f q) found ∙ sym e) qs in
    (stands plan.parameters.items late.1, stands plan.order.items late.0)
