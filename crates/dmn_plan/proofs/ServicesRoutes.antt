-- The plan of a service by places leads from its parameters to its outputs.
use Rattle.std.proofs.Common.{◌≡◌, inl, inr, ℕ, suc, ◌+◌, ◌<◌, ◌≤◌, List, [], ◌∷◌, ◌++◌, map, length, drop, get_or, Option, Some, None, is_none, refl, sym, ap, ap₂, subst, ◌∙◌, Bool, true, false, not, ◌&&◌, ◌||◌, arith, string_bytes, append_assoc, add-one, drop-cons}
use Rattle.std.specs.Prelude.{bytes_eq, nat_eq, nat_lt, All, IfSome}
use Rattle.std.specs.List.{list_any, list_all}
use Rattle.std.proofs.lemmas.Bool.Decides.{Decides-eqb}
use Rattle.std.proofs.lemmas.List.{length-map, append-nil, drop_all, get_or-map}
use Rattle.std.proofs.lemmas.Slice.Eq.{bytes_eq-Decides}
use Rattle.dmn_form.specs.Model.{Service}
use Rattle.dmn_form.specs.Draft.{Draft}
use Rattle.dmn_form.specs.ModelView.{model_view, service_view}
use Rattle.dmn_form.specs.declared.written.WrittenModel.{WrittenModel}
use Rattle.dmn_form.specs.declared.written.WrittenService.{WrittenService}
use Rattle.dmn_graph.specs.Members.{IsIn}
use Rattle.dmn_graph.specs.Within.{needs_within, reached_within, reaches_only, IsReachOf}
use Rattle.dmn_graph.proofs.Members.{in_left, in_either, is_in, among, among_not, not_in, distinct_length}
use Rattle.dmn_graph.proofs.Reaching.{reached_from}
use Rattle.dmn_graph.proofs.Renaming.{among_named}
use Rattle.dmn_names.specs.Names.{have_twice, has_name_twice}
use Rattle.feel_value.specs.Distinct.{are_distinct}
use Rattle.dmn_names.specs.Parts.{decision_names, value_names, service_lists}
use Rattle.dmn_names.specs.Places.{needs_by_place, PlacedService, placed_service, ArePlacesOf}
use Rattle.dmn_names.proofs.NamesBack.{both, not_so, so}
use Rattle.dmn_names.proofs.Parameters.{distinct_parameters, distinct_lists}
use Rattle.dmn_service.specs.Plan.{IsAmong, IsNotAmong}
use Rattle.dmn_graph.specs.Reach as reach
use Rattle.dmn_graph.specs.Reach.{Each, IsInOrder}
use Rattle.dmn_service.specs.declared.plan.ServicePlan.{ServicePlan}
use Rattle.dmn_plan.specs.Faults.{is_bad_service}
use Rattle.dmn_plan.specs.Plans.{place_name, place_need, IsRouteOf, AreRoutesOf}
use Rattle.dmn_plan.specs.ServicesByPlace.{inner_places, parameter_places, do_share, is_bad_by_place, IsPlacedPlan}
use Rattle.dmn_plan.proofs.ServicesByName.{all_from, tells, few_need}
use Rattle.dmn_plan.proofs.ServicesFaults.{neither, back, no_stranger, inner_decisions, output_below, inner_below, data_below, parameter_below, inner_names, parameter_names}

-- ---- lists

all_pass : {X : Type 0} (t : X → Bool) (xs : List X) (x : X) → list_all t xs ≡ true → IsIn x xs → t x ≡ true
all_pass t [] x e i = absurd i
all_pass t (y ∷ ys) x e (inl q) = ap t q ∙ (both (t y) (list_all t ys) e).0
all_pass t (y ∷ ys) x e (inr j) = all_pass t ys x (both (t y) (list_all t ys) e).1 j

none_passes : {X : Type 0} (t : X → Bool) (xs : List X) (x : X) → list_any t xs ≡ false → IsIn x xs → t x ≡ false
none_passes t [] x e i = absurd i
none_passes t (y ∷ ys) x e (inl q) = ap t q ∙ (neither (t y) (list_any t ys) e).0
none_passes t (y ∷ ys) x e (inr j) = none_passes t ys x (neither (t y) (list_any t ys) e).1 j

each_from : {X : Type 0} (P : X → Type 0) (xs : List X) → ((x : X) → IsIn x xs → P x) → Each P xs
each_from P [] h = tt
each_from P (x ∷ xs) h = (h x (inl refl), each_from P xs (λ y i. h y (inr i)))

in_names : {X Y : Type 0} (name : X → Y) (x : X) (xs : List X) → IsIn x xs → IsIn (name x) (map name xs)
in_names name x [] h = absurd h
in_names name x (y ∷ ys) (inl e) = inl (ap name e)
in_names name x (y ∷ ys) (inr h) = inr (in_names name x ys h)

named_within : {X Y : Type 0} (name : X → Y) (xs : List X) (ys : List Y) → ((x : X) → IsIn x xs → IsIn (name x) ys) → (z : Y) → IsIn z (map name xs) → IsIn z ys
named_within name [] ys h z i = absurd i
named_within name (x ∷ xs) ys h z (inl e) = subst (λ w. IsIn w ys) (sym e) (h x (inl refl))
named_within name (x ∷ xs) ys h z (inr j) = named_within name xs ys (λ y i. h y (inr i)) z j

-- different places have different names
named_distinct : (m : Draft) → are_distinct (value_names m) ≡ true → (xs : List ℕ) → ((q : ℕ) → IsIn q xs → q < length (value_names m)) → reach.IsDistinct nat_eq xs → reach.IsDistinct bytes_eq (map (place_name m) xs)
named_distinct m d [] below h = tt
named_distinct m d (x ∷ xs) below h = (
  among_named nat_eq Decides-eqb bytes_eq bytes_eq-Decides (place_name m) x xs (λ y i e. tells m d x y (below x (inl refl)) (below y (inr i)) e) ∙ h.0,
  named_distinct m d xs (λ q i. below q (inr i)) h.1,
)

module _ (m : Draft) (s : Service) (needs : List (List ℕ)) (p : PlacedService) (distinct : are_distinct (value_names m) ≡ true) (known : needs_by_place m ≡ Some needs)
    (placed : placed_service m s ≡ Some p) (places : ArePlacesOf m p) (plan : ServicePlan) (made : IsPlacedPlan needs p plan)
    (good : is_bad_by_place (length m.decisions) needs p ≡ false) where
  fault_parts : (do_share p.input_decisions (inner_places p) ≡ false) × (not (reaches_only (length m.decisions) (inner_places p) (parameter_places p) needs p.outputs) ≡ false)
  fault_parts =
      neither (do_share p.input_decisions (inner_places p)) (not (reaches_only (length m.decisions) (inner_places p) (parameter_places p) needs p.outputs))
      (neither (not (nat_lt 0 (length p.outputs))) (do_share p.input_decisions (inner_places p) || not (reaches_only (length m.decisions) (inner_places p) (parameter_places p) needs p.outputs)) good).1

  abbrev all_reached : List ℕ
  all_reached = reached_within (length m.decisions) (parameter_places p) needs p.outputs

  which : (q : ℕ) → reach.has_same nat_eq plan.order.items q ≡ (reach.has_same nat_eq all_reached q && not (reach.has_same nat_eq (parameter_places p) q))
  which q = made.which.which (length m.decisions) q (few_need m needs distinct known)

  -- what stands in the order is reached, and no parameter
  ordered : (q : ℕ) → IsIn q plan.order.items → IsIn q all_reached × (reach.has_same nat_eq (parameter_places p) q ≡ false)
  ordered q i =
      let parts = both (reach.has_same nat_eq all_reached q) (not (reach.has_same nat_eq (parameter_places p) q)) (sym (which q) ∙ among nat_eq Decides-eqb q plan.order.items i) in
      (is_in nat_eq Decides-eqb q all_reached parts.0, not_so (reach.has_same nat_eq (parameter_places p) q) parts.1)

  order_inner : (q : ℕ) → IsIn q plan.order.items → IsIn q (inner_places p)
  order_inner q i =
      let o = ordered q i in
      let t = all_pass (reach.has_same nat_eq (inner_places p ++ parameter_places p)) all_reached q (so (reaches_only (length m.decisions) (inner_places p) (parameter_places p) needs p.outputs) fault_parts.1) o.0 in
      elim (in_either q (inner_places p) (parameter_places p) (is_in nat_eq Decides-eqb q (inner_places p ++ parameter_places p) t)) [
        | inl j ↦ j
        | inr j ↦ absurd (not_in nat_eq Decides-eqb q (parameter_places p) o.1 j)
      ]

  order_below : (q : ℕ) → IsIn q plan.order.items → q < length (value_names m)
  order_below q i = inner_below m s needs p distinct known placed places q (order_inner q i)

  order_decisions : (q : ℕ) → IsIn q plan.order.items → IsIn (place_name m q) (decision_names m)
  order_decisions q i =
      inner_decisions m s needs p distinct known placed places (place_name m q)
      (subst (λ ns. IsIn (place_name m q) ns) (inner_names m s needs p distinct known placed places) (in_names (place_name m) q (inner_places p) (order_inner q i)))

  short : length plan.order.items ≤ length m.decisions
  short =
      let names : length (map (place_name m) plan.order.items) ≤ length (decision_names m)
      = distinct_length bytes_eq bytes_eq-Decides (map (place_name m) plan.order.items) (decision_names m)
      (named_distinct m distinct plan.order.items order_below made.which.once) (named_within (place_name m) plan.order.items (decision_names m) order_decisions) in
      omega (arith, length-map plan.order.items (place_name m), length-map m.decisions (λ d. d.name))

  -- an output is no parameter, so it stands in the order
  output_open : (q : ℕ) → IsIn q p.outputs → IsIn q (parameter_places p) → ⊥
  output_open q i j = elim (in_either q p.input_decisions p.input_data j) [
    | inl k ↦ not_in nat_eq Decides-eqb q (inner_places p) (none_passes (reach.has_same nat_eq (inner_places p)) p.input_decisions q fault_parts.0 k) (in_left q p.outputs p.encapsulated i)
    | inr k ↦ (let a = (output_below m s needs p distinct known placed places q i).0 in let b = data_below m s needs p distinct known placed places q k in absurd (omega arith))
  ]

  output_ordered : (q : ℕ) → IsIn q p.outputs → list_any (nat_eq q) plan.order.items ≡ true
  output_ordered q i =
      which q
      ∙ ap₂ (λ a b. a && not b)
      (among nat_eq Decides-eqb q all_reached (reached_from (needs_within (parameter_places p) needs) (length m.decisions) p.outputs q i))
      (among_not nat_eq Decides-eqb q (parameter_places p) (output_open q i))

  pub route : list_any have_twice (service_lists s) ≡ false → string_bytes plan.name ≡ s.name → IsRouteOf m needs s plan
  route lists named = record {
    name = named;
    parameters_within = subst (λ xs. All (λ q. q < length (value_names m)) xs) (sym made.parameters)
        (all_from (λ q. q < length (value_names m)) (parameter_places p) (parameter_below m s needs p distinct known placed places));
    order_within = all_from (λ q. q < length (value_names m)) plan.order.items order_below;
    outputs_within = subst (λ xs. All (λ q. q < length (value_names m)) xs) (sym made.outputs)
        (all_from (λ q. q < length (value_names m)) p.outputs (λ q i. (output_below m s needs p distinct known placed places q i).1));
    parameters = sym (parameter_names m s needs p distinct known placed places) ∙ ap (map (place_name m)) (sym made.parameters);
    distinct = distinct_parameters m s distinct lists (no_stranger m s needs p distinct known placed places);
    apart = subst (λ xs. Each (IsNotAmong xs) plan.order.items) (sym made.parameters) (each_from (IsNotAmong (parameter_places p)) plan.order.items (λ q i. (ordered q i).1));
    short = short;
    behind = subst (λ xs. IsInOrder nat_eq (place_need needs) xs plan.order.items) (sym made.parameters) made.behind;
    outputs = sym (back m s needs p distinct known placed places).outputs ∙ ap (map (place_name m)) (sym made.outputs);
    ends = subst (λ xs. Each (IsAmong plan.order.items) xs) (sym made.outputs) (each_from (IsAmong plan.order.items) p.outputs output_ordered);
    reach = subst (λ xs. IsReachOf xs needs plan.outputs.items plan.order.items) (sym made.parameters)
        (subst (λ xs. IsReachOf (parameter_places p) needs xs plan.order.items) (sym made.outputs) made.which);
  }

-- a plan by places is a route, where there is one
pub route_of : (m : Draft) (s : Service) (needs : List (List ℕ)) (p : PlacedService) → are_distinct (value_names m) ≡ true → needs_by_place m ≡ Some needs → placed_service m s ≡ Some p → ArePlacesOf m p
    → list_any have_twice (service_lists s) ≡ false → (o : Option ServicePlan) → is_none o ≡ is_bad_by_place (length m.decisions) needs p
    → IfSome o (λ plan. string_bytes plan.name ≡ s.name) → IfSome o (IsPlacedPlan needs p) → IfSome o (IsRouteOf m needs s)
route_of m s needs p distinct known placed places lists None bad named made = tt
route_of m s needs p distinct known placed places lists (Some plan) bad named made = route m s needs p distinct known placed places plan made (sym bad) lists named

-- ---- one service after another

pub next_services : (ss : List WrittenService) (i : ℕ) (x : WrittenService) → x ≡ get_or ss i x → i < length ss → map service_view (drop i ss) ≡ service_view x ∷ map service_view (drop (i + 1) ss)
next_services ss i x e l = rw (add-one, drop-cons ss i x) (ap (λ y. service_view y ∷ map service_view (drop (suc i) ss)) (sym e))

-- no name stands twice in a list of a service of the model
pub lists_once : (m : WrittenModel) (i : ℕ) (x : WrittenService) → has_name_twice (model_view m) ≡ false → x ≡ get_or m.services.items i x → i < length m.services.items
    → list_any have_twice (service_lists (service_view x)) ≡ false
lists_once m i x d e l =
    subst (λ s. list_any have_twice (service_lists s) ≡ false) (get_or-map service_view m.services.items i x (service_view x) l ∙ ap service_view (sym e))
    (distinct_lists (model_view m) i (service_view x) d (omega (arith, length-map m.services.items service_view)))

-- a service that fits leaves the fault to the later ones
pub fault_later : (m : Draft) (all left later : List Service) (s : Service) → list_any (is_bad_service m) all ≡ list_any (is_bad_service m) left → left ≡ s ∷ later → is_bad_service m s ≡ false
    → list_any (is_bad_service m) all ≡ list_any (is_bad_service m) later
fault_later m all left later s e f g = e ∙ (ap (list_any (is_bad_service m)) f ∙ ap (λ b. b || list_any (is_bad_service m) later) g)

-- one plan more
pub routes_more : (m : Draft) (needs : List (List ℕ)) (all left later : List Service) (s : Service) (plans more : List ServicePlan) (plan : ServicePlan)
    → ((rest : List ServicePlan) → AreRoutesOf m needs left rest → AreRoutesOf m needs all (plans ++ rest)) → left ≡ s ∷ later → IsRouteOf m needs s plan → more ≡ plans ++ plan ∷ []
    → (rest : List ServicePlan) → AreRoutesOf m needs later rest → AreRoutesOf m needs all (more ++ rest)
routes_more m needs all left later s plans more plan h e r f rest q =
    subst (λ ps. AreRoutesOf m needs all ps) (sym (ap (λ ps. ps ++ rest) f ∙ append_assoc plans (plan ∷ []) rest))
    (h (plan ∷ rest) (subst (λ ss. AreRoutesOf m needs ss (plan ∷ rest)) (sym e) (r, q)))

-- no service is left
pub routes_all : (m : Draft) (needs : List (List ℕ)) (all : List Service) (ss : List WrittenService) (i : ℕ) (plans : List ServicePlan)
    → ((rest : List ServicePlan) → AreRoutesOf m needs (map service_view (drop i ss)) rest → AreRoutesOf m needs all (plans ++ rest)) → length ss ≤ i → AreRoutesOf m needs all plans
routes_all m needs all ss i plans h l =
    subst (λ ps. AreRoutesOf m needs all ps) (append-nil plans)
    (h [] (subst (λ (ys : List WrittenService). AreRoutesOf m needs (map service_view ys) []) (sym (drop_all i ss l)) tt))
