-- A model without a fault is planned by its items and routes.
use Rattle.std.proofs.Common.{◌≡◌, ◌<◌, ℕ, List, [], ◌∷◌, map, drop, length, Bool, true, false, get_or, Option, Some, None, option_map, refl, sym, ap, subst, ◌∙◌, if◌then◌else◌, ◌≤◌, suc}
use Rattle.std.specs.Arc.{arc_str_bytes}
use Rattle.std.specs.Prelude.{Ok, nat_eq, slice_index_or}
use Rattle.std.specs.List.{All, filter_map}
use Rattle.std.proofs.lemmas.List.{length-map, get_or-map}
use Rattle.feel_text.specs.Expr.{Expr}
use Rattle.dmn_table.specs.Table.{Table}
use Rattle.dmn_form.specs.Draft.{Draft, Written}
use Rattle.feel_value.specs.Found.{◌>>=◌, each}
use Rattle.dmn_form.specs.Model.{Decision, Service, Model}
use Rattle.dmn_logic.specs.Faults.{has_unread_text, has_refused_table}
use Rattle.dmn_logic.specs.LogicView.{Read}
use Rattle.dmn_logic.specs.ReadLogic.{read_decisions}
use Rattle.dmn_logic.proofs.Unread.{each_length}
use Rattle.dmn_names.specs.Names.{has_bad_name, has_name_twice, has_unknown_name}
use Rattle.feel_value.specs.Distinct.{are_distinct}
use Rattle.dmn_names.specs.Parts.{value_names}
use Rattle.dmn_names.specs.Places.{value_place, needed_places, needs_by_place}
use Rattle.dmn_graph.specs.Within.{IsReachOf}
use Rattle.dmn_graph.specs.Needs.{AreNeedsBelow}
use Rattle.dmn_names.specs.Size.{is_large}
use Rattle.dmn_names.proofs.NamesBack.{distinct_values}
use Rattle.dmn_plan.specs.Faults.{has_cycle, has_bad_service}
use Rattle.dmn_plan.specs.Parts.{IsReadable, AreLogicsOf, AreRequirementsOf, reading_of}
use Rattle.dmn_plan.specs.Items.{IsAfterInputs}
use Rattle.dmn_plan.specs.Plans.{AreItemsOf, place_logic, place_name, place_need, IsRouteOf, AreRoutesOf, ArePlansFor, HaveLogicOf, IsPlanned}
use Rattle.dmn_plan.specs.ReadModel.{faults, first_among, first_fault, unless, found_or, with_decisions}
use Rattle.dmn_plan.specs.declared.fault.ModelFault.{ModelFault}
use Rattle.dmn_plan.specs.declared.fault.ModelFault.TheVariants as fault
use Rattle.dmn_plan.proofs.Assembled.{found_needs, decisions_of_items}
use Rattle.dmn_service.specs.Places.{name_at, needs_at, named_places}
use Rattle.dmn_graph.specs.Reach.{IsInOrder}
use Rattle.dmn_service.specs.Plan.{HasPlacesWithin, IsPlanOf, decision_of}
use Rattle.dmn_service.specs.declared.plan.Item.{Item}
use Rattle.dmn_service.specs.declared.plan.ServicePlan.{ServicePlan}

-- ---- no fault

past : (b : Bool) (f : ModelFault) (o : Option ModelFault) → b ≡ false → (if b then Some f else o) ≡ o
past b f o e = ap (λ c. if c then Some f else o) e

told : (b : Bool) (f : ModelFault) (o : Option ModelFault) → b ≡ true → (if b then Some f else o) ≡ Some f
told b f o e = ap (λ c. if c then Some f else o) e

-- a model whose requirements are met is at most too large
pub at_most_large : (m : Draft) (needs : List (List ℕ)) (plans : List ServicePlan) → IsReadable m → AreRequirementsOf m needs plans
    → first_fault m ≡ (if is_large m then Some fault.Large else None)
at_most_large m needs plans r q =
    past (has_bad_name m) fault.Name (first_among (drop 1 faults) m) r.names
    ∙ past (has_name_twice m) fault.Twice (first_among (drop 2 faults) m) r.once
    ∙ past (has_unread_text m.decisions) fault.Expression (first_among (drop 3 faults) m) r.texts
    ∙ past (has_refused_table m.decisions) fault.Table (first_among (drop 4 faults) m) r.tables
    ∙ past (has_unknown_name m) fault.Unknown (first_among (drop 5 faults) m) q.known
    ∙ past (has_cycle m) fault.Cycle (first_among (drop 6 faults) m) q.cycle
    ∙ past (has_bad_service m) fault.Service (first_among (drop 7 faults) m) q.fits

-- ---- plans

-- what holds of each of a list that f makes, at each of the list itself
all_made : {X Y : Type 0} (P : Y → Type 0) (f : X → Y) (xs : List X) (ys : List Y) → map f xs ≡ ys → All P ys → All (λ x. P (f x)) xs
all_made P f xs ys e h k d lt =
    let inside : k < length ys = subst (λ n. k < n) (sym (length-map xs f) ∙ ap length e) lt in
    subst P (ap (λ l. get_or l k (f d)) (sym e) ∙ get_or-map f xs k d (f d) lt) (h k (f d) inside)

shown_twice : {X Y Z : Type 0} (g : Y → Z) (f : X → Y) (xs : List X) → map g (map f xs) ≡ map (λ x. g (f x)) xs
shown_twice g f [] = refl
shown_twice g f (x ∷ xs) = ap (λ ys. g (f x) ∷ ys) (shown_twice g f xs)

-- what two functions make of each of a list is the same where the lists that they make are
all_same : {X Y : Type 0} (f g : X → Y) (xs : List X) → map f xs ≡ map g xs → All (λ x. f x ≡ g x) xs
all_same f g xs e k d lt = sym (get_or-map f xs k d (f d) lt) ∙ ap (λ l. get_or l k (f d)) e ∙ get_or-map g xs k d (f d) lt

-- places of items are those of the model's names
module _ (m : Draft) (needs : List (List ℕ)) (logics : List Read) (items : List Item) (are : AreItemsOf m needs logics items) where
  count : length items ≡ length (value_names m)
  count = sym (length-map items (λ x. arc_str_bytes x.name)) ∙ ap length are.names

  same_name : place_name m ≡ name_at items
  same_name = λ i q. (ap (λ ns. slice_index_or ns q []) (sym are.names)) i

  same_need : place_need needs ≡ needs_at items
  same_need = λ i q. (ap (λ ns. slice_index_or ns q []) (sym are.needed)) i

  within : (s : Service) (p : ServicePlan) → AreNeedsBelow (length items) needs → IsRouteOf m needs s p → HasPlacesWithin items p
  within s p below r =
      record {
        needs = all_made (λ qs. All (λ q. q < length items) qs) (λ (x : Item). x.needs.items) items needs are.needed below;
        named = all_same (λ (x : Item). x.named) (λ (x : Item). named_places (name_at items) x.needs.items) items
            (are.named ∙ shown_twice (named_places (place_name m)) (λ (x : Item). x.needs.items) items ∙ ap (λ f. map (λ (x : Item). named_places f x.needs.items) items) same_name);
        parameters = subst (λ n. All (λ q. q < n) p.parameters.items) (sym count) r.parameters_within;
        order = subst (λ n. All (λ q. q < n) p.order.items) (sym count) r.order_within;
        outputs = subst (λ n. All (λ q. q < n) p.outputs.items) (sym count) r.outputs_within;
      }

  plan_of_route : (model : Model Expr Table) (s : Service) (p : ServicePlan) → has_name_twice m ≡ false → length model.decisions ≡ length m.decisions
      → model.decisions ≡ filter_map (decision_of items) items → IsRouteOf m needs s p → IsPlanOf model s items p
  plan_of_route model s p once many decisions r =
      record {
        names = ap are_distinct are.names ∙ distinct_values m once;
        decisions = decisions;
        parameters = r.parameters ∙ ap (λ f. map f p.parameters.items) same_name;
        distinct = r.distinct;
        apart = r.apart;
        short = subst (λ n. length p.order.items ≤ n) (sym many) r.short;
        behind = subst (λ f. IsInOrder nat_eq f p.parameters.items p.order.items) same_need r.behind;
        outputs = r.outputs ∙ ap (λ f. map f p.outputs.items) same_name;
        ends = r.ends;
      }

  plans_of_routes : (model : Model Expr Table) (ss : List Service) (ps : List ServicePlan) → has_name_twice m ≡ false → length model.decisions ≡ length m.decisions
      → model.decisions ≡ filter_map (decision_of items) items → AreNeedsBelow (length items) needs → AreRoutesOf m needs ss ps → ArePlansFor model items ss ps
  plans_of_routes model [] [] once many decisions below r = tt
  plans_of_routes model [] (p ∷ ps) once many decisions below r = r
  plans_of_routes model (s ∷ ss) [] once many decisions below r = r
  plans_of_routes model (s ∷ ss) (p ∷ ps) once many decisions below r = (
    (r.0.name, within s p below r.0, plan_of_route model s p once many decisions r.0, subst (λ ns. IsReachOf p.parameters.items ns p.outputs.items p.order.items) (sym are.needed) r.0.reach),
    plans_of_routes model ss ps once many decisions below r.1,
  )

-- the decisions that were read have this logic
read_by : (o : Option (List (Decision Expr Table))) (logics : List Read) → option_map (map (λ d. d.logic)) o ≡ Some logics → (es : List (Decision Expr Table)) × (o ≡ Some es) × (map (λ e. e.logic) es ≡ logics)
read_by None logics e = cc
read_by (Some es) logics e = (es, refl, cc)

-- as many as there are decisions
pub as_many : (m : Draft) (logics : List Read) → AreLogicsOf m logics → length logics ≡ length m.decisions
as_many m logics read =
    let found = read_by (read_decisions m.decisions) logics read in
    ap length (sym found.2) ∙ length-map found.0 (λ e. e.logic) ∙ each_length _ m.decisions found.0 found.1

-- an empty list for each input, and then one for each decision
pub after_inputs : (m : Draft) (needs : List (List ℕ)) → needs_by_place m ≡ Some needs → IsAfterInputs m needs
after_inputs m needs known =
    let found = found_needs m.inputs (needed_places m) needs known in
    (found.0, found.2, each_same_count m.decisions found.0 found.1)
  where
    counted : {Y : Type 0} (n : ℕ) (o : Option Y) (p : Option (List Y)) (ys : List Y) → ((zs : List Y) → p ≡ Some zs → length zs ≡ n) → (o >>= λ y. p >>= λ zs. Some (y ∷ zs)) ≡ Some ys → length ys ≡ suc n
    counted n None p ys g e = cc
    counted n (Some y) None ys g e = cc
    counted n (Some y) (Some zs) ys g e = let same : ys ≡ y ∷ zs = cc in ap length same ∙ ap suc (g zs refl)

    each_same_count : (ds : List Written) (qs : List (List ℕ)) → each (λ d. each (value_place m) d.needs) ds ≡ Some qs → length qs ≡ length ds
    each_same_count [] qs e = let same : qs ≡ [] = cc in ap length same
    each_same_count (d ∷ ds) qs e = counted (length ds) (each (value_place m) d.needs) (each (λ d. each (value_place m) d.needs) ds) qs (each_same_count ds) e

-- without a fault, the items and the routes are the plan of the model
pub planned : (m : Draft) (needs : List (List ℕ)) (logics : List Read) (items : List Item) (plans : List ServicePlan) → has_name_twice m ≡ false → first_fault m ≡ None
    → AreLogicsOf m logics → needs_by_place m ≡ Some needs → AreNeedsBelow (length needs) needs → AreItemsOf m needs logics items → AreRoutesOf m needs m.services plans
    → IsPlanned (reading_of m) items plans
planned m needs logics items plans once none read known below are routes =
    let found = read_by (read_decisions m.decisions) logics read in
    let es = found.0 in
    let model : Model Expr Table = record { inputs = m.inputs; decisions = es; services = m.services } in
    let is : reading_of m ≡ Ok model = ap (λ o. unless o m) none ∙ ap (λ o. found_or fault.Expression (with_decisions m o)) found.1 in
    let many : length es ≡ length m.decisions = each_length _ m.decisions es found.1 in
    let they : AreItemsOf m needs (map (λ e. e.logic) es) items = subst (λ ls. AreItemsOf m needs ls items) (sym found.2) are in
    let inside : AreNeedsBelow (length items) needs = subst (λ n. AreNeedsBelow n needs) (ap length (sym are.needed) ∙ length-map items (λ x. x.needs.items)) below in
    subst (λ r. IsPlanned r items plans) (sym is)
    (plans_of_routes m needs (map (λ e. e.logic) es) items they model m.services plans once many (decisions_of_items m needs es items known found.1 they) inside routes)

pub have_logic_of : (m : Draft) (needs : List (List ℕ)) (logics : List Read) (items : List Item) → first_fault m ≡ None → AreLogicsOf m logics → AreItemsOf m needs logics items
    → HaveLogicOf (reading_of m) items
have_logic_of m needs logics items none read are =
    let found = read_by (read_decisions m.decisions) logics read in
    let es = found.0 in
    let model : Model Expr Table = record { inputs = m.inputs; decisions = es; services = m.services } in
    let is : reading_of m ≡ Ok model = ap (λ o. unless o m) none ∙ ap (λ o. found_or fault.Expression (with_decisions m o)) found.1 in
    subst (λ r. HaveLogicOf r items) (sym is) (are.logic ∙ ap (place_logic m.inputs) (sym found.2))
