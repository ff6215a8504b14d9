-- What is told from the outcomes at the places of a plan is what is told from those that its names stand for.
use Rattle.std.proofs.Common.{◌≡◌, ◌≢◌, ◌∙◌, sym, ap, ap₂, refl, subst, ℕ, suc, ◌+◌, ◌<◌, ◌⊎◌, inl, inr, List, [], ◌∷◌, map, length, get_or, drop, Bool, true, false, cond, ◌||◌, Option, None, Some, option_map, arith}
use Rattle.std.specs.Arc.{arc_str_bytes}
use Rattle.std.specs.Prelude.{nat_eq, codes}
use Rattle.std.specs.List.{list_any, All, filter, flat_map, slice_get}
use Rattle.std.proofs.lemmas.Bool.Decides.{eqb_tells}
use Rattle.std.proofs.lemmas.List.{get_or-map, at_drop_more}
use Rattle.std.proofs.lemmas.Option.{get_or_from_slice_get, slice_get_read}
use Rattle.serde_json.specs.Data.{Data, string, object, Items, no_items, member, no_members}
use Rattle.feel_value.specs.Datum.{Datum}
use Rattle.feel_value.specs.Found.{value_of, ◌>>=◌}
use Rattle.feel_value.specs.declared.feel.Outcome.{Outcome}
use Rattle.feel_text.specs.Expr.{Expr}
use Rattle.feel_text.specs.Meaning.{Bindings}
use Rattle.feel_text.specs.Needed.{bindings_from, found_at}
use Rattle.dmn_table.specs.Table.{Table}
use Rattle.dmn_graph.specs.Reach.{Each, IsInOrder, has_same}
use Rattle.dmn_form.specs.Model.{Name, Boxed, Service, Model}
use Rattle.dmn_logic.specs.LogicView.{logic_view}
use Rattle.dmn_logic.specs.declared.logic.Logic.{Logic}
use Rattle.dmn_service.specs.Decision.{bindings_to}
use Rattle.dmn_service.specs.Outcomes.{HaveOutcomes}
use Rattle.dmn_service.specs.Places.{name_at, needs_at, named_places}
use Rattle.dmn_service.specs.Plan.{HasPlacesWithin, IsPlanOf, IsAmong, decision_of}
use Rattle.dmn_service.specs.declared.plan.Item.{Item}
use Rattle.dmn_service.specs.declared.plan.ServicePlan.{ServicePlan}
use Rattle.dmn_service.proofs.Kept.{name_here}
use Rattle.dmn_explain.specs.How.{named_as, valued}
use Rattle.dmn_explain.specs.Explanation.{decision_told, given_told, decision_at, item_if, places_told, decisions_told, how_under, needed_parameters}
use Rattle.dmn_explain.specs.Placed.{decided_here, given_here, item_told, told_by_place, given_by_place, decided_by_place}

-- whether some decision of the plan's order needs the place
abbrev pub is_needed : List Item → ServicePlan → ℕ → Bool
is_needed items plan = has_same nat_eq (flat_map (needs_at items) plan.order.items)

-- what holds of each of a list holds of what is among it
each_at : (P : ℕ → Type 0) (qs : List ℕ) (q : ℕ) → Each P qs → IsAmong qs q → P q
each_at P [] q h a = absurd (cc)
each_at P (p ∷ ps) q h a = go (eqb_tells q p) (each_at P ps q h.1)
  where
    go : ((nat_eq q p ≡ true) × (q ≡ p)) ⊎ ((nat_eq q p ≡ false) × (q ≢ p)) → (IsAmong ps q → P q) → P q
    go (inl e) rest = subst P (sym e.1) h.0
    go (inr e) rest = rest (sym (ap (λ b. b || list_any (nat_eq q) ps) e.0) ∙ a)

each_all : (P Q : ℕ → Type 0) → ((q : ℕ) → P q → Q q) → (qs : List ℕ) → Each P qs → Each Q qs
each_all P Q f [] h = tt
each_all P Q f (q ∷ qs) h = (f q h.0, each_all P Q f qs h.1)

each_from_all : (P : ℕ → Type 0) (qs : List ℕ) → All P qs → Each P qs
each_from_all P [] h = tt
each_from_all P (q ∷ qs) h = (h 0 q (omega arith), each_from_all P qs (λ k d l. h (suc k) d (omega (arith, l))))

-- What is told from the place at i on, by the logic of its item.
pub told_from : (tell : Item → ℕ → Boxed Expr Table → Data) (items : List Item) (qs : List ℕ) (i : ℕ) (x : Item) (rest : Items) (o : Option Logic)
    → i < length qs → get_or qs i 0 < length items → x ≡ get_or items (get_or qs i 0) x → x.logic ≡ o
    → told_by_place tell items (drop i qs) rest ≡ item_if (option_map (λ l. tell x (get_or qs i 0) (logic_view l)) o) (told_by_place tell items (drop (i + 1) qs) rest)
told_from tell items qs i x rest o more inside here e =
    let q = get_or qs i 0 in
    at_drop_more (λ (ps : List ℕ). told_by_place tell items ps rest) qs i 0 more
    ∙ ap (λ (s : Option Item). item_if (s >>= item_told tell q) (told_by_place tell items (drop (i + 1) qs) rest)) (slice_get_read items (length items) q x refl inside here)
    ∙ ap (λ (l : Option Logic). item_if (option_map (λ l. tell x q (logic_view l)) l) (told_by_place tell items (drop (i + 1) qs) rest)) e

each_filter : (P : ℕ → Type 0) (test : ℕ → Bool) (qs : List ℕ) → Each P qs → Each P (filter test qs)
each_filter P test [] h = tt
each_filter P test (q ∷ qs) h = go (test q) (each_filter P test qs h.1)
  where
    go : (b : Bool) → Each P (filter test qs) → Each P (cond b (q ∷ filter test qs) (filter test qs))
    go true rest = (h.0, rest)
    go false rest = rest

module _ (w : Bool) (outcome : Name → Outcome) (items : List Item) (found : List Outcome) where
  -- the outcome at a place is that of its name
  abbrev Stands : ℕ → Type 0
  Stands q = found_at found q ≡ value_of (outcome (name_at items q))

  abbrev Inside : ℕ → Type 0
  Inside q = q < length items

  bindings_same : (qs : List ℕ) → Each Stands qs → bindings_to outcome (map (name_at items) qs) ≡ bindings_from found (named_places (name_at items) qs)
  bindings_same [] h = refl
  bindings_same (q ∷ qs) h =
      ap (λ (o : Option Datum). (o >>= λ v. Some (name_at items q, v)) >>= λ b. bindings_to outcome (map (name_at items) qs) >>= λ bs. Some (b ∷ bs)) (sym h.0)
      ∙ ap (λ (r : Option Bindings). (found_at found q >>= λ v. Some (name_at items q, v)) >>= λ b. r >>= λ bs. Some (b ∷ bs)) (bindings_same qs h.1)

  -- the value at a place is that of its item's name
  value_here : (q : ℕ) (x : Item) → Inside q → slice_get items q ≡ Some x → Stands q → value_of (outcome (arc_str_bytes x.name)) ≡ found_at found q
  value_here q x inside there stands =
      let named : name_at items q ≡ arc_str_bytes x.name = name_here items q x inside ∙ ap (λ (y : Item). arc_str_bytes y.name) (get_or_from_slice_get items q x x there) in
      ap (λ n. value_of (outcome n)) (sym named) ∙ sym stands

  decided_item : (q : ℕ) (x : Item) → Inside q → slice_get items q ≡ Some x → Stands q → Each Stands x.needs.items → x.named ≡ named_places (name_at items) x.needs.items
      → option_map (decision_told w outcome) (decision_of items x) ≡ item_told (decided_here w found) q x
  decided_item q x inside there stands needs named = by_logic x.logic
    where
      by_logic : (o : Option Logic)
          → option_map (decision_told w outcome) (option_map (λ l. record { name = arc_str_bytes x.name; needs = map (name_at items) x.needs.items; logic = logic_view l }) o)
          ≡ option_map (λ l. decided_here w found x q (logic_view l)) o
      by_logic None = refl
      by_logic (Some l) =
          ap (λ (v : Option Datum). Some (named_as (arc_str_bytes x.name) v (how_under w (bindings_to outcome (map (name_at items) x.needs.items)) (logic_view l)))) (value_here q x inside there stands)
          ∙ ap (λ (bs : Option Bindings). Some (named_as (arc_str_bytes x.name) (found_at found q) (how_under w bs (logic_view l))))
          (bindings_same x.needs.items needs ∙ ap (bindings_from found) (sym named))

  given_item : (q : ℕ) (x : Item) → Inside q → slice_get items q ≡ Some x → Stands q
      → option_map (given_told outcome) (decision_of items x) ≡ item_told (λ x q b. given_here found x q) q x
  given_item q x inside there stands = by_logic x.logic
    where
      by_logic : (o : Option Logic)
          → option_map (given_told outcome) (option_map (λ l. record { name = arc_str_bytes x.name; needs = map (name_at items) x.needs.items; logic = logic_view l }) o)
          ≡ option_map (λ l. given_here found x q) o
      by_logic None = refl
      by_logic (Some l) = ap (λ (v : Option Datum). Some (object (member (codes "name") (string (arc_str_bytes x.name)) (valued (codes "given") v no_members)))) (value_here q x inside there stands)

  given_at_place : (q : ℕ) → Inside q → Stands q → option_map (given_told outcome) (decision_at items q) ≡ (slice_get items q >>= item_told (λ x q b. given_here found x q) q)
  given_at_place q inside stands = go (slice_get items q) refl
    where
      go : (o : Option Item) → slice_get items q ≡ o → option_map (given_told outcome) (o >>= decision_of items) ≡ (o >>= item_told (λ x q b. given_here found x q) q)
      go None e = refl
      go (Some x) e = given_item q x inside e stands

  given_same : (qs : List ℕ) (rest others : Items) → Each Inside qs → Each Stands qs → rest ≡ others → places_told (given_told outcome) items qs rest ≡ given_by_place found items qs others
  given_same [] rest others inside stands e = e
  given_same (q ∷ qs) rest others inside stands e = ap₂ item_if (given_at_place q inside.0 stands.0) (given_same qs rest others inside.1 stands.1 e)

  -- the needs of each item stand under their names
  abbrev AreNamed : Type 0
  AreNamed = All (λ x. x.named ≡ named_places (name_at items) x.needs.items) items

  decided_at_place : (q : ℕ) → AreNamed → Inside q → Stands q → Each Stands (needs_at items q) → option_map (decision_told w outcome) (decision_at items q) ≡ (slice_get items q >>= item_told (decided_here w found) q)
  decided_at_place q named inside stands needs = go (slice_get items q) refl
    where
      go : (o : Option Item) → slice_get items q ≡ o → option_map (decision_told w outcome) (o >>= decision_of items) ≡ (o >>= item_told (decided_here w found) q)
      go None e = refl
      go (Some x) e =
          let here : get_or items q x ≡ x = get_or_from_slice_get items q x x e in
          decided_item q x inside e stands
          (subst (Each Stands) (get_or-map (λ (y : Item). y.needs.items) items q x _ inside ∙ ap (λ (y : Item). y.needs.items) here) needs)
          (subst (λ (y : Item). y.named ≡ named_places (name_at items) y.needs.items) here (named q x inside))

  decided_same : (seen qs : List ℕ) → AreNamed → Each Inside qs → Each Stands seen → Each Stands qs → IsInOrder nat_eq (needs_at items) seen qs
      → places_told (decision_told w outcome) items qs no_items ≡ decided_by_place w found items qs
  decided_same seen [] named inside before stands order = refl
  decided_same seen (q ∷ qs) named inside before stands order =
      ap₂ item_if
      (decided_at_place q named inside.0 stands.0 (each_all (IsAmong seen) Stands (λ p among. each_at Stands seen p before among) (needs_at items q) order.0))
      (decided_same (q ∷ seen) qs named inside.1 (stands.0, before) stands.1 order.1)

  pub told_same : (m : Model Expr Table) (s : Service) (plan : ServicePlan) → HasPlacesWithin items plan → IsPlanOf m s items plan
      → HaveOutcomes outcome items found plan.parameters.items → HaveOutcomes outcome items found plan.order.items
      → decisions_told w outcome items plan ≡ given_by_place found items (needed_parameters items plan) (decided_by_place w found items plan.order.items)
  told_same m s plan within h given decided =
      given_same (needed_parameters items plan) (places_told (decision_told w outcome) items plan.order.items no_items) (decided_by_place w found items plan.order.items)
      (each_filter Inside (is_needed items plan) plan.parameters.items (each_from_all Inside plan.parameters.items within.parameters)) (each_filter Stands (is_needed items plan) plan.parameters.items given)
      (decided_same plan.parameters.items plan.order.items within.named (each_from_all Inside plan.order.items within.order) given decided h.behind)
