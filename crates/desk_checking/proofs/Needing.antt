-- What a service needs stands in the order of its plan.
use Rattle.std.proofs.Common.{◌≡◌, ◌∙◌, ◌<◌, ◌⊎◌, inl, inr, ℕ, suc, List, [], ◌∷◌, length, map, Bool, true, false, ◌||◌, Option, None, Some, option_map, refl, sym, ap, subst}
use Rattle.std.specs.Prelude.{bytes_eq, nat_eq}
use Rattle.std.specs.List.{All, list_any, slice_get}
use Rattle.std.proofs.lemmas.Bool.Decides.{eqb_tells}
use Rattle.std.proofs.lemmas.Option.{get_or_from_slice_get, same_Some, slice_get_within}
use Rattle.std.proofs.lemmas.Slice.Eq.{bytes_eq-Decides}
use Rattle.feel_value.specs.Distinct.{are_distinct, is_among}
use Rattle.feel_text.specs.Expr.{Expr}
use Rattle.dmn_table.specs.Table.{Table}
use Rattle.dmn_form.specs.Model.{Boxed, Decision, Model, Name, Service}
use Rattle.dmn_graph.specs.Reach.{Each, IsInOrder, has_same}
use Rattle.dmn_service.proofs.Decisions.{decision_at, fits, name_apart}
use Rattle.dmn_service.specs.Decision.{decision_named, parameters_of}
use Rattle.dmn_service.specs.Places.{name_at, names_of, needs_at}
use Rattle.dmn_service.specs.Plan.{HasPlacesWithin, IsAmong, IsPlanOf}
use Rattle.dmn_service.specs.declared.plan.Item.{Item}
use Rattle.dmn_service.specs.declared.plan.ServicePlan.{ServicePlan}
use Rattle.desk_checking.proofs.Deciders.{same_number}
use Rattle.desk_checking.specs.Comes.{IsNeeded, behind, output}

either_of : (a b : Bool) → (a || b) ≡ true → (a ≡ true) ⊎ (b ≡ true)
either_of true b h = inl refl
either_of false b h = inr h

or_later : (a b : Bool) → b ≡ true → (a || b) ≡ true
or_later true b h = refl
or_later false b h = h

not_both : (b : Bool) → b ≡ true → b ≡ false → ⊥
not_both true h e = cc
not_both false h e = cc

same_number_is : (n : ℕ) → nat_eq n n ≡ true
same_number_is n = by_tells (eqb_tells n n)
  where
    by_tells : ((nat_eq n n ≡ true) × (n ≡ n)) ⊎ ((nat_eq n n ≡ false) × (n ≡ n → ⊥)) → nat_eq n n ≡ true
    by_tells (inl e) = e.0
    by_tells (inr e) = absurd (e.1 refl)

-- ---- places in a list

pub stands_at : (qs : List ℕ) (q : ℕ) → has_same nat_eq qs q ≡ true → (j : ℕ) × (slice_get qs j ≡ Some q)
stands_at [] q h = absurd (cc)
stands_at (p ∷ qs) q h =
    elim (either_of (nat_eq q p) (list_any (nat_eq q) qs) h) [
      | inl e ↦ (0, ap Some (sym (same_number q p e)))
      | inr e ↦ (let w = stands_at qs q e in (suc w.0, w.1))
    ]

-- what holds of each element holds of one that stands there
pub all_at : {X : Type 0} (P : X → Type 0) (xs : List X) → All P xs → (j : ℕ) (x : X) → slice_get xs j ≡ Some x → P x
all_at P xs all j x there = subst P (get_or_from_slice_get xs j x x there) (all j x (slice_get_within xs j x there))

each_at : (P : ℕ → Type 0) (qs : List ℕ) → Each P qs → (q : ℕ) → has_same nat_eq qs q ≡ true → P q
each_at P [] each q h = absurd (cc)
each_at P (p ∷ qs) each q h =
    elim (either_of (nat_eq q p) (list_any (nat_eq q) qs) h) [
      | inl e ↦ subst P (sym (same_number q p e)) each.0
      | inr e ↦ each_at P qs each.1 q e
    ]

-- ---- places and their names

named_place : (f : ℕ → Name) (qs : List ℕ) (n : Name) → is_among (map f qs) n ≡ true → (q : ℕ) × (has_same nat_eq qs q ≡ true) × (f q ≡ n)
named_place f [] n h = absurd (cc)
named_place f (p ∷ qs) n h =
    elim (either_of (bytes_eq n (f p)) (is_among (map f qs) n) h) [
      | inl e ↦ (p, ap (λ b. b || list_any (nat_eq p) qs) (same_number_is p), sym ((bytes_eq-Decides n (f p)).0 e))
      | inr e ↦ (let w = named_place f qs n e in (w.0, or_later (nat_eq w.0 p) (list_any (nat_eq w.0) qs) w.1, w.2))
    ]

place_named : (f : ℕ → Name) (qs : List ℕ) (q : ℕ) → has_same nat_eq qs q ≡ true → is_among (map f qs) (f q) ≡ true
place_named f [] q h = absurd (cc)
place_named f (p ∷ qs) q h =
    elim (either_of (nat_eq q p) (list_any (nat_eq q) qs) h) [
      | inl e ↦ ap (λ b. b || is_among (map f qs) (f q)) ((bytes_eq-Decides (f q) (f p)).1 (ap f (same_number q p e)))
      | inr e ↦ or_later (bytes_eq (f q) (f p)) (is_among (map f qs) (f q)) (place_named f qs q e)
    ]

-- two places of one name are one place
pub same_place : (items : List Item) → are_distinct (names_of items) ≡ true → (p q : ℕ) → p < length items → q < length items → name_at items q ≡ name_at items p → q ≡ p
same_place items distinct p q first second same = by_tells (eqb_tells q p)
  where
    by_tells : ((nat_eq q p ≡ true) × (q ≡ p)) ⊎ ((nat_eq q p ≡ false) × (q ≡ p → ⊥)) → q ≡ p
    by_tells (inl e) = e.1
    by_tells (inr e) =
        let apart = name_apart items distinct (p ∷ []) q (first, tt) second (ap (λ b. b || false) e.0) in
        let one = ap (λ b. b || false) ((bytes_eq-Decides (name_at items q) (name_at items p)).1 same) in
        absurd (not_both (bytes_eq (name_at items q) (name_at items p) || false) one apart)

-- ---- an order

-- what something names stands before it
before_it : (next : ℕ → List ℕ) (seen order : List ℕ) → IsInOrder nat_eq next seen order → (q p : ℕ) → has_same nat_eq order q ≡ true → has_same nat_eq (next q) p ≡ true → (has_same nat_eq seen p ≡ true) ⊎ (has_same nat_eq order p ≡ true)
before_it next seen [] in_order q p here named = absurd (cc)
before_it next seen (k ∷ ks) in_order q p here named =
    elim (either_of (nat_eq q k) (list_any (nat_eq q) ks) here) [
      | inl e ↦ inl (each_at (λ r. has_same nat_eq seen r ≡ true) (next k) in_order.0 p (subst (λ x. has_same nat_eq (next x) p ≡ true) (same_number q k e) named))
      | inr e ↦
          elim (before_it next (k ∷ seen) ks in_order.1 q p e named) [
            | inl s ↦
                elim (either_of (nat_eq p k) (list_any (nat_eq p) seen) s) [
                  | inl f ↦ inr (ap (λ b. b || list_any (nat_eq p) ks) f)
                  | inr f ↦ inl f
                ]
            | inr s ↦ inr (or_later (nat_eq p k) (list_any (nat_eq p) ks) s)
          ]
    ]

needs_by : (name : Name) (needs : List Name) (o : Option (Boxed Expr Table)) (d : Decision Expr Table) → option_map (λ b. record { name = name; needs = needs; logic = b }) o ≡ Some d → d.needs ≡ needs
needs_by name needs None d e = absurd (cc)
needs_by name needs (Some b) d e = ap (λ (x : Decision Expr Table). x.needs) (sym (same_Some (record { name = name; needs = needs; logic = b }) d e))

module _ (m : Model Expr Table) (s : Service) (items : List Item) (plan : ServicePlan) (is : IsPlanOf m s items plan) (within : HasPlacesWithin items plan) where
  pub inside : (q : ℕ) → has_same nat_eq plan.order.items q ≡ true → q < length items
  inside q h = let w = stands_at plan.order.items q h in all_at (λ p. p < length items) plan.order.items within.order w.0 q w.1

  -- each name that the service needs is that of a place in the order
  pub needed_place : (n : Name) → IsNeeded m s n → (q : ℕ) × (has_same nat_eq plan.order.items q ≡ true) × (name_at items q ≡ n)
  needed_place n (output h) =
      let w = named_place (name_at items) plan.outputs.items n (subst (λ ns. is_among ns n ≡ true) is.outputs h) in
      (w.0, each_at (IsAmong plan.order.items) plan.outputs.items is.ends w.0 w.1, w.2)
  needed_place p (behind {n = n} {d = d} needed named there apart) =
      let w = needed_place n needed in
      let q = w.0 in
      let found : decision_at items q ≡ Some d = sym (fits m items is.names is.decisions q (inside q w.1)) ∙ ap (decision_named m.decisions) w.2 ∙ named in
      let needs : d.needs ≡ map (name_at items) (needs_at items q) = needs_by (name_at items q) (map (name_at items) (needs_at items q)) _ d found in
      let v = named_place (name_at items) (needs_at items q) p (subst (λ ns. is_among ns p ≡ true) needs there) in
      elim (before_it (needs_at items) plan.parameters.items plan.order.items is.behind q v.0 w.1 v.1) [
        | inl given ↦
            let named_so : is_among (map (name_at items) plan.parameters.items) p ≡ true = subst (λ x. is_among (map (name_at items) plan.parameters.items) x ≡ true) v.2 (place_named (name_at items) plan.parameters.items v.0 given) in
            absurd (not_both (is_among (parameters_of s) p) (subst (λ ns. is_among ns p ≡ true) (sym is.parameters) named_so) apart)
        | inr later ↦ (v.0, later, v.2)
      ]
