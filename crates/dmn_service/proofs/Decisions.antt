-- The decision of a name among items with distinct names.
use Rattle.std.proofs.Common.{◌≡◌, ◌∙◌, ap, refl, ℕ, zero, suc, ◌<◌, List, [], ◌∷◌, map, length, get_or, true, false, not, Option, None, Some, option_map, inl, inr, arith}
use Rattle.std.specs.Arc.{arc_str_bytes}
use Rattle.std.specs.Prelude.{bytes_eq, nat_eq, ◌||◌, ◌≢◌, ◌⊎◌, if◌then◌else◌}
use Rattle.std.specs.List.{list_any, filter_map, cons_option}
use Rattle.std.proofs.lemmas.Bool.Decides.{eqb_tells}
use Rattle.std.proofs.lemmas.Slice.Eq.{bytes_eq-Decides}
use Rattle.feel_text.specs.Expr.{Expr}
use Rattle.feel_value.specs.Distinct.{are_distinct}
use Rattle.dmn_table.specs.Table.{Table}
use Rattle.dmn_form.specs.Model.{Name, Decision, Model}
use Rattle.dmn_logic.specs.LogicView.{logic_view}
use Rattle.dmn_logic.specs.declared.logic.Logic.{Logic}
use Rattle.dmn_service.specs.Decision.{decision_named}
use Rattle.dmn_service.specs.Places.{names_of, name_at, needs_at}
use Rattle.dmn_service.specs.Run.{logic_at}
use Rattle.dmn_service.specs.Plan.{IsNotAmong, decision_of}
use Rattle.dmn_graph.specs.Reach.{Each}
use Rattle.dmn_service.specs.declared.plan.Item.{Item}
use Rattle.dmn_service.proofs.Given.{two_true, not_true, both_false, swap}

-- the decision at a place
abbrev pub decision_at : List Item → ℕ → Option (Decision Expr Table)
decision_at items q = option_map (λ b. record { name = name_at items q; needs = map (name_at items) (needs_at items q); logic = b }) (logic_at items q)

-- a decision of these parts, where there is a logic
abbrev made : Name → List Name → Option Logic → Option (Decision Expr Table)
made name needs logic = option_map (λ l. record { name = name; needs = needs; logic = logic_view l }) logic

passed : (n name : Name) (needs : List Name) (logic : Option Logic) (ds : List (Decision Expr Table)) → bytes_eq n name ≡ false
    → decision_named (cons_option (made name needs logic) ds) n ≡ decision_named ds n
passed n name needs None ds e = refl
passed n name needs (Some l) ds e = ap (λ b. if b then Some (record { name = name; needs = needs; logic = logic_view l }) else decision_named ds n) e

found : (n name : Name) (needs : List Name) (logic : Option Logic) (ds : List (Decision Expr Table)) → bytes_eq n name ≡ true → decision_named ds n ≡ None
    → decision_named (cons_option (made name needs logic) ds) n ≡ made name needs logic
found n name needs None ds e none = none
found n name needs (Some l) ds e none = ap (λ b. if b then Some (record { name = name; needs = needs; logic = logic_view l }) else decision_named ds n) e

-- a name that does not stand in a list is none of it
apart_at : (n : Name) (ns : List Name) (q : ℕ) → list_any (bytes_eq n) ns ≡ false → q < length ns → bytes_eq n (get_or ns q []) ≡ false
apart_at n [] q e inside = absurd (omega (arith, inside))
apart_at n (k ∷ ks) zero e inside = (both_false (bytes_eq n k) (list_any (bytes_eq n) ks) e).0
apart_at n (k ∷ ks) (suc q) e inside = apart_at n ks q (both_false (bytes_eq n k) (list_any (bytes_eq n) ks) e).1 (omega (arith, inside))

length_names : (xs : List Item) → length (names_of xs) ≡ length xs
length_names [] = refl
length_names (x ∷ xs) = ap suc (length_names xs)

module _ (items : List Item) where
  -- a name that none of the items has is that of no decision
  none_named : (xs : List Item) (n : Name) → list_any (bytes_eq n) (names_of xs) ≡ false → decision_named (filter_map (decision_of items) xs) n ≡ None
  none_named [] n e = refl
  none_named (x ∷ xs) n e =
      let two = both_false (bytes_eq n (arc_str_bytes x.name)) (list_any (bytes_eq n) (names_of xs)) e in
      passed n (arc_str_bytes x.name) (map (name_at items) x.needs.items) x.logic (filter_map (decision_of items) xs) two.0 ∙ none_named xs n two.1

  -- among items with distinct names, each has its own decision
  named_at : (xs : List Item) (q : ℕ) → are_distinct (names_of xs) ≡ true → q < length xs
      → decision_named (filter_map (decision_of items) xs) (get_or (names_of xs) q []) ≡ get_or (map (decision_of items) xs) q None
  named_at [] q d inside = absurd (omega (arith, inside))
  named_at (x ∷ xs) zero d inside =
      let two = two_true (not (list_any (bytes_eq (arc_str_bytes x.name)) (names_of xs))) (are_distinct (names_of xs)) d in
      found (arc_str_bytes x.name) (arc_str_bytes x.name) (map (name_at items) x.needs.items) x.logic (filter_map (decision_of items) xs)
      ((bytes_eq-Decides (arc_str_bytes x.name) (arc_str_bytes x.name)).1 refl)
      (none_named xs (arc_str_bytes x.name) (not_true (list_any (bytes_eq (arc_str_bytes x.name)) (names_of xs)) two.0))
  named_at (x ∷ xs) (suc q) d inside =
      let two = two_true (not (list_any (bytes_eq (arc_str_bytes x.name)) (names_of xs))) (are_distinct (names_of xs)) d in
      let within : q < length (names_of xs) = (let e = length_names xs in omega (arith, inside)) in
      let apart = swap (arc_str_bytes x.name) (get_or (names_of xs) q []) (apart_at (arc_str_bytes x.name) (names_of xs) q (not_true (list_any (bytes_eq (arc_str_bytes x.name)) (names_of xs)) two.0) within) in
      passed (get_or (names_of xs) q []) (arc_str_bytes x.name) (map (name_at items) x.needs.items) x.logic (filter_map (decision_of items) xs) apart ∙ named_at xs q two.1 (omega (arith, inside))

  -- the parts of the decision at a place
  parts_at : (xs : List Item) (q : ℕ) → q < length xs
      → get_or (map (decision_of items) xs) q None
      ≡ option_map (λ b. record { name = get_or (names_of xs) q []; needs = map (name_at items) (get_or (map (λ (x : Item). x.needs.items) xs) q []); logic = b })
      (get_or (map (λ (x : Item). option_map logic_view x.logic) xs) q None)
  parts_at [] q inside = absurd (omega (arith, inside))
  parts_at (x ∷ xs) zero inside = by_logic x.logic
    where
      by_logic : (l : Option Logic) → made (arc_str_bytes x.name) (map (name_at items) x.needs.items) l
          ≡ option_map (λ b. record { name = arc_str_bytes x.name; needs = map (name_at items) x.needs.items; logic = b }) (option_map logic_view l)
      by_logic None = refl
      by_logic (Some l) = refl
  parts_at (x ∷ xs) (suc q) inside = parts_at xs q (omega (arith, inside))

-- each item is the decision of its name in the model, or an input where the model has no decision of its name
pub fits : (m : Model Expr Table) (items : List Item) → are_distinct (names_of items) ≡ true → m.decisions ≡ filter_map (decision_of items) items
    → (q : ℕ) → q < length items → decision_named m.decisions (name_at items q) ≡ decision_at items q
fits m items distinct same q inside = ap (λ ds. decision_named ds (name_at items q)) same ∙ named_at items items q distinct inside ∙ parts_at items items q inside

-- other places have other names
other_names : (xs : List Name) (p q : ℕ) → are_distinct xs ≡ true → p < length xs → q < length xs → (q ≡ p → ⊥) → bytes_eq (get_or xs q []) (get_or xs p []) ≡ false
other_names [] p q d a b ne = absurd (omega (arith, a))
other_names (n ∷ ns) zero zero d a b ne = absurd (ne refl)
other_names (n ∷ ns) zero (suc q) d a b ne =
    let two = two_true (not (list_any (bytes_eq n) ns)) (are_distinct ns) d in
    swap n (get_or ns q []) (apart_at n ns q (not_true (list_any (bytes_eq n) ns) two.0) (omega (arith, b)))
other_names (n ∷ ns) (suc p) zero d a b ne =
    let two = two_true (not (list_any (bytes_eq n) ns)) (are_distinct ns) d in
    apart_at n ns p (not_true (list_any (bytes_eq n) ns) two.0) (omega (arith, a))
other_names (n ∷ ns) (suc p) (suc q) d a b ne =
    let two = two_true (not (list_any (bytes_eq n) ns)) (are_distinct ns) d in
    other_names ns p q two.1 (omega (arith, a)) (omega (arith, b)) (λ e. ne (ap suc e))

-- the name of a place that is none of these is none of their names
pub name_apart : (items : List Item) → are_distinct (names_of items) ≡ true → (ps : List ℕ) (q : ℕ) → Each (λ p. p < length items) ps → q < length items → IsNotAmong ps q
    → list_any (bytes_eq (name_at items q)) (map (name_at items) ps) ≡ false
name_apart items distinct [] q inside here apart = refl
name_apart items distinct (p ∷ ps) q inside here apart =
    let two = both_false (nat_eq q p) (list_any (nat_eq q) ps) apart in
    ap (λ b. b || list_any (bytes_eq (name_at items q)) (map (name_at items) ps)) (differ (eqb_tells q p) two.0) ∙ name_apart items distinct ps q inside.1 here two.1
  where
    within : (k : ℕ) → k < length items → k < length (names_of items)
    within k l = let e = length_names items in omega (arith, l)

    differ : ((nat_eq q p ≡ true) × (q ≡ p)) ⊎ ((nat_eq q p ≡ false) × (q ≢ p)) → nat_eq q p ≡ false → bytes_eq (name_at items q) (name_at items p) ≡ false
    differ (inl e) f = absurd (cc)
    differ (inr e) f = other_names (names_of items) p q distinct (within p inside.0) (within q here) e.1
