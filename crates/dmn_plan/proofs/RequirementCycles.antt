-- A decision needs itself where its place does.
use Rattle.std.proofs.Common.{◌≡◌, inl, inr, ℕ, ◌<◌, zero, suc, List, [], ◌∷◌, map, length, get_or, Option, Some, None, Vec, Global, refl, sym, ap, subst, ◌∙◌, Bool, true, false, not, ◌++◌, ◌||◌, if◌then◌else◌, arith}
use Rattle.std.specs.Prelude.{bytes_eq, is_none, IfNone, IfSome}
use Rattle.std.specs.List.{list_any}
use Rattle.std.proofs.lemmas.Slice.Eq.{bytes_eq-Decides}
use Rattle.dmn_form.specs.Model.{Name}
use Rattle.dmn_form.specs.Draft.{Draft, Written}
use Rattle.dmn_graph.specs.Reach.{reached}
use Rattle.dmn_graph.specs.Members.{IsIn}
use Rattle.dmn_graph.specs.Needs as graph
use Rattle.dmn_graph.proofs.Members.{in_right, not_in}
use Rattle.dmn_graph.proofs.Renaming.{cycle_named}
use Rattle.dmn_names.specs.Parts.{decision_names, value_names}
use Rattle.dmn_names.specs.Names.{has_name_twice}
use Rattle.feel_value.specs.Distinct.{is_among, are_distinct}
use Rattle.dmn_names.specs.Places.{needs_by_place}
use Rattle.dmn_names.proofs.NamesBack.{both, not_so, distinct_values}
use Rattle.dmn_plan.specs.Faults.{needs_of, needs_itself, has_cycle}
use Rattle.dmn_plan.specs.Plans.{place_name}
use Rattle.dmn_plan.proofs.ServicesByName.{as_many_places, inside, tells, fits, few_need}

in_names : (ds : List Written) (d : Written) → IsIn d ds → IsIn d.name (map (λ x. x.name) ds)
in_names [] d h = absurd h
in_names (x ∷ ds) d (inl e) = inl (ap (λ (y : Written). y.name) e)
in_names (x ∷ ds) d (inr h) = inr (in_names ds d h)

differs : (ns : List Name) (n x : Name) → is_among ns x ≡ false → IsIn n ns → (b : Bool) → bytes_eq n x ≡ b → b ≡ false
differs ns n x e h true f = absurd (not_in bytes_eq bytes_eq-Decides x ns e (subst (λ y. IsIn y ns) ((bytes_eq-Decides n x).0 f) h))
differs ns n x e h false f = refl

pub later_distinct : (xs ys : List Name) → are_distinct (xs ++ ys) ≡ true → are_distinct ys ≡ true
later_distinct [] ys u = u
later_distinct (x ∷ xs) ys u = later_distinct xs ys ((both (not (is_among (xs ++ ys) x)) (are_distinct (xs ++ ys)) u).1)

-- a decision of the model needs what stands there
pub needs_of_one : (ds : List Written) (d : Written) → are_distinct (map (λ x. x.name) ds) ≡ true → IsIn d ds → needs_of ds d.name ≡ d.needs
needs_of_one [] d u h = absurd h
needs_of_one (x ∷ ds) d u (inl e) =
    ap (λ b. if b then x.needs else needs_of ds d.name) ((bytes_eq-Decides d.name x.name).1 (ap (λ (y : Written). y.name) e))
    ∙ ap (λ (y : Written). y.needs) (sym e)
needs_of_one (x ∷ ds) d u (inr h) =
    let parts = both (not (is_among (map (λ y. y.name) ds) x.name)) (are_distinct (map (λ y. y.name) ds)) u in
    ap (λ b. if b then x.needs else needs_of ds d.name)
    (differs (map (λ y. y.name) ds) d.name x.name (not_so (is_among (map (λ y. y.name) ds) x.name) parts.0) (in_names ds d h) (bytes_eq d.name x.name) refl)
    ∙ needs_of_one ds d parts.1 h

nothing_reached : (steps : ℕ) (next : Name → List Name) → reached steps next [] ≡ []
nothing_reached zero next = refl
nothing_reached (suc steps) next = nothing_reached steps next

-- a test that what stands under a name passes, and nothing doesn't, passes for a decision
some_decision : (p : Name → List Name → Bool) (ds : List Written) (n : Name) → p n [] ≡ false → p n (needs_of ds n) ≡ true → list_any (λ d. p d.name d.needs) ds ≡ true
some_decision p [] n none e = absurd (cc)
some_decision p (d ∷ ds) n none e = go (bytes_eq n d.name) refl e (some_decision p ds n none)
  where
    go : (b : Bool) → bytes_eq n d.name ≡ b → p n (if b then d.needs else needs_of ds n) ≡ true → (p n (needs_of ds n) ≡ true → list_any (λ x. p x.name x.needs) ds ≡ true)
        → (p d.name d.needs || list_any (λ x. p x.name x.needs) ds) ≡ true
    go true f h rest = ap (λ b. b || list_any (λ x. p x.name x.needs) ds) (ap (λ k. p k d.needs) (sym ((bytes_eq-Decides n d.name).0 f)) ∙ h)
    go false f h rest = or_true (p d.name d.needs) (list_any (λ x. p x.name x.needs) ds) (rest h)
      where
        or_true : (a b : Bool) → b ≡ true → (a || b) ≡ true
        or_true true b e = refl
        or_true false b e = e

no_decision : (p : Written → Bool) (ds : List Written) → ((d : Written) → IsIn d ds → p d ≡ false) → list_any p ds ≡ false
no_decision p [] h = refl
no_decision p (d ∷ ds) h = ap (λ b. b || list_any p ds) (h d (inl refl)) ∙ no_decision p ds (λ x i. h x (inr i))

-- the place of what stands in a list
place_of : (ns : List Name) (n : Name) → IsIn n ns → (x : ℕ) × (x < length ns) × (get_or ns x [] ≡ n)
place_of [] n h = absurd h
place_of (k ∷ ns) n (inl e) = (0, omega arith, sym e)
place_of (k ∷ ns) n (inr h) = let w = place_of ns n h in let l : w.0 < length ns = w.1 in (suc w.0, omega arith, w.2)

module _ (m : Draft) (needs : List (List ℕ)) (distinct : has_name_twice m ≡ false) (known : needs_by_place m ≡ Some needs) where
  pub cycle_by_name : (steps x : ℕ) → x < length (value_names m)
      → is_among (reached steps (needs_of m.decisions) (needs_of m.decisions (place_name m x))) (place_name m x) ≡ graph.needs_itself steps needs x
  cycle_by_name steps x l =
      cycle_named bytes_eq bytes_eq-Decides (length (value_names m)) needs (place_name m) (needs_of m.decisions) (λ x y l i. inside m needs (distinct_values m distinct) known x y i) (tells m (distinct_values m distinct))
      (fits m needs (distinct_values m distinct) known) steps x l

  -- a place that needs itself has the name of a decision that does
  cycle_of_names : graph.HasCycle needs → has_cycle m ≡ true
  cycle_of_names c =
      let steps = length m.decisions in
      let l : c.0 < length (value_names m) = subst (λ k. c.0 < k) (as_many_places m needs (distinct_values m distinct) known) c.1 in
      some_decision (λ n ns. is_among (reached steps (needs_of m.decisions) ns) n) m.decisions (place_name m c.0)
      (ap (λ ns. is_among ns (place_name m c.0)) (nothing_reached steps (needs_of m.decisions)))
      (cycle_by_name steps c.0 l ∙ c.2 steps (few_need m needs (distinct_values m distinct) known))

  no_cycle_of_names : graph.HasNoCycle needs → has_cycle m ≡ false
  no_cycle_of_names c = no_decision (needs_itself m) m.decisions alone
    where
      alone : (d : Written) → IsIn d m.decisions → needs_itself m d ≡ false
      alone d i =
          let steps = length m.decisions in
          let w = place_of (value_names m) d.name (in_right d.name m.inputs (decision_names m) (in_names m.decisions d i)) in
          ap (λ ns. is_among (reached steps (needs_of m.decisions) ns) d.name) (sym (needs_of_one m.decisions d (later_distinct m.inputs (decision_names m) (distinct_values m distinct)) i))
          ∙ (ap (λ n. is_among (reached steps (needs_of m.decisions) (needs_of m.decisions n)) n) (sym w.2)
          ∙ (cycle_by_name steps w.0 w.1 ∙ c steps w.0))

  pub cycle_told : (o : Option (Vec ℕ Global)) → IfNone o (graph.HasCycle needs) → IfSome o (λ v. graph.HasNoCycle needs) → is_none o ≡ has_cycle m
  cycle_told None c n = sym (cycle_of_names c)
  cycle_told (Some v) c n = sym (no_cycle_of_names n)
