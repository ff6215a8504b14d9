-- Places of a model under their names: what they need, and what a service lists.
use Rattle.std.proofs.Common.{◌≡◌, ◌⊎◌, inl, inr, ℕ, zero, suc, ◌+◌, ◌<◌, ◌≤◌, List, [], ◌∷◌, ◌++◌, map, length, get_or, Option, Some, None, refl, sym, ap, ap₂, subst, ◌∙◌, Bool, true, false, not, if◌then◌else◌, arith}
use Rattle.std.specs.Prelude.{bytes_eq, All}
use Rattle.std.proofs.lemmas.List.{length-map, length-append, get_or-append-add, get_or_append_left}
use Rattle.std.proofs.lemmas.List.Elements.{All-nil, All-cons, All-from_get_or}
use Rattle.std.proofs.lemmas.Slice.Eq.{bytes_eq-Decides}
use Rattle.dmn_form.specs.Model.{Name, Service}
use Rattle.dmn_form.specs.Draft.{Draft, Written}
use Rattle.feel_value.specs.Found.{◌>>=◌, each}
use Rattle.dmn_graph.specs.Members.{IsIn}
use Rattle.dmn_graph.specs.Needs as graph
use Rattle.dmn_graph.specs.Needs.{AreNeedsBelow, count_needing}
use Rattle.dmn_graph.proofs.Members.{in_right, in_either, not_in}
use Rattle.dmn_graph.proofs.Cycles.{count_needing_bound}
use Rattle.dmn_graph.proofs.SearchSteps.{needs_past}
use Rattle.feel_value.specs.Distinct.{is_among, are_distinct}
use Rattle.dmn_names.specs.Parts.{decision_names, value_names}
use Rattle.dmn_names.specs.Places.{place_among, value_place, decision_place, input_place, needed_places, needs_by_place, PlacedService, placed_service}
use Rattle.dmn_names.proofs.NamesBack.{name_at_place, decision_at_place, each_back, both, not_so, place_of_name_at}
use Rattle.dmn_names.proofs.Placing.{place_within}
use Rattle.dmn_plan.specs.Faults.{needs_of}
use Rattle.dmn_plan.specs.Plans.{place_name}

-- ---- lists

at_in : {X : Type 0} (xs : List X) (j : ℕ) (d : X) → j < length xs → IsIn (get_or xs j d) xs
at_in [] j d l = absurd (omega arith)
at_in (x ∷ xs) zero d l = inl refl
at_in (x ∷ xs) (suc j) d l = inr (at_in xs j d (omega arith))

pub all_from : {X : Type 0} (P : X → Type 0) (xs : List X) → ((x : X) → IsIn x xs → P x) → All P xs
all_from P [] h = All-nil P
all_from P (x ∷ xs) h = All-cons P x xs (h x (inl refl)) (all_from P xs (λ y i. h y (inr i)))

-- x is below k, or behind it
below_or_behind : (k x : ℕ) → (x < k) ⊎ ((j : ℕ) × (x ≡ k + j))
below_or_behind zero x = inr (x, omega arith)
below_or_behind (suc k) zero = inl (omega arith)
below_or_behind (suc k) (suc x) = elim (below_or_behind k x) [ inl l ↦ inl (omega arith) | inr w ↦ inr (w.0, let e = w.1 in omega arith) ]

-- what was given for each comes from one of them
from_each : {X Y : Type 0} (f : X → Option Y) (xs : List X) (ys : List Y) (y : Y) → each f xs ≡ Some ys → IsIn y ys → (x : X) × (f x ≡ Some y)
from_each f [] ys y e i = let same : [] ≡ ys = cc in absurd (subst (λ zs. IsIn y zs) (sym same) i)
from_each {X} {Y} f (x ∷ xs) ys y e i = go (f x) (each f xs) refl refl e (λ zs g j. from_each f xs zs y g j)
  where
    go : (a : Option Y) (b : Option (List Y)) → f x ≡ a → each f xs ≡ b → (a >>= λ z. b >>= λ zs. Some (z ∷ zs)) ≡ Some ys
        → ((zs : List Y) → each f xs ≡ Some zs → IsIn y zs → (w : X) × (f w ≡ Some y)) → (w : X) × (f w ≡ Some y)
    go None b g h k rest = absurd (cc)
    go (Some z) None g h k rest = absurd (cc)
    go (Some z) (Some zs) g h k rest =
        let same : ys ≡ z ∷ zs = cc in
        elim (subst (λ ws. IsIn y ws) same i) [ inl q ↦ (x, g ∙ ap Some (sym q)) | inr q ↦ rest zs h q ]

as_many : {X Y : Type 0} (f : X → Option Y) (xs : List X) (ys : List Y) → each f xs ≡ Some ys → length ys ≡ length xs
as_many f [] ys e = let same : ys ≡ [] = cc in ap length same
as_many {X} {Y} f (x ∷ xs) ys e = go (f x) (each f xs) refl e (as_many f xs)
  where
    go : (a : Option Y) (b : Option (List Y)) → each f xs ≡ b → (a >>= λ z. b >>= λ zs. Some (z ∷ zs)) ≡ Some ys
        → ((zs : List Y) → each f xs ≡ Some zs → length zs ≡ length xs) → length ys ≡ suc (length xs)
    go None b h k rest = absurd (cc)
    go (Some z) None h k rest = absurd (cc)
    go (Some z) (Some zs) h k rest = let same : ys ≡ z ∷ zs = cc in ap length same ∙ ap suc (rest zs h)

-- ---- distinct names

distinct_later : (xs ys : List Name) → are_distinct (xs ++ ys) ≡ true → are_distinct ys ≡ true
distinct_later [] ys d = d
distinct_later (x ∷ xs) ys d = distinct_later xs ys (both (not (is_among (xs ++ ys) x)) (are_distinct (xs ++ ys)) d).1

pub distinct_apart : (xs ys : List Name) (n : Name) → are_distinct (xs ++ ys) ≡ true → IsIn n xs → IsIn n ys → ⊥
distinct_apart [] ys n d i j = i
distinct_apart (x ∷ xs) ys n d (inl e) j =
    not_in bytes_eq bytes_eq-Decides x (xs ++ ys) (not_so (is_among (xs ++ ys) x) (both (not (is_among (xs ++ ys) x)) (are_distinct (xs ++ ys)) d).0)
    (in_right x xs ys (subst (λ z. IsIn z ys) e j))
distinct_apart (x ∷ xs) ys n d (inr i) j = distinct_apart xs ys n (both (not (is_among (xs ++ ys) x)) (are_distinct (xs ++ ys)) d).1 i j

-- names of different places differ
pub tells : (m : Draft) → are_distinct (value_names m) ≡ true → (x y : ℕ) → x < length (value_names m) → y < length (value_names m) → place_name m x ≡ place_name m y → x ≡ y
tells m d x y l k e =
    let at_x = place_of_name_at (value_names m) x [] d l in
    let at_y = place_of_name_at (value_names m) y [] d k in
    let same : Some x ≡ Some y = sym at_x ∙ (ap (place_among (value_names m)) e ∙ at_y) in
    cc

-- ---- what places need

pub no_needs : (ds : List Written) (n : Name) → (IsIn n (map (λ d. d.name) ds) → ⊥) → needs_of ds n ≡ []
no_needs [] n h = refl
no_needs (d ∷ ds) n h = go (bytes_eq n d.name) refl (no_needs ds n (λ i. h (inr i)))
  where
    go : (b : Bool) → bytes_eq n d.name ≡ b → needs_of ds n ≡ [] → (if b then d.needs else needs_of ds n) ≡ []
    go true e rest = absurd (h (inl ((bytes_eq-Decides n d.name).0 e)))
    go false e rest = rest

differs : (ns : List Name) (n : Name) (j : ℕ) (b : Bool) → is_among ns n ≡ false → j < length ns → bytes_eq (get_or ns j []) n ≡ b → b ≡ false
differs ns n j true h l e = absurd (not_in bytes_eq bytes_eq-Decides n ns h (subst (λ z. IsIn z ns) ((bytes_eq-Decides (get_or ns j []) n).0 e) (at_in ns j [] l)))
differs ns n j false h l e = refl

-- what a decision needs has the names that are written
module _ (name : ℕ → Name) (place : Name → Option ℕ) (back : (n : Name) (p : ℕ) → place n ≡ Some p → name p ≡ n) where
  decision_fits : (ds : List Written) (ns : List (List ℕ)) → each (λ d. each place d.needs) ds ≡ Some ns → are_distinct (map (λ d. d.name) ds) ≡ true
      → (j : ℕ) → j < length ds → needs_of ds (get_or (map (λ d. d.name) ds) j []) ≡ map name (get_or ns j [])
  decision_fits [] ns e h j l = absurd (omega arith)
  decision_fits (d ∷ ds) ns e h j l = go (each place d.needs) (each (λ d. each place d.needs) ds) refl refl e (decision_fits ds) j l
    where
      names : List Name
      names = map (λ d. d.name) ds

      parts : (not (is_among names d.name) ≡ true) × (are_distinct names ≡ true)
      parts = both (not (is_among names d.name)) (are_distinct names) h

      go : (a : Option (List ℕ)) (b : Option (List (List ℕ))) → each place d.needs ≡ a → each (λ d. each place d.needs) ds ≡ b → (a >>= λ y. b >>= λ ys. Some (y ∷ ys)) ≡ Some ns
          → ((zs : List (List ℕ)) → each (λ d. each place d.needs) ds ≡ Some zs → are_distinct names ≡ true → (j : ℕ) → j < length ds → needs_of ds (get_or names j []) ≡ map name (get_or zs j []))
          → (j : ℕ) → j < suc (length ds) → needs_of (d ∷ ds) (get_or (d.name ∷ names) j []) ≡ map name (get_or ns j [])
      go None b f g k rest j l = absurd (cc)
      go (Some y) None f g k rest j l = absurd (cc)
      go (Some y) (Some ys) f g k rest zero l =
          let same : y ∷ ys ≡ ns = cc in
          subst (λ zs. needs_of (d ∷ ds) d.name ≡ map name (get_or zs 0 [])) same
          (ap (λ b. if b then d.needs else needs_of ds d.name) ((bytes_eq-Decides d.name d.name).1 refl) ∙ sym (each_back place name back d.needs y f))
      go (Some y) (Some ys) f g k rest (suc j) l =
          let same : y ∷ ys ≡ ns = cc in
          let lt : j < length ds = omega arith in
          let in_names : j < length names = omega (arith, length-map ds (λ d. d.name)) in
          subst (λ zs. needs_of (d ∷ ds) (get_or names j []) ≡ map name (get_or zs (suc j) [])) same
          (ap (λ b. if b then d.needs else needs_of ds (get_or names j [])) (differs names d.name j (bytes_eq (get_or names j []) d.name) (not_so (is_among names d.name) parts.0) in_names refl)
          ∙ rest ys g parts.1 j lt)

empty_first : (is : List Name) (ns : List (List ℕ)) (x : ℕ) → x < length is → get_or (map (λ n. []) is ++ ns) x [] ≡ []
empty_first [] ns x l = absurd (omega arith)
empty_first (i ∷ is) ns zero l = refl
empty_first (i ∷ is) ns (suc x) l = empty_first is ns x (omega arith)

behind_empty : (is : List Name) (ns : List (List ℕ)) (j : ℕ) → get_or (map (λ n. []) is ++ ns) (length is + j) [] ≡ get_or ns j []
behind_empty is ns j = ap (λ k. get_or (map (λ n. []) is ++ ns) (k + j) []) (sym (length-map is (λ n. []))) ∙ get_or-append-add (map (λ n. []) is) ns j []

name_of_value : (m : Draft) (n : Name) (p : ℕ) → value_place m n ≡ Some p → place_name m p ≡ n
name_of_value m n p e = name_at_place (value_names m) n p [] e

module _ (m : Draft) (needs : List (List ℕ)) (distinct : are_distinct (value_names m) ≡ true) (known : needs_by_place m ≡ Some needs) where
  -- the needs are none of inputs, and those of decisions
  needed : (ns : List (List ℕ)) × (needed_places m ≡ Some ns) × (needs ≡ map (λ n. []) m.inputs ++ ns)
  needed = go (needed_places m) refl known
    where
      go : (o : Option (List (List ℕ))) → needed_places m ≡ o → (o >>= λ ns. Some (map (λ n. []) m.inputs ++ ns)) ≡ Some needs → (ns : List (List ℕ)) × (needed_places m ≡ Some ns) × (needs ≡ map (λ n. []) m.inputs ++ ns)
      go None f e = absurd (cc)
      go (Some ns) f e = (ns, f, (cc))

  -- the names of what a place needs are those that the decision of its name needs
  pub fits : (x : ℕ) → x < length (value_names m) → needs_of m.decisions (place_name m x) ≡ map (place_name m) (graph.needs_of needs x)
  fits x l =
      let w = needed in
      let all : needs ≡ map (λ n. []) m.inputs ++ w.0 = w.2 in
      subst (λ zs. needs_of m.decisions (place_name m x) ≡ map (place_name m) (graph.needs_of zs x)) (sym all)
      (elim (below_or_behind (length m.inputs) x) [
        | inl b ↦ no_needs m.decisions (place_name m x)
            (distinct_apart m.inputs (decision_names m) (place_name m x) distinct
            (subst (λ n. IsIn n m.inputs) (sym (get_or_append_left m.inputs (decision_names m) [] x b)) (at_in m.inputs x [] b)))
            ∙ ap (map (place_name m)) (sym (empty_first m.inputs w.0 x b))
        | inr j ↦ (let at : x ≡ length m.inputs + j.0 = j.1 in
            let fewer : j.0 < length m.decisions = omega (arith, length-append m.inputs (decision_names m), length-map m.decisions (λ d. d.name)) in
            subst (λ y. needs_of m.decisions (place_name m y) ≡ map (place_name m) (get_or (map (λ n. []) m.inputs ++ w.0) y [])) (sym at)
            (ap (needs_of m.decisions) (get_or-append-add m.inputs (decision_names m) j.0 [])
            ∙ (decision_fits (place_name m) (value_place m) (name_of_value m) m.decisions w.0 w.1 (distinct_later m.inputs (decision_names m) distinct) j.0 fewer
            ∙ ap (map (place_name m)) (sym (behind_empty m.inputs w.0 j.0)))))
      ])

  pub as_many_places : length needs ≡ length (value_names m)
  as_many_places =
      let w = needed in
      ap length w.2 ∙ (length-append (map (λ n. []) m.inputs) w.0
      ∙ (ap₂ (λ a b. a + b) (length-map m.inputs (λ n. [])) (as_many (λ d. each (value_place m) d.needs) m.decisions w.0 w.1 ∙ sym (length-map m.decisions (λ d. d.name)))
      ∙ sym (length-append m.inputs (decision_names m))))

  -- what a place needs is a place
  pub inside : (x y : ℕ) → IsIn y (graph.needs_of needs x) → y < length (value_names m)
  inside x y i =
      let w = needed in
      elim (in_either (graph.needs_of needs x) (map (λ n. []) m.inputs) w.0 (subst (λ zs. IsIn (graph.needs_of needs x) zs) w.2 (at_in needs x [] (needs_past needs x y i)))) [
        | inl j ↦ absurd (subst (λ zs. IsIn y zs) (none_in m.inputs (graph.needs_of needs x) j) i)
        | inr j ↦ (let d = from_each (λ d. each (value_place m) d.needs) m.decisions w.0 (graph.needs_of needs x) w.1 j in
            let n = from_each (value_place m) d.0.needs (graph.needs_of needs x) y d.1 i in
            place_within (value_names m) n.0 y n.1)
      ]
    where
      none_in : (is : List Name) (xs : List ℕ) → IsIn xs (map (λ n. []) is) → xs ≡ []
      none_in [] xs j = absurd j
      none_in (n ∷ is) xs (inl e) = e
      none_in (n ∷ is) xs (inr j) = none_in is xs j

  pub needs_inside : AreNeedsBelow (length needs) needs
  needs_inside =
      All-from_get_or (All (λ q. q < length needs)) needs [] (λ x l. all_from (λ q. q < length needs) (graph.needs_of needs x) (λ y i. let b = inside x y i in omega (arith, as_many_places)))

  -- at most as many places need anything as there are decisions
  pub few_need : count_needing needs ≤ length m.decisions
  few_need =
      let w = needed in
      let bound = count_needing_bound needs (length m.inputs) (omega (arith, as_many_places, length-append m.inputs (decision_names m)))
      (λ x l. ap (λ zs. get_or zs x []) w.2 ∙ empty_first m.inputs w.0 x l) in
      omega (arith, as_many_places, length-append m.inputs (decision_names m), length-map m.decisions (λ d. d.name))

-- ---- the lists of a service

-- the places of a service have the names that it lists
pub record AreNamesOf (m : Draft) (s : Service) (p : PlacedService) : Type 0 where
  pub outputs : map (place_name m) p.outputs ≡ s.outputs
  pub encapsulated : map (place_name m) p.encapsulated ≡ s.encapsulated
  pub input_decisions : map (place_name m) p.input_decisions ≡ s.input_decisions
  pub input_data : map (place_name m) p.input_data ≡ s.input_data

four_lists : (m : Draft) (s : Service) (a b c d : Option (List ℕ)) (q : PlacedService)
    → ((ps : List ℕ) → a ≡ Some ps → map (place_name m) ps ≡ s.outputs) → ((ps : List ℕ) → b ≡ Some ps → map (place_name m) ps ≡ s.encapsulated)
    → ((ps : List ℕ) → c ≡ Some ps → map (place_name m) ps ≡ s.input_decisions) → ((ps : List ℕ) → d ≡ Some ps → map (place_name m) ps ≡ s.input_data)
    → (a >>= λ w. b >>= λ x. c >>= λ y. d >>= λ z. Some (record { outputs = w; encapsulated = x; input_decisions = y; input_data = z })) ≡ Some q
    → AreNamesOf m s q
four_lists m s None b c d q f g h i e = cc
four_lists m s (Some w) None c d q f g h i e = cc
four_lists m s (Some w) (Some x) None d q f g h i e = cc
four_lists m s (Some w) (Some x) (Some y) None q f g h i e = cc
four_lists m s (Some w) (Some x) (Some y) (Some z) q f g h i e =
    let placed : PlacedService = record { outputs = w; encapsulated = x; input_decisions = y; input_data = z } in
    let same : placed ≡ q = cc in
    subst (λ (r : PlacedService). AreNamesOf m s r) same (record { outputs = f w refl; encapsulated = g x refl; input_decisions = h y refl; input_data = i z refl })

pub names_back : (m : Draft) (s : Service) (p : PlacedService) → placed_service m s ≡ Some p → AreNamesOf m s p
names_back m s p e =
    let decisions = λ (ns : List Name) (ps : List ℕ) (f : each (decision_place m) ns ≡ Some ps).
    each_back (decision_place m) (place_name m) (λ n q g. decision_at_place m n q [] g) ns ps f
    in
    four_lists m s (each (decision_place m) s.outputs) (each (decision_place m) s.encapsulated) (each (decision_place m) s.input_decisions) (each (input_place m) s.input_data) p
    (decisions s.outputs) (decisions s.encapsulated) (decisions s.input_decisions)
    (each_back (input_place m) (place_name m)
    (λ n q g. get_or_append_left m.inputs (decision_names m) [] q (place_within m.inputs n q g) ∙ name_at_place m.inputs n q [] g) s.input_data) e
