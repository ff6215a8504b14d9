-- A service doesn't fit its decisions by name where it doesn't by place.
use Rattle.std.proofs.Common.{◌≡◌, inl, inr, ℕ, ◌+◌, ◌<◌, ◌≤◌, List, [], ◌∷◌, ◌++◌, map, length, Some, is_none, refl, sym, ap, ap₂, ◌∙◌, Bool, true, false, not, ◌&&◌, ◌||◌, if◌then◌else◌, arith}
use Rattle.std.specs.Prelude.{bytes_eq, nat_eq, nat_lt}
use Rattle.std.specs.List.{list_any, list_all}
use Rattle.std.proofs.lemmas.Bool.Decides.{Decides-eqb}
use Rattle.std.proofs.lemmas.List.{length-map, length-append, map-append}
use Rattle.std.proofs.lemmas.List.Folds.{list_any-append}
use Rattle.std.proofs.lemmas.Slice.Eq.{bytes_eq-Decides}
use Rattle.dmn_form.specs.Model.{Name, Service}
use Rattle.dmn_form.specs.Draft.{Draft, Written}
use Rattle.dmn_graph.specs.Members.{IsIn}
use Rattle.dmn_graph.specs.Reach.{reached}
use Rattle.dmn_graph.specs.Within.{reaches_only}
use Rattle.dmn_graph.proofs.Members.{in_left, in_right, in_either, is_in, among}
use Rattle.dmn_graph.proofs.Reaching.{reached_closed}
use Rattle.dmn_graph.proofs.Renaming.{reached_agree, among_named, reaches_only_named}
use Rattle.dmn_graph.proofs.SearchSteps.{all_in}
use Rattle.dmn_names.specs.Names.{has_unknown_name}
use Rattle.feel_value.specs.Distinct.{is_among, are_distinct}
use Rattle.dmn_names.specs.Parts.{decision_names, value_names}
use Rattle.dmn_names.specs.Places.{needs_by_place, PlacedService, placed_service, ArePlacesOf, has_stranger}
use Rattle.dmn_names.proofs.NamesBack.{so}
use Rattle.dmn_names.proofs.Strangers.{unknown_where_none, stranger_where_none}
use Rattle.dmn_plan.specs.Faults.{needs_of, needed_within, reachable, reaches_unlisted, is_bad_service}
use Rattle.dmn_plan.specs.Plans.{place_name}
use Rattle.dmn_plan.specs.ServicesByPlace.{inner_places, parameter_places, do_share, is_bad_by_place}
use Rattle.dmn_plan.proofs.ServicesByName.{distinct_apart, tells, no_needs, fits, inside, AreNamesOf, names_back}

-- ---- tests

pub neither : (a b : Bool) → (a || b) ≡ false → (a ≡ false) × (b ≡ false)
neither true b e = absurd (cc)
neither false b e = (refl, e)

or_true : (a b : Bool) → b ≡ true → (a || b) ≡ true
or_true true b e = refl
or_true false b e = e

-- where none is unknown, each is known
pub all_known : (known ns : List Name) (n : Name) → list_any (λ n. not (is_among known n)) ns ≡ false → IsIn n ns → IsIn n known
all_known known [] n e i = absurd i
all_known known (k ∷ ns) n e (inl q) =
    is_in bytes_eq bytes_eq-Decides n known
    (ap (is_among known) q ∙ so (is_among known k) (neither (not (is_among known k)) (list_any (λ n. not (is_among known n)) ns) e).0)
all_known known (k ∷ ns) n e (inr j) = all_known known ns n (neither (not (is_among known k)) (list_any (λ n. not (is_among known n)) ns) e).1 j

known_needs : (known : List Name) (ds : List Written) (x y : Name) → list_any (λ d. list_any (λ n. not (is_among known n)) d.needs) ds ≡ false → IsIn y (needs_of ds x) → IsIn y known
known_needs known [] x y e i = absurd i
known_needs known (d ∷ ds) x y e i =
    let parts = neither (list_any (λ n. not (is_among known n)) d.needs) (list_any (λ d. list_any (λ n. not (is_among known n)) d.needs) ds) e in
    go (bytes_eq x d.name) i (all_known known d.needs y parts.0) (known_needs known ds x y parts.1)
  where
    go : (b : Bool) → IsIn y (if b then d.needs else needs_of ds x) → (IsIn y d.needs → IsIn y known) → (IsIn y (needs_of ds x) → IsIn y known) → IsIn y known
    go true j here later = here j
    go false j here later = later j

-- what is known and in none of the lists that it may be in, is in none of the lists
unlisted_one : (a b c d i : Bool) → (a ≡ true → d ≡ true) → (b ≡ true → d ≡ true) → (c ≡ true → i ≡ true) → (d ≡ true → i ≡ true → ⊥) → (i || d) ≡ true
    → ((d && not (a || b)) || (i && not c)) ≡ not (a || (b || c))
unlisted_one a b c true true f g h k e = absurd (k refl refl)
unlisted_one a b c false false f g h k e = absurd (cc)
unlisted_one a b true true false f g h k e = let no : false ≡ true = h refl in absurd (cc)
unlisted_one true b false true false f g h k e = refl
unlisted_one false true false true false f g h k e = refl
unlisted_one false false false true false f g h k e = refl
unlisted_one true b c false true f g h k e = let no : false ≡ true = f refl in absurd (cc)
unlisted_one false true c false true f g h k e = let no : false ≡ true = g refl in absurd (cc)
unlisted_one false false c false true f g h k e = refl

not_both : (a b : Bool) → (not a || not b) ≡ not (a && b)
not_both true b = refl
not_both false b = refl

either_each : (p q t : Bool) (ps qs ts : Bool) → (p || q) ≡ not t → (ps || qs) ≡ not ts → ((p || ps) || (q || qs)) ≡ not (t && ts)
either_each true q true ps qs ts e f = absurd (cc)
either_each true q false ps qs ts e f = refl
either_each false true true ps qs ts e f = absurd (cc)
either_each false true false true qs ts e f = refl
either_each false true false false qs ts e f = refl
either_each false false true ps qs ts e f = f
either_each false false false ps qs ts e f = absurd (cc)

unlisted_each : {X : Type 0} (p q t : X → Bool) (xs : List X) → ((x : X) → IsIn x xs → (p x || q x) ≡ not (t x)) → (list_any p xs || list_any q xs) ≡ not (list_all t xs)
unlisted_each p q t [] h = refl
unlisted_each p q t (x ∷ xs) h =
    either_each (p x) (q x) (t x) (list_any p xs) (list_any q xs) (list_all t xs) (h x (inl refl)) (unlisted_each p q t xs (λ y i. h y (inr i)))

nothing_twice : {X : Type 0} (b c : Bool) (xs : List X) → (c ≡ true → xs ≡ []) → (if b then [] else xs) ≡ (if (b || c) then [] else xs)
nothing_twice true c xs h = refl
nothing_twice false true xs h = h refl
nothing_twice false false xs h = refl

module _ (m : Draft) (s : Service) (needs : List (List ℕ)) (p : PlacedService) (distinct : are_distinct (value_names m) ≡ true) (known : needs_by_place m ≡ Some needs)
    (placed : placed_service m s ≡ Some p) (places : ArePlacesOf m p) where
  count : length (value_names m) ≡ length m.inputs + length (decision_names m)
  count = length-append m.inputs (decision_names m)

  pub back : AreNamesOf m s p
  back = names_back m s p placed

  pub no_stranger : has_stranger m s ≡ false
  no_stranger = sym (stranger_where_none m s) ∙ ap is_none placed

  none_unknown : has_unknown_name m ≡ false
  none_unknown = sym (unknown_where_none m) ∙ ap is_none known

  strangers : (list_any (λ n. not (is_among (decision_names m) n)) (s.outputs ++ s.encapsulated ++ s.input_decisions) ≡ false) × (list_any (λ n. not (is_among m.inputs n)) s.input_data ≡ false)
  strangers = neither (list_any (λ n. not (is_among (decision_names m) n)) (s.outputs ++ s.encapsulated ++ s.input_decisions)) (list_any (λ n. not (is_among m.inputs n)) s.input_data) no_stranger

  pub inner_decisions : (n : Name) → IsIn n (s.outputs ++ s.encapsulated) → IsIn n (decision_names m)
  inner_decisions n i = all_known (decision_names m) (s.outputs ++ s.encapsulated ++ s.input_decisions) n strangers.0 (in_left n (s.outputs ++ s.encapsulated) s.input_decisions i)

  given_decisions : (n : Name) → IsIn n s.input_decisions → IsIn n (decision_names m)
  given_decisions n i = all_known (decision_names m) (s.outputs ++ s.encapsulated ++ s.input_decisions) n strangers.0 (in_right n (s.outputs ++ s.encapsulated) s.input_decisions i)

  given_inputs : (n : Name) → IsIn n s.input_data → IsIn n m.inputs
  given_inputs n i = all_known m.inputs s.input_data n strangers.1 i

  -- ---- places and names of the lists

  pub output_below : (q : ℕ) → IsIn q p.outputs → (length m.inputs ≤ q) × (q < length (value_names m))
  output_below q i = all_in (λ p. (length m.inputs ≤ p) × (p < length (value_names m))) p.outputs q places.outputs i

  pub inner_below : (q : ℕ) → IsIn q (inner_places p) → q < length (value_names m)
  inner_below q i = elim (in_either q p.outputs p.encapsulated i) [
    | inl j ↦ (output_below q j).1
    | inr j ↦ (all_in (λ p. (length m.inputs ≤ p) × (p < length (value_names m))) p.encapsulated q places.encapsulated j).1
  ]

  pub data_below : (q : ℕ) → IsIn q p.input_data → q < length m.inputs
  data_below q i = all_in (λ p. p < length m.inputs) p.input_data q places.input_data i

  given_below : (q : ℕ) → IsIn q p.input_decisions → q < length (value_names m)
  given_below q i = (all_in (λ p. (length m.inputs ≤ p) × (p < length (value_names m))) p.input_decisions q places.input_decisions i).1

  pub parameter_below : (q : ℕ) → IsIn q (parameter_places p) → q < length (value_names m)
  parameter_below q i = elim (in_either q p.input_decisions p.input_data i) [
    | inl j ↦ given_below q j
    | inr j ↦ (let l = data_below q j in omega (arith, count))
  ]

  pub inner_names : map (place_name m) (inner_places p) ≡ s.outputs ++ s.encapsulated
  inner_names = map-append (place_name m) p.outputs p.encapsulated ∙ ap₂ (λ xs ys. xs ++ ys) back.outputs back.encapsulated

  pub parameter_names : map (place_name m) (parameter_places p) ≡ s.input_decisions ++ s.input_data
  parameter_names = map-append (place_name m) p.input_decisions p.input_data ∙ ap₂ (λ xs ys. xs ++ ys) back.input_decisions back.input_data

  -- ---- the parts of the fault

  some_output : nat_lt 0 (length p.outputs) ≡ nat_lt 0 (length s.outputs)
  some_output = ap (nat_lt 0) (sym (length-map p.outputs (place_name m))) ∙ ap (λ xs. nat_lt 0 (length xs)) back.outputs

  shared_named : (xs others : List ℕ) → ((q : ℕ) → IsIn q xs → q < length (value_names m)) → ((q : ℕ) → IsIn q others → q < length (value_names m))
      → do_share xs others ≡ list_any (is_among (map (place_name m) others)) (map (place_name m) xs)
  shared_named [] others below bounds = refl
  shared_named (x ∷ xs) others below bounds =
      ap₂ (λ a b. a || b)
      (sym (among_named nat_eq Decides-eqb bytes_eq bytes_eq-Decides (place_name m) x others (λ y i e. tells m distinct x y (below x (inl refl)) (bounds y i) e)))
      (shared_named xs others (λ q i. below q (inr i)) bounds)

  shared : do_share p.input_decisions (inner_places p) ≡ list_any (is_among (s.outputs ++ s.encapsulated)) s.input_decisions
  shared = shared_named p.input_decisions (inner_places p) given_below inner_below ∙ ap₂ (λ xs ys. list_any (is_among xs) ys) inner_names back.input_decisions

  -- what a name leads to: input data need nothing
  needed_agree : (n : Name) → needed_within m s n ≡ (if is_among (map (place_name m) (parameter_places p)) n then [] else needs_of m.decisions n)
  needed_agree n =
      nothing_twice (is_among s.input_decisions n) (is_among s.input_data n) (needs_of m.decisions n)
      (λ t. no_needs m.decisions n (distinct_apart m.inputs (decision_names m) n distinct (given_inputs n (is_in bytes_eq bytes_eq-Decides n s.input_data t))))
      ∙ ap (λ b. if b then [] else needs_of m.decisions n) (sym (ap (λ xs. is_among xs n) parameter_names ∙ list_any-append (bytes_eq n) s.input_decisions s.input_data))

  -- what is reached has a name of the model
  reachable_known : (n : Name) → IsIn n (reachable m s) → IsIn n (value_names m)
  reachable_known n i =
      reached_closed (needed_within m s) (λ z. IsIn z (value_names m))
      (λ x y j k. known_needs (value_names m) m.decisions x y none_unknown (go (is_among s.input_decisions x) x y k)) (length m.decisions) s.outputs
      (λ z j. in_right z m.inputs (decision_names m) (inner_decisions z (in_left z s.outputs s.encapsulated j))) n i
    where
      go : (b : Bool) (x y : Name) → IsIn y (if b then [] else needs_of m.decisions x) → IsIn y (needs_of m.decisions x)
      go true x y j = absurd j
      go false x y j = j

  listed : (n : Name) → is_among (map (place_name m) (inner_places p) ++ map (place_name m) (parameter_places p)) n ≡ (is_among (s.outputs ++ s.encapsulated) n || (is_among s.input_decisions n || is_among s.input_data n))
  listed n =
      list_any-append (bytes_eq n) (map (place_name m) (inner_places p)) (map (place_name m) (parameter_places p))
      ∙ ap₂ (λ a b. a || b) (ap (λ xs. is_among xs n) inner_names) (ap (λ xs. is_among xs n) parameter_names ∙ list_any-append (bytes_eq n) s.input_decisions s.input_data)

  unlisted_name : (n : Name) → IsIn n (reachable m s)
      → ((is_among (decision_names m) n && not (is_among (s.outputs ++ s.encapsulated ++ s.input_decisions) n)) || (is_among m.inputs n && not (is_among s.input_data n)))
      ≡ not (is_among (map (place_name m) (inner_places p) ++ map (place_name m) (parameter_places p)) n)
  unlisted_name n i =
      ap (λ b. (is_among (decision_names m) n && not b) || (is_among m.inputs n && not (is_among s.input_data n))) (list_any-append (bytes_eq n) (s.outputs ++ s.encapsulated) s.input_decisions)
      ∙ (unlisted_one (is_among (s.outputs ++ s.encapsulated) n) (is_among s.input_decisions n) (is_among s.input_data n) (is_among (decision_names m) n) (is_among m.inputs n)
      (λ t. has (decision_names m) (inner_decisions n (of (s.outputs ++ s.encapsulated) t)))
      (λ t. has (decision_names m) (given_decisions n (of s.input_decisions t)))
      (λ t. has m.inputs (given_inputs n (of s.input_data t)))
      (λ t u. distinct_apart m.inputs (decision_names m) n distinct (of m.inputs u) (of (decision_names m) t))
      (sym (list_any-append (bytes_eq n) m.inputs (decision_names m)) ∙ has (value_names m) (reachable_known n i))
      ∙ ap not (sym (listed n)))
    where
      of : (ns : List Name) → is_among ns n ≡ true → IsIn n ns
      of ns t = is_in bytes_eq bytes_eq-Decides n ns t

      has : (ns : List Name) → IsIn n ns → is_among ns n ≡ true
      has ns j = among bytes_eq bytes_eq-Decides n ns j

  -- what is reached by name is what is reached by place, under its names
  only_listed : list_all (is_among (map (place_name m) (inner_places p) ++ map (place_name m) (parameter_places p))) (reachable m s)
      ≡ reaches_only (length m.decisions) (inner_places p) (parameter_places p) needs p.outputs
  only_listed =
      ap (λ xs. list_all (is_among (map (place_name m) (inner_places p) ++ map (place_name m) (parameter_places p))) xs)
      (reached_agree (length m.decisions) (needed_within m s) (λ n. if is_among (map (place_name m) (parameter_places p)) n then [] else needs_of m.decisions n) needed_agree s.outputs
      ∙ ap (reached (length m.decisions) (λ n. if is_among (map (place_name m) (parameter_places p)) n then [] else needs_of m.decisions n)) (sym back.outputs))
      ∙ reaches_only_named bytes_eq bytes_eq-Decides (length (value_names m)) needs (place_name m) (needs_of m.decisions) (λ x y l i. inside m needs distinct known x y i) (tells m distinct)
      (fits m needs distinct known) (parameter_places p) parameter_below (length m.decisions) (inner_places p) p.outputs inner_below (λ q i. (output_below q i).1)

  unlisted : not (reaches_only (length m.decisions) (inner_places p) (parameter_places p) needs p.outputs) ≡ reaches_unlisted m s
  unlisted =
      ap not (sym only_listed)
      ∙ sym (unlisted_each (λ n. is_among (decision_names m) n && not (is_among (s.outputs ++ s.encapsulated ++ s.input_decisions) n)) (λ n. is_among m.inputs n && not (is_among s.input_data n))
      (is_among (map (place_name m) (inner_places p) ++ map (place_name m) (parameter_places p))) (reachable m s) unlisted_name)

  -- the service is bad by place where it is by name
  pub bad_by_name : is_bad_by_place (length m.decisions) needs p ≡ is_bad_service m s
  bad_by_name =
      ap₂ (λ a b. not a || b) some_output
      (ap₂ (λ a b. a || b) shared unlisted
      ∙ ap (λ t. t || (list_any (is_among (s.outputs ++ s.encapsulated)) s.input_decisions || reaches_unlisted m s)) (sym no_stranger))

-- a service with a name that is none of its kind is bad
pub bad_stranger : (m : Draft) (s : Service) → has_stranger m s ≡ true → is_bad_service m s ≡ true
bad_stranger m s e =
    or_true (not (nat_lt 0 (length s.outputs))) (has_stranger m s || (list_any (is_among (s.outputs ++ s.encapsulated)) s.input_decisions || reaches_unlisted m s))
    (ap (λ t. t || (list_any (is_among (s.outputs ++ s.encapsulated)) s.input_decisions || reaches_unlisted m s)) e)
