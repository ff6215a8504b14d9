-- The places of names are those of inputs and decisions.
use Rattle.std.proofs.Common.{◌≡◌, ℕ, ◌+◌, ◌<◌, ◌≤◌, suc, List, [], ◌∷◌, ◌++◌, map, length, Option, Some, None, option_map, refl, sym, ap, ap₂, subst, ◌∙◌, Vec, Global, arith}
use Rattle.std.specs.Prelude.{All, IfSome}
use Rattle.std.proofs.lemmas.List.{length-map, length-append}
use Rattle.std.proofs.lemmas.List.Elements.{All-nil, All-cons, All-same}
use Rattle.dmn_form.specs.Model.{Name, Service}
use Rattle.dmn_form.specs.Draft.{Draft}
use Rattle.feel_value.specs.Found.{◌>>=◌, each}
use Rattle.dmn_names.specs.Parts.{decision_names, value_names}
use Rattle.dmn_names.specs.Places.{place_among, input_place, decision_place, value_place, needed_places, needs_by_place, PlacedService, placed_service, AreInputPlaces, AreDecisionPlaces, ArePlacesOf}
use Rattle.dmn_graph.specs.Needs.{AreNeedsBelow}
use Rattle.dmn_names.specs.PlacedModel.{needs_view, placed_service_view}
use Rattle.dmn_names.specs.declared.places.ServicePlaces.{ServicePlaces}
use Rattle.dmn_names.proofs.Placing.{place_within}

one_more : {Y : Type 0} (P : Y → Type 0) (o : Option Y) (p : Option (List Y)) (ys : List Y)
    → ((y : Y) → o ≡ Some y → P y) → ((zs : List Y) → p ≡ Some zs → All P zs) → (o >>= λ y. p >>= λ zs. Some (y ∷ zs)) ≡ Some ys → All P ys
one_more P None p ys h g e = cc
one_more P (Some y) None ys h g e = cc
one_more P (Some y) (Some zs) ys h g e = let same : ys ≡ y ∷ zs = cc in All-same P ys (y ∷ zs) same (All-cons P y zs (h y refl) (g zs refl))

-- what holds of all that f gives
all_given : {X Y : Type 0} (f : X → Option Y) (P : Y → Type 0) → ((x : X) (y : Y) → f x ≡ Some y → P y) → (xs : List X) (ys : List Y) → each f xs ≡ Some ys → All P ys
all_given f P h [] ys e = let same : ys ≡ [] = cc in All-same P ys [] same (All-nil P)
all_given f P h (x ∷ xs) ys e = one_more P (f x) (each f xs) ys (h x) (all_given f P h xs) e

counted : {Y : Type 0} (n : ℕ) (o : Option Y) (p : Option (List Y)) (ys : List Y) → ((zs : List Y) → p ≡ Some zs → length zs ≡ n) → (o >>= λ y. p >>= λ zs. Some (y ∷ zs)) ≡ Some ys → length ys ≡ suc n
counted n None p ys g e = cc
counted n (Some y) None ys g e = cc
counted n (Some y) (Some zs) ys g e = let same : ys ≡ y ∷ zs = cc in ap length same ∙ ap suc (g zs refl)

as_many : {X Y : Type 0} (f : X → Option Y) (xs : List X) (ys : List Y) → each f xs ≡ Some ys → length ys ≡ length xs
as_many f [] ys e = let same : ys ≡ [] = cc in ap length same
as_many f (x ∷ xs) ys e = counted (length xs) (f x) (each f xs) ys (as_many f xs) e

value_within : (m : Draft) (n : Name) (p : ℕ) → value_place m n ≡ Some p → p < length (value_names m)
value_within m n p e = place_within (value_names m) n p e

needed_within : (m : Draft) (needs : List (List ℕ)) → needed_places m ≡ Some needs → AreNeedsBelow (length (value_names m)) needs
needed_within m needs e =
    all_given (λ d. each (value_place m) d.needs) (All (λ p. p < length (value_names m)))
    (λ d ps f. all_given (value_place m) (λ p. p < length (value_names m)) (value_within m) d.needs ps f) m.decisions needs e

behind_inputs : (count : ℕ) (inputs : List Name) (needs : List (List ℕ)) → AreNeedsBelow count needs → AreNeedsBelow count (map (λ n. []) inputs ++ needs)
behind_inputs count [] needs h = h
behind_inputs count (n ∷ ns) needs h = All-cons (All (λ p. p < count)) [] (map (λ n. []) ns ++ needs) (All-nil (λ p. p < count)) (behind_inputs count ns needs h)

abbrev no_places : Name → List ℕ
no_places n = []

of_every_place : (m : Draft) (o : Option (List (List ℕ))) (needs : List (List ℕ)) → needed_places m ≡ o → (o >>= λ ns. Some (map (λ n. []) m.inputs ++ ns)) ≡ Some needs
    → AreNeedsBelow (length needs) needs
of_every_place m None needs f e = cc
of_every_place m (Some ns) needs f e =
    let same : needs ≡ map (λ n. []) m.inputs ++ ns = cc in
    let count : length (value_names m) ≡ length needs =
    length-append m.inputs (decision_names m)
    ∙ ap₂ (λ a b. a + b) (sym (length-map m.inputs (λ n. no_places n))) (length-map m.decisions (λ d. d.name) ∙ sym (as_many (λ d. each (value_place m) d.needs) m.decisions ns f))
    ∙ sym (length-append (map (λ n. no_places n) m.inputs) ns) ∙ ap length (sym same)
    in
    All-same (All (λ p. p < length needs)) needs (map (λ n. []) m.inputs ++ ns) same
    (subst (λ k. AreNeedsBelow k (map (λ n. []) m.inputs ++ ns)) count (behind_inputs (length (value_names m)) m.inputs ns (needed_within m ns f)))

needs_within : (m : Draft) (needs : List (List ℕ)) → needs_by_place m ≡ Some needs → AreNeedsBelow (length needs) needs
needs_within m needs e = of_every_place m (needed_places m) needs refl e

pub needs_inside : (m : Draft) (o : Option (Vec (Vec ℕ Global) Global)) → option_map needs_view o ≡ needs_by_place m → IfSome o (λ v. AreNeedsBelow (length v.items) (needs_view v))
needs_inside m None e = tt
needs_inside m (Some v) e = subst (λ k. AreNeedsBelow k (needs_view v)) (length-map v.items (λ p. p.items)) (needs_within m (needs_view v) (sym e))

behind : (o : Option ℕ) (l k p : ℕ) → ((i : ℕ) → o ≡ Some i → i < k) → option_map (λ i. l + i) o ≡ Some p → (l ≤ p) × (p < l + k)
behind None l k p h e = cc
behind (Some i) l k p h e = let is : l + i ≡ p = cc in let lt = h i refl in (omega arith, omega arith)

decision_within : (m : Draft) (n : Name) (p : ℕ) → decision_place m n ≡ Some p → (length m.inputs ≤ p) × (p < length (value_names m))
decision_within m n p e =
    let found = behind (place_among (decision_names m) n) (length m.inputs) (length (decision_names m)) p (λ i f. place_within (decision_names m) n i f) e in
    (found.0, subst (λ k. p < k) (sym (length-append m.inputs (decision_names m))) found.1)

four_lists : (m : Draft) (a b c d : Option (List ℕ)) (q : PlacedService)
    → ((ps : List ℕ) → a ≡ Some ps → AreDecisionPlaces m ps) → ((ps : List ℕ) → b ≡ Some ps → AreDecisionPlaces m ps)
    → ((ps : List ℕ) → c ≡ Some ps → AreDecisionPlaces m ps) → ((ps : List ℕ) → d ≡ Some ps → AreInputPlaces m ps)
    → (a >>= λ w. b >>= λ x. c >>= λ y. d >>= λ z. Some (record { outputs = w; encapsulated = x; input_decisions = y; input_data = z })) ≡ Some q
    → ArePlacesOf m q
four_lists m None b c d q f g h i e = cc
four_lists m (Some w) None c d q f g h i e = cc
four_lists m (Some w) (Some x) None d q f g h i e = cc
four_lists m (Some w) (Some x) (Some y) None q f g h i e = cc
four_lists m (Some w) (Some x) (Some y) (Some z) q f g h i e =
    let placed : PlacedService = record { outputs = w; encapsulated = x; input_decisions = y; input_data = z } in
    let same : placed ≡ q = cc in
    subst (λ (r : PlacedService). ArePlacesOf m r) same (record { outputs = f w refl; encapsulated = g x refl; input_decisions = h y refl; input_data = i z refl })

service_within : (m : Draft) (s : Service) (q : PlacedService) → placed_service m s ≡ Some q → ArePlacesOf m q
service_within m s q e =
    let decisions = λ (ns : List Name) (ps : List ℕ) (f : each (decision_place m) ns ≡ Some ps).
    all_given (decision_place m) (λ p. (length m.inputs ≤ p) × (p < length (value_names m))) (decision_within m) ns ps f
    in
    four_lists m (each (decision_place m) s.outputs) (each (decision_place m) s.encapsulated) (each (decision_place m) s.input_decisions) (each (input_place m) s.input_data) q
    (decisions s.outputs) (decisions s.encapsulated) (decisions s.input_decisions)
    (all_given (input_place m) (λ p. p < length m.inputs) (λ n p f. place_within m.inputs n p f) s.input_data) e

pub service_inside : (m : Draft) (s : Service) (o : Option ServicePlaces) → option_map placed_service_view o ≡ placed_service m s → IfSome o (λ p. ArePlacesOf m (placed_service_view p))
service_inside m s None e = tt
service_inside m s (Some p) e = service_within m s (placed_service_view p) (sym e)
