-- Where a name has no place.
use Rattle.std.proofs.Common.{◌≡◌, ℕ, ◌+◌, suc, List, [], ◌∷◌, ◌++◌, map, length, Option, Some, None, option_map, is_none, refl, sym, ap, ap₂, ◌∙◌, Bool, true, false, not, ◌||◌, if◌then◌else◌}
use Rattle.std.specs.Prelude.{bytes_eq}
use Rattle.std.specs.List.{list_any}
use Rattle.std.proofs.lemmas.List.Folds.{list_any-append}
use Rattle.dmn_form.specs.Model.{Name, Service}
use Rattle.dmn_form.specs.Draft.{Draft}
use Rattle.feel_value.specs.Found.{◌>>=◌, each}
use Rattle.dmn_names.specs.Parts.{decision_names, value_names}
use Rattle.dmn_names.specs.Names.{has_unknown_name}
use Rattle.feel_value.specs.Distinct.{is_among}
use Rattle.dmn_names.specs.Places.{place_among, input_place, decision_place, value_place, needed_places, needs_by_place, placed_service, has_stranger}

pub none_mapped : {X Y : Type 0} (f : X → Y) (o : Option X) → is_none (option_map f o) ≡ is_none o
none_mapped f None = refl
none_mapped f (Some x) = refl

none_or : (b c : Bool) (o : Option ℕ) → is_none o ≡ not c → is_none (if b then Some 0 else option_map suc o) ≡ not (b || c)
none_or true c o e = refl
none_or false c o e = none_mapped suc o ∙ e

-- a name has no place where it is not among the names
no_place : (ns : List Name) (n : Name) → is_none (place_among ns n) ≡ not (is_among ns n)
no_place [] n = refl
no_place (m ∷ ms) n = none_or (bytes_eq n m) (is_among ms n) (place_among ms n) (no_place ms n)

none_then : {X Y : Type 0} (o : Option X) (p : Option (List Y)) (f : X → List Y → List Y) → is_none (o >>= λ y. p >>= λ ys. Some (f y ys)) ≡ (is_none o || is_none p)
none_then None p f = refl
none_then (Some x) None f = refl
none_then (Some x) (Some ys) f = refl

-- not each has something where one has nothing
not_each : {X Y : Type 0} (f : X → Option Y) (xs : List X) → is_none (each f xs) ≡ list_any (λ x. is_none (f x)) xs
not_each f [] = refl
not_each f (x ∷ xs) = none_then (f x) (each f xs) (λ y ys. y ∷ ys) ∙ ap (λ b. is_none (f x) || b) (not_each f xs)

same_any : {X : Type 0} (p q : X → Bool) → ((x : X) → p x ≡ q x) → (xs : List X) → list_any p xs ≡ list_any q xs
same_any p q h [] = refl
same_any p q h (x ∷ xs) = ap₂ (λ a b. a || b) (h x) (same_any p q h xs)

no_places : (f : Name → Option ℕ) (known : List Name) → ((n : Name) → is_none (f n) ≡ not (is_among known n)) → (ns : List Name) → is_none (each f ns) ≡ list_any (λ n. not (is_among known n)) ns
no_places f known h ns = not_each f ns ∙ same_any (λ n. is_none (f n)) (λ n. not (is_among known n)) h ns

behind : {X : Type 0} (xs : List X) (o : Option (List X)) → is_none (o >>= λ ys. Some (xs ++ ys)) ≡ is_none o
behind xs None = refl
behind xs (Some ys) = refl

pub unknown_where_none : (m : Draft) → is_none (needs_by_place m) ≡ has_unknown_name m
unknown_where_none m =
    behind (map (λ n. []) m.inputs) (needed_places m)
    ∙ not_each (λ d. each (value_place m) d.needs) m.decisions
    ∙ same_any (λ d. is_none (each (value_place m) d.needs)) (λ d. list_any (λ n. not (is_among (value_names m) n)) d.needs)
    (λ d. no_places (value_place m) (value_names m) (no_place (value_names m)) d.needs) m.decisions

no_decision : (m : Draft) (n : Name) → is_none (decision_place m n) ≡ not (is_among (decision_names m) n)
no_decision m n = none_mapped (λ i. length m.inputs + i) (place_among (decision_names m) n) ∙ no_place (decision_names m) n

none_of_four : {X Y : Type 0} (a b c d : Option X) (f : X → X → X → X → Y)
    → is_none (a >>= λ w. b >>= λ x. c >>= λ y. d >>= λ z. Some (f w x y z)) ≡ (((is_none a || is_none b) || is_none c) || is_none d)
none_of_four None b c d f = refl
none_of_four (Some w) None c d f = refl
none_of_four (Some w) (Some x) None d f = refl
none_of_four (Some w) (Some x) (Some y) None f = refl
none_of_four (Some w) (Some x) (Some y) (Some z) f = refl

in_three : (p : Name → Bool) (xs ys zs : List Name) → list_any p (xs ++ ys ++ zs) ≡ ((list_any p xs || list_any p ys) || list_any p zs)
in_three p xs ys zs = list_any-append p (xs ++ ys) zs ∙ ap (λ b. b || list_any p zs) (list_any-append p xs ys)

pub stranger_where_none : (m : Draft) (s : Service) → is_none (placed_service m s) ≡ has_stranger m s
stranger_where_none m s =
    let decided = no_places (decision_place m) (decision_names m) (no_decision m) in
    none_of_four (each (decision_place m) s.outputs) (each (decision_place m) s.encapsulated) (each (decision_place m) s.input_decisions) (each (input_place m) s.input_data)
    (λ w x y z. record { outputs = w; encapsulated = x; input_decisions = y; input_data = z })
    ∙ ap₂ (λ a b. a || b)
    (ap₂ (λ a b. a || b) (ap₂ (λ a b. a || b) (decided s.outputs) (decided s.encapsulated)) (decided s.input_decisions)
    ∙ sym (in_three (λ n. not (is_among (decision_names m) n)) s.outputs s.encapsulated s.input_decisions))
    (no_places (input_place m) m.inputs (no_place m.inputs) s.input_data)
