-- Where no name stands twice, and a service lists decisions and inputs where it may, its parameters are distinct.
use Rattle.std.proofs.Common.{◌≡◌, ℕ, ◌<◌, zero, suc, List, [], ◌∷◌, ◌++◌, length, get_or, refl, sym, ap, ap₂, ◌∙◌, Bool, true, false, not, ◌&&◌, ◌||◌, arith}
use Rattle.std.specs.Prelude.{bytes_eq}
use Rattle.std.specs.List.{list_any, flat_map}
use Rattle.std.proofs.lemmas.List.Folds.{list_any-append}
use Rattle.std.proofs.lemmas.Slice.Eq.{bytes_eq-Decides}
use Rattle.dmn_form.specs.Model.{Name, Service}
use Rattle.dmn_form.specs.Draft.{Draft}
use Rattle.dmn_names.specs.Parts.{decision_names, value_names, service_names, part_lists, service_lists, decision_lists}
use Rattle.dmn_names.specs.Names.{have_twice, has_name_twice}
use Rattle.feel_value.specs.Distinct.{is_among, are_distinct}
use Rattle.dmn_names.specs.Places.{has_stranger}
use Rattle.dmn_names.proofs.NamesBack.{both, not_so, so}

neither : (a b : Bool) → (a || b) ≡ false → (a ≡ false) × (b ≡ false)
neither true b e = cc
neither false b e = (refl, e)

or_true : (a b : Bool) → b ≡ true → (a || b) ≡ true
or_true true b e = refl
or_true false b e = e

true_or : (a b : Bool) → a ≡ true → (a || b) ≡ true
true_or a b e = ap (λ c. c || b) e

-- a test that nothing of the whole passes, nothing of a part passes
none_in_part : {X Y : Type 0} (p : Y → Bool) (f : X → List Y) (xs : List X) (i : ℕ) (d : X) → list_any p (flat_map f xs) ≡ false → i < length xs → list_any p (f (get_or xs i d)) ≡ false
none_in_part p f [] i d e l = absurd (omega arith)
none_in_part p f (x ∷ xs) zero d e l = (neither (list_any p (f x)) (list_any p (flat_map f xs)) (sym (list_any-append p (f x) (flat_map f xs)) ∙ e)).0
none_in_part p f (x ∷ xs) (suc i) d e l =
    let lt : i < length xs = omega arith in
    none_in_part p f xs i d ((neither (list_any p (f x)) (list_any p (flat_map f xs)) (sym (list_any-append p (f x) (flat_map f xs)) ∙ e)).1) lt

-- no name stands twice in a list of a service
pub distinct_lists : (m : Draft) (i : ℕ) (d : Service) → has_name_twice m ≡ false → i < length m.services → list_any have_twice (service_lists (get_or m.services i d)) ≡ false
distinct_lists m i d e l =
    let parts = (neither (have_twice (service_names m)) (list_any have_twice (part_lists m)) ((neither (have_twice (value_names m)) _ e).1)).1 in
    none_in_part have_twice service_lists m.services i d
    ((neither (list_any have_twice (flat_map decision_lists m.decisions)) (list_any have_twice (flat_map service_lists m.services))
    (sym (list_any-append have_twice (flat_map decision_lists m.decisions) (flat_map service_lists m.services)) ∙ parts)).1) l

same_or_later : (b : Bool) (n x : Name) (xs ys : List Name) → (b ≡ true → n ≡ x) → is_among (xs ++ ys) x ≡ false → is_among ys n ≡ true → is_among xs n ≡ false → (b || is_among xs n) ≡ false
same_or_later true n x xs ys h e t f =
    let there : is_among (xs ++ ys) x ≡ true = list_any-append (bytes_eq x) xs ys ∙ or_true (is_among xs x) (is_among ys x) (ap (is_among ys) (sym (h refl)) ∙ t) in
    cc
same_or_later false n x xs ys h e t f = f

-- in a list of distinct names a later part has none of an earlier one
not_before : (xs ys : List Name) (n : Name) → are_distinct (xs ++ ys) ≡ true → is_among ys n ≡ true → is_among xs n ≡ false
not_before [] ys n e t = refl
not_before (x ∷ xs) ys n e t =
    let parts = both (not (is_among (xs ++ ys) x)) (are_distinct (xs ++ ys)) e in
    same_or_later (bytes_eq n x) n x xs ys ((bytes_eq-Decides n x).0) (not_so (is_among (xs ++ ys) x) parts.0) t (not_before xs ys n parts.1 t)

known_or_later : (b : Bool) (n q : Name) (known ns : List Name) → (b ≡ true → q ≡ n) → not (is_among known n) ≡ false → (is_among ns q ≡ true → is_among known q ≡ true) → (b || is_among ns q) ≡ true → is_among known q ≡ true
known_or_later true n q known ns h k g t = ap (is_among known) (h refl) ∙ so (is_among known n) k
known_or_later false n q known ns h k g t = g t

-- where none is unknown, each is known
all_known : (known ns : List Name) (q : Name) → list_any (λ n. not (is_among known n)) ns ≡ false → is_among ns q ≡ true → is_among known q ≡ true
all_known known [] q e t = cc
all_known known (n ∷ ns) q e t =
    let parts = neither (not (is_among known n)) (list_any (λ n. not (is_among known n)) ns) e in
    known_or_later (bytes_eq q n) n q known ns ((bytes_eq-Decides q n).0) parts.0 (all_known known ns q parts.1) t

-- two lists of distinct names that share none
distinct_together : (xs ys : List Name) → are_distinct xs ≡ true → are_distinct ys ≡ true → ((n : Name) → is_among xs n ≡ true → is_among ys n ≡ false) → are_distinct (xs ++ ys) ≡ true
distinct_together [] ys d e h = e
distinct_together (x ∷ xs) ys d e h =
    let parts = both (not (is_among xs x)) (are_distinct xs) d in
    let alone : is_among (xs ++ ys) x ≡ false =
    list_any-append (bytes_eq x) xs ys
    ∙ ap₂ (λ a b. a || b) (not_so (is_among xs x) parts.0) (h x (true_or (bytes_eq x x) (is_among xs x) ((bytes_eq-Decides x x).1 refl)))
    in
    ap₂ (λ a b. not a && b) alone (distinct_together xs ys parts.1 e (λ n t. h n (or_true (bytes_eq n x) (is_among xs n) t)))

not_both : (b c : Bool) → (b ≡ true → c ≡ true) → c ≡ false → b ≡ false
not_both true c h t = sym (h refl) ∙ t
not_both false c h t = refl

-- the parameters of a service, its input decisions and its input data, are distinct
pub distinct_parameters : (m : Draft) (s : Service) → are_distinct (value_names m) ≡ true → list_any have_twice (service_lists s) ≡ false → has_stranger m s ≡ false
    → are_distinct (s.input_decisions ++ s.input_data) ≡ true
distinct_parameters m s values lists known =
    let of_values = neither (list_any (λ n. not (is_among (decision_names m) n)) (s.outputs ++ s.encapsulated ++ s.input_decisions)) (list_any (λ n. not (is_among m.inputs n)) s.input_data) known in
    let decisions : list_any (λ n. not (is_among (decision_names m) n)) s.input_decisions ≡ false =
    (neither (list_any (λ n. not (is_among (decision_names m) n)) (s.outputs ++ s.encapsulated)) _ (sym (list_any-append (λ n. not (is_among (decision_names m) n)) (s.outputs ++ s.encapsulated) s.input_decisions) ∙ of_values.0)).1
    in
    let others = (neither (have_twice s.encapsulated) _ ((neither (have_twice s.outputs) _ lists).1)).1 in
    let taken = neither (have_twice s.input_decisions) (have_twice s.input_data || false) others in
    let data_twice = neither (have_twice s.input_data) false taken.1 in
    distinct_together s.input_decisions s.input_data (so (are_distinct s.input_decisions) taken.0) (so (are_distinct s.input_data) data_twice.0)
    (λ n t.
    not_both (is_among s.input_data n) (is_among m.inputs n) (all_known m.inputs s.input_data n of_values.1)
    (not_before m.inputs (decision_names m) n values (all_known (decision_names m) s.input_decisions n decisions t)))
