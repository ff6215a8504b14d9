-- The room that the first members of a list leave to the others.
use Rattle.std.proofs.Common.{◌≡◌, ℕ, ◌-◌, Bool, true, false, ◌&&◌, nat_le, if◌then◌else◌, Option, Some, None, is_some, option_and_then, List, [], ◌∷◌, ◌++◌, refl, sym, ap, ap₂, ◌∙◌, arith, true≢false}
use Rattle.std.proofs.lemmas.Bool.Decides.{nat_tests}
use Rattle.feel_value.specs.Datum.{Datum, list, Items, no_items, item, items_of}
use Rattle.feel_value.specs.Limits.{keeps_limits, is_value, names_distinct, items_distinct}
use Rattle.feel_value.proofs.Places.{fits, left_of, items_left_of, items_left_of-item, left_of-list}

-- these members before the others
abbrev pub behind : List Datum → Items → Items
behind [] es = es
behind (d ∷ ds) es = item d (behind ds es)

pub behind-push : (ds : List Datum) (d : Datum) (es : Items) → behind ds (item d es) ≡ behind (ds ++ d ∷ []) es
behind-push [] d es = refl
behind-push (x ∷ xs) d es = ap (item x) (behind-push xs d es)

pub behind-end : (ds : List Datum) → behind ds no_items ≡ items_of ds
behind-end [] = refl
behind-end (x ∷ xs) = ap (item x) (behind-end xs)

pub behind-append : (ds fs : List Datum) → items_of (ds ++ fs) ≡ behind ds (items_of fs)
behind-append [] fs = refl
behind-append (x ∷ xs) fs = ap (item x) (behind-append xs fs)

-- members that are there leave this room to the others
in_turn : (f : ℕ → Option ℕ) (g : ℕ → Option ℕ) (o : Option ℕ) → option_and_then (λ q. option_and_then g (f q)) o ≡ option_and_then g (option_and_then f o)
in_turn f g None = refl
in_turn f g (Some q) = refl

zero_least : (n : ℕ) → nat_le 0 n ≡ true
zero_least n = grind (arith, nat_tests)

none_off : (n : ℕ) → n - 0 ≡ n
none_off n = omega arith

all_left : (levels places : ℕ) → items_left_of no_items levels places ≡ Some places
all_left levels places = ap₂ (λ a b. if a && b then Some (places - 0) else None) (zero_least levels) (zero_least places) ∙ ap Some (none_off places)

each_same : (f g : ℕ → Option ℕ) (h : (q : ℕ) → f q ≡ g q) (o : Option ℕ) → option_and_then f o ≡ option_and_then g o
each_same f g h None = refl
each_same f g h (Some q) = h q

left_behind : (ds : List Datum) (es : Items) (levels places : ℕ)
    → items_left_of (behind ds es) levels places ≡ option_and_then (λ q. items_left_of es levels q) (items_left_of (items_of ds) levels places)
left_behind [] es levels places = ap (option_and_then (λ q. items_left_of es levels q)) (sym (all_left levels places))
left_behind (x ∷ xs) es levels places =
    items_left_of-item x (behind xs es) levels places
    ∙ each_same (λ q. items_left_of (behind xs es) levels q) (λ q. option_and_then (λ r. items_left_of es levels r) (items_left_of (items_of xs) levels q)) (λ q. left_behind xs es levels q) (left_of x levels places)
    ∙ in_turn (λ q. items_left_of (items_of xs) levels q) (λ q. items_left_of es levels q) (left_of x levels places)
    ∙ ap (option_and_then (λ q. items_left_of es levels q)) (sym (items_left_of-item x (items_of xs) levels places))

and_assoc : (a b c : Bool) → ((a && b) && c) ≡ (a && (b && c))
and_assoc true b c = refl
and_assoc false b c = refl

-- names are distinct where they are in each member
distinct_behind : (ds : List Datum) (es : Items) → items_distinct (behind ds es) ≡ (items_distinct (items_of ds) && items_distinct es)
distinct_behind [] es = refl
distinct_behind (x ∷ xs) es = ap (λ b. names_distinct x && b) (distinct_behind xs es) ∙ sym (and_assoc (names_distinct x) (items_distinct (items_of xs)) (items_distinct es))

pub both : (a b : Bool) → (a && b) ≡ true → (a ≡ true) × (b ≡ true)
both true b h = (refl, h)
both false b h = absurd (true≢false (sym h))

-- whether a list is a value, by the room that its members leave
some_if : (b : Bool) (n : ℕ) → is_some (if b then Some n else None) ≡ b
some_if true n = refl
some_if false n = refl

limits_by_room : (xs : Items) → keeps_limits (list xs) ≡ is_some (items_left_of xs 99 9999)
limits_by_room xs = sym (some_if (fits (list xs) 100 10000) _) ∙ ap is_some (left_of-list xs 100 10000 (omega arith) (omega arith))

-- a list that begins with too much is no value
some_before : (f : ℕ → Option ℕ) (o : Option ℕ) → is_some (option_and_then f o) ≡ true → is_some o ≡ true
some_before f None h = h
some_before f (Some q) h = refl

pub limits_begin : (ds : List Datum) (es : Items) → keeps_limits (list (behind ds es)) ≡ true → keeps_limits (list (items_of ds)) ≡ true
limits_begin ds es h = limits_by_room (items_of ds) ∙ some_before _ _ (sym (ap is_some (left_behind ds es 99 9999)) ∙ sym (limits_by_room (behind ds es)) ∙ h)

begins : (ds : List Datum) (es : Items) → is_value (list (behind ds es)) ≡ true → is_value (list (items_of ds)) ≡ true
begins ds es h =
    let p = both (keeps_limits (list (behind ds es))) (items_distinct (behind ds es)) h in
    let q = both (items_distinct (items_of ds)) (items_distinct es) (sym (distinct_behind ds es) ∙ p.1) in
    ap₂ (λ a b. a && b) (limits_begin ds es p.0) q.0

pub by_begin : (a b : Bool) → (a ≡ true → b ≡ true) → b ≡ false → a ≡ false
by_begin true b f h = sym (f refl) ∙ h
by_begin false b f h = refl

pub too_much : (ds : List Datum) (es : Items) → is_value (list (items_of ds)) ≡ false → is_value (list (behind ds es)) ≡ false
too_much ds es h = by_begin (is_value (list (behind ds es))) (is_value (list (items_of ds))) (begins ds es) h
