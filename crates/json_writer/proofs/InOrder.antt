-- A context's entries in the order of their names are the members of its object.
use Rattle.std.proofs.Common.{◌≡◌, ℕ, Bool, true, false, ◌&&◌, not, if◌then◌else◌, List, [], ◌∷◌, Option, Some, None, option_map, Bor, refl, sym, ap, ap₂, ◌∙◌, bytes_eq, Ordering, Less, Equal, Greater, is_lt, is_eq, true≢false}
use Rattle.std.specs.Ordering.{match_ordering, ordering_reverse}
use Rattle.std.specs.List.{AllByRecursion}
use Rattle.std.specs.List.Sorted.{IsPermutation, IsSortedBy}
use Rattle.std.proofs.lemmas.Cmp.{nat_list_cmp_total}
use Rattle.std.proofs.lemmas.List.Elements.{All-from_recursion, recursion_from_All}
use Rattle.std.proofs.lemmas.List.Sorted.{IsPermutation-sym, All-permutation}
use Rattle.std.proofs.lemmas.Map.Text.{is_eq-slice_cmp}
use Rattle.std.proofs.lemmas.Slice.Eq.{bytes_eq-Decides}
use Rattle.serde_json.specs.Data.{Data, Members, no_members, member, put}
use Rattle.serde_json.specs.Find.{get_member}
use Rattle.serde_json.proofs.Views.{get_member-put, get_member-put_other}
use Rattle.feel_value.specs.Datum.{Datum, Entries, no_entries, entry, value_at}
use Rattle.feel_value.specs.Json.{json_of, json_members}
use Rattle.feel_value.specs.JsonKeys.{is_before, in_order}
use Rattle.feel_value.specs.Limits.{has_name, names_differ}
use Rattle.feel_value.specs.Names.{names_rise, rises_after, lent}
use Rattle.feel_value.specs.View.{datum_of, entries_view}
use Rattle.feel_value.proofs.Booleans.{both_true, both_false, not_true}
use Rattle.feel_value.proofs.ByName.{name_of, flipped, first_by_name, falls_repeats, names_differ-IsPermutation}
use Rattle.feel_value.proofs.DistinctNames.{cmp, after_both, rise_differ}
use Rattle.feel_value.proofs.Entries.{Entry}
use Rattle.json_writer.specs.InOrder.{as_they_stand}

-- ---- what is found at a name

put_found : (n m : List ℕ) (d : Datum) (es : Entries) (b : Bool) → bytes_eq n m ≡ b → get_member n (json_members es) ≡ option_map json_of (value_at n es)
    → get_member n (put m (json_of d) (json_members es)) ≡ option_map json_of (if b then Some d else value_at n es)
put_found n m d es true same rest = ap (λ k. get_member k (put m (json_of d) (json_members es))) ((bytes_eq-Decides n m).0 same) ∙ get_member-put m (json_of d) (json_members es)
put_found n m d es false other rest = get_member-put_other n m (json_of d) (json_members es) (λ e. true≢false (sym ((bytes_eq-Decides n m).1 e) ∙ other)) ∙ rest

found_in_object : (n : List ℕ) (es : Entries) → get_member n (json_members es) ≡ option_map json_of (value_at n es)
found_in_object n no_entries = refl
found_in_object n (entry m d es) = put_found n m d es (bytes_eq n m) refl (found_in_object n es)

found_here : (o : Ordering) (d : Data) (rest : Option Data) → match_ordering o rest (Some d) rest ≡ (if is_eq o then Some d else rest)
found_here Less d rest = refl
found_here Equal d rest = refl
found_here Greater d rest = refl

if_mapped : (b : Bool) (d : Datum) (o : Option Datum) → (if b then Some (json_of d) else option_map json_of o) ≡ option_map json_of (if b then Some d else o)
if_mapped true d o = refl
if_mapped false d o = refl

found_as_they_stand : (n : List ℕ) (es : Entries) → get_member n (as_they_stand es) ≡ option_map json_of (value_at n es)
found_as_they_stand n no_entries = refl
found_as_they_stand n (entry m d es) =
    found_here (cmp n m) (json_of d) _ ∙ ap₂ (λ b r. if b then Some (json_of d) else r) (is_eq-slice_cmp n m) (found_as_they_stand n es) ∙ if_mapped (bytes_eq n m) d (value_at n es)

-- ---- members in order

less : (o : Ordering) → is_lt o ≡ true → o ≡ Less
less Less e = refl
less Equal e = cc
less Greater e = cc

turned : (k l : List ℕ) → cmp k l ≡ Greater → is_lt (cmp l k) ≡ true
turned k l e = ap is_lt (nat_list_cmp_total.antisymm l k ∙ ap ordering_reverse e)

before_both : (k l : List ℕ) (ms : Members) → is_lt (cmp k l) ≡ true → is_before l ms ≡ true → is_before k ms ≡ true
before_both k l no_members e h = refl
before_both k l (member m d ms) e h =
    let p = both_true (is_lt (cmp l m)) (is_before l ms) h in
    ap₂ (λ a b. a && b) (ap is_lt (nat_list_cmp_total.trans k l m (less (cmp k l) e) (less (cmp l m) p.0))) (before_both k l ms e p.1)

chosen : (P : Members → Type 0) (o : Ordering) (a b c : Members) → P a → P b → P c → P (match_ordering o a b c)
chosen P Less a b c p q r = p
chosen P Equal a b c p q r = q
chosen P Greater a b c p q r = r

put_after : (k l : List ℕ) (d : Data) (ms : Members) → is_lt (cmp k l) ≡ true → is_before k ms ≡ true → is_before k (put l d ms) ≡ true
put_after k l d no_members e h = ap (λ b. b && true) e
put_after k l d (member m c ms) e h =
    let p = both_true (is_lt (cmp k m)) (is_before k ms) h in
    chosen (λ ns. is_before k ns ≡ true) (cmp l m) (member l d (member m c ms)) (member m d ms) (member m c (put l d ms))
    (ap₂ (λ a b. a && b) e h) h (ap₂ (λ a b. a && b) p.0 (put_after k l d ms e p.1))

put_in_order : (l : List ℕ) (d : Data) (ms : Members) → in_order ms ≡ true → in_order (put l d ms) ≡ true
put_in_order l d no_members h = refl
put_in_order l d (member m c ms) h = go (cmp l m) refl (put_in_order l d ms)
  where
    go : (o : Ordering) → cmp l m ≡ o → (in_order ms ≡ true → in_order (put l d ms) ≡ true)
        → in_order (match_ordering o (member l d (member m c ms)) (member m d ms) (member m c (put l d ms))) ≡ true
    go Less e rest =
        let first : is_lt (cmp l m) ≡ true = ap is_lt e in
        let p = both_true (is_before m ms) (in_order ms) h in
        ap₂ (λ a b. a && b) (ap₂ (λ a b. a && b) first (before_both l m ms first p.0)) h
    go Equal e rest = h
    go Greater e rest =
        let p = both_true (is_before m ms) (in_order ms) h in
        ap₂ (λ a b. a && b) (put_after m l d ms (turned l m e) p.0) (rest p.1)

object_in_order : (es : Entries) → in_order (json_members es) ≡ true
object_in_order no_entries = refl
object_in_order (entry n d es) = put_in_order n (json_of d) (json_members es) (object_in_order es)

stand_after : (k : List ℕ) (es : Entries) → rises_after k es ≡ true → is_before k (as_they_stand es) ≡ true
stand_after k no_entries h = refl
stand_after k (entry n d es) h =
    let p = both_true (is_lt (cmp k n)) (rises_after n es) h in
    ap₂ (λ a b. a && b) p.0 (stand_after k es (after_both k n es p.0 p.1))

stand_in_order_after : (k : List ℕ) (es : Entries) → rises_after k es ≡ true → in_order (as_they_stand es) ≡ true
stand_in_order_after k no_entries h = refl
stand_in_order_after k (entry n d es) h =
    let p = both_true (is_lt (cmp k n)) (rises_after n es) h in
    ap₂ (λ a b. a && b) (stand_after n es p.1) (stand_in_order_after n es p.1)

stand_in_order : (es : Entries) → names_rise es ≡ true → in_order (as_they_stand es) ≡ true
stand_in_order no_entries h = refl
stand_in_order (entry n d es) h = ap₂ (λ a b. a && b) (stand_after n es h) (stand_in_order_after n es h)

-- ---- members in order are those that are found

none_before : (k : List ℕ) (ms : Members) → is_before k ms ≡ true → get_member k ms ≡ None
none_before k no_members h = refl
none_before k (member l d ms) h =
    let p = both_true (is_lt (cmp k l)) (is_before k ms) h in
    ap (λ o. match_ordering o (get_member k ms) (Some d) (get_member k ms)) (less (cmp k l) p.0) ∙ none_before k ms p.1

first_found : (k : List ℕ) (d : Data) (ms : Members) → get_member k (member k d ms) ≡ Some d
first_found k d ms = found_here (cmp k k) d (get_member k ms) ∙ ap (λ b. if b then Some d else get_member k ms) (is_eq-slice_cmp k k ∙ (bytes_eq-Decides k k).1 refl)

later_found : (q k : List ℕ) (d : Data) (ms : Members) (b : Bool) → bytes_eq q k ≡ b → b ≡ false → get_member q (member k d ms) ≡ get_member q ms
later_found q k d ms b e f = found_here (cmp q k) d (get_member q ms) ∙ ap (λ a. if a then Some d else get_member q ms) (is_eq-slice_cmp q k ∙ e ∙ f)

same_data : (c d : Data) → Some c ≡ Some d → c ≡ d
same_data c d e = cc

same_rest : (k : List ℕ) (c d : Data) (ms ns : Members) → is_before k ms ≡ true → is_before k ns ≡ true
    → ((q : List ℕ) → get_member q (member k c ms) ≡ get_member q (member k d ns)) → (q : List ℕ) → get_member q ms ≡ get_member q ns
same_rest k c d ms ns h g found q = go (bytes_eq q k) refl
  where
    go : (b : Bool) → bytes_eq q k ≡ b → get_member q ms ≡ get_member q ns
    go true e = let same : q ≡ k = (bytes_eq-Decides q k).0 e in ap (λ p. get_member p ms) same ∙ none_before k ms h ∙ sym (ap (λ p. get_member p ns) same ∙ none_before k ns g)
    go false e = sym (later_found q k c ms (bytes_eq q k) refl e) ∙ found q ∙ later_found q k d ns (bytes_eq q k) refl e

no_first : (k l : List ℕ) (c d : Data) (ms ns : Members) → is_lt (cmp k l) ≡ true → is_before l ns ≡ true → get_member k (member k c ms) ≡ get_member k (member l d ns) → ⊥
no_first k l c d ms ns e h same =
    let none : get_member k (member l d ns) ≡ None = none_before k (member l d ns) (ap₂ (λ a b. a && b) e (before_both k l ns e h)) in
    let wrong : Some c ≡ None = sym (first_found k c ms) ∙ same ∙ none in
    cc

same_members : (ms ns : Members) → in_order ms ≡ true → in_order ns ≡ true → ((q : List ℕ) → get_member q ms ≡ get_member q ns) → ms ≡ ns
same_members no_members no_members h g found = refl
same_members no_members (member l d ns) h g found = let wrong : None ≡ Some d = found l ∙ first_found l d ns in cc
same_members (member k c ms) no_members h g found = let wrong : Some c ≡ None = sym (first_found k c ms) ∙ found k in cc
same_members (member k c ms) (member l d ns) h g found = go (cmp k l) refl (same_members ms ns p.1 q.1)
  where
    p : (is_before k ms ≡ true) × (in_order ms ≡ true)
    p = both_true (is_before k ms) (in_order ms) h

    q : (is_before l ns ≡ true) × (in_order ns ≡ true)
    q = both_true (is_before l ns) (in_order ns) g

    go : (o : Ordering) → cmp k l ≡ o → (((n : List ℕ) → get_member n ms ≡ get_member n ns) → ms ≡ ns) → member k c ms ≡ member l d ns
    go Less e rest = absurd (no_first k l c d ms ns (ap is_lt e) q.0 (found k))
    go Greater e rest = absurd (no_first l k d c ns ms (turned k l e) p.0 (sym (found l)))
    go Equal e rest =
        let same : k ≡ l = (bytes_eq-Decides k l).0 (sym (is_eq-slice_cmp k l) ∙ ap is_eq e) in
        let ns_after : is_before k ns ≡ true = ap (λ n. is_before n ns) same ∙ q.0 in
        let here : (n : List ℕ) → get_member n (member k c ms) ≡ get_member n (member k d ns) = λ n. found n ∙ ap (λ m. get_member n (member m d ns)) (sym same) in
        let value : c ≡ d = same_data c d (sym (first_found k c ms) ∙ here k ∙ first_found k d ns) in
        ap (λ x. member k x ms) value ∙ ap (λ x. member k d x) (rest (same_rest k c d ms ns p.0 ns_after here)) ∙ ap (λ m. member m d ns) same

-- ---- in any order

-- each of the entries is found at its name
abbrev AreFound : List Entry → List Entry → Type 0
AreFound among es = AllByRecursion (λ (e : Entry). value_at (name_of e) (entries_view among) ≡ Some (datum_of e.1)) es

found_later : (x : Entry) (among es : List Entry) → has_name (name_of x) (entries_view es) ≡ false → AreFound among es → AreFound (x ∷ among) es
found_later x among [] h found = tt
found_later x among (e ∷ es) h found =
    let p = both_false (bytes_eq (name_of x) (name_of e)) (has_name (name_of x) (entries_view es)) h in
    (ap (λ b. if b then Some (datum_of x.1) else value_at (name_of e) (entries_view among)) (flipped (name_of e) (name_of x) ∙ p.0) ∙ found.0, found_later x among es p.1 found.1)

all_found : (es : List Entry) → names_differ (entries_view es) ≡ true → AreFound es es
all_found [] h = tt
all_found (x ∷ xs) h =
    let p = both_true (not (has_name (name_of x) (entries_view xs))) (names_differ (entries_view xs)) h in
    (ap (λ b. if b then Some (datum_of x.1) else value_at (name_of x) (entries_view xs)) ((bytes_eq-Decides (name_of x) (name_of x)).1 refl), found_later x xs xs (not_true _ p.0) (all_found xs p.1))

found_among : (n : List ℕ) (among es : List Entry) → AreFound among es → (d : Datum) → value_at n (entries_view es) ≡ Some d → value_at n (entries_view among) ≡ Some d
found_among n among [] found d e = cc
found_among n among (x ∷ xs) found d e = go (bytes_eq n (name_of x)) refl (found_among n among xs found.1 d)
  where
    go : (b : Bool) → bytes_eq n (name_of x) ≡ b → (value_at n (entries_view xs) ≡ Some d → value_at n (entries_view among) ≡ Some d) → value_at n (entries_view among) ≡ Some d
    go true same rest =
        ap (λ m. value_at m (entries_view among)) ((bytes_eq-Decides n (name_of x)).0 same) ∙ found.0
        ∙ sym (ap (λ b. if b then Some (datum_of x.1) else value_at n (entries_view xs)) same) ∙ e
    go false other rest = rest (sym (ap (λ b. if b then Some (datum_of x.1) else value_at n (entries_view xs)) other) ∙ e)

moved_found : (xs ys : List Entry) → IsPermutation xs ys → names_differ (entries_view xs) ≡ true → AreFound xs ys
moved_found xs ys p h =
    let P : Entry → Type 0 = λ e. value_at (name_of e) (entries_view xs) ≡ Some (datum_of e.1) in
    recursion_from_All P ys (All-permutation P xs ys p (All-from_recursion P xs (all_found xs h)))

same_found : (xs ys : List Entry) → IsPermutation xs ys → names_differ (entries_view xs) ≡ true → (n : List ℕ) → value_at n (entries_view xs) ≡ value_at n (entries_view ys)
same_found xs ys p h n = go (value_at n (entries_view xs)) refl (value_at n (entries_view ys)) refl
  where
    there : (d : Datum) → value_at n (entries_view ys) ≡ Some d → value_at n (entries_view xs) ≡ Some d
    there = found_among n xs ys (moved_found xs ys p h)

    back : (d : Datum) → value_at n (entries_view xs) ≡ Some d → value_at n (entries_view ys) ≡ Some d
    back = found_among n ys xs (moved_found ys xs (IsPermutation-sym xs ys p) (sym (names_differ-IsPermutation xs ys p) ∙ h))

    go : (a : Option Datum) → value_at n (entries_view xs) ≡ a → (b : Option Datum) → value_at n (entries_view ys) ≡ b → a ≡ b
    go None e None f = refl
    go (Some c) e b f = sym (back c e) ∙ f
    go None e (Some d) f = sym e ∙ there d f

-- entries whose names rise are, as they stand, the members of the object that they are in any order
pub are_members : (xs ys : List Entry) → IsPermutation xs ys → names_rise (entries_view ys) ≡ true → as_they_stand (entries_view ys) ≡ json_members (entries_view xs)
are_members xs ys p rise =
    let differ : names_differ (entries_view xs) ≡ true = names_differ-IsPermutation xs ys p ∙ rise_differ (entries_view ys) rise in
    same_members (as_they_stand (entries_view ys)) (json_members (entries_view xs)) (stand_in_order (entries_view ys) rise) (object_in_order (entries_view xs))
    (λ n. found_as_they_stand n (entries_view ys) ∙ ap (option_map json_of) (sym (same_found xs ys p differ n)) ∙ sym (found_in_object n (entries_view xs)))

-- distinct names that are sorted rise
pub sorted_rise : (es : List Entry) (loans : List (Bor Entry)) → IsPermutation es (lent loans) → IsSortedBy first_by_name loans → names_differ (entries_view es) ≡ true → names_rise (entries_view (lent loans)) ≡ true
sorted_rise es loans p s h = go (names_rise (entries_view (lent loans))) refl
  where
    go : (b : Bool) → names_rise (entries_view (lent loans)) ≡ b → b ≡ true
    go true e = refl
    go false e = absurd (true≢false (sym h ∙ names_differ-IsPermutation es (lent loans) p ∙ falls_repeats loans s e))
