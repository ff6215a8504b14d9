-- Names that rise are distinct; other names are looked for, entry by entry.
use Rattle.std.proofs.Common.{◌≡◌, ℕ, ◌+◌, ◌-◌, ◌<◌, Bool, true, false, ◌&&◌, ◌||◌, not, bytes_eq, if◌then◌else◌, Option, Some, None, is_some, option_map, List, length, get_or, take, drop, refl, sym, ap, ap₂, ◌∙◌, Ordering, Less, Equal, Greater, is_lt, is_eq, nat_cmp}
use Rattle.std.specs.Arc.{arc_str_bytes}
use Rattle.std.proofs.lemmas.Cmp.{nat_list_cmp_total}
use Rattle.std.proofs.lemmas.List.{take_rest}
use Rattle.std.proofs.lemmas.Map.Text.{is_eq-slice_cmp}
use Rattle.std.specs.Cmp.Lexicographic.{slice_cmp}
use Rattle.feel_value.specs.Datum.{Datum, Entries, no_entries, entry, value_at}
use Rattle.feel_value.specs.Limits.{has_name, names_differ}
use Rattle.feel_value.specs.Names.{rises_after, names_rise}
use Rattle.feel_value.specs.View.{entries_view}
use Rattle.feel_value.proofs.Entries.{Entry, entries_from}
use Rattle.feel_value.proofs.Booleans.{both_true}

abbrev pub cmp : List ℕ → List ℕ → Ordering
cmp = slice_cmp nat_cmp

less_by_test : (o : Ordering) → is_lt o ≡ true → o ≡ Less
less_by_test Less e = refl
less_by_test Equal e = cc
less_by_test Greater e = cc

-- a name that is before another is not that one
pub other_name : (k l : List ℕ) → is_lt (cmp k l) ≡ true → bytes_eq k l ≡ false
other_name k l e = sym (is_eq-slice_cmp k l) ∙ ap is_eq (less_by_test (cmp k l) e)

before_both : (k l m : List ℕ) → is_lt (cmp k l) ≡ true → is_lt (cmp l m) ≡ true → is_lt (cmp k m) ≡ true
before_both k l m d e = ap is_lt (nat_list_cmp_total.trans k l m (less_by_test (cmp k l) d) (less_by_test (cmp l m) e))

pub after_both : (k n : List ℕ) (es : Entries) → is_lt (cmp k n) ≡ true → rises_after n es ≡ true → rises_after k es ≡ true
after_both k n no_entries e h = refl
after_both k n (entry m d es) e h =
    let p = both_true (is_lt (cmp n m)) (rises_after m es) h in
    ap₂ (λ a b. a && b) (before_both k n m e p.0) p.1

pub missing : (k : List ℕ) (es : Entries) → rises_after k es ≡ true → has_name k es ≡ false
missing k no_entries h = refl
missing k (entry n d es) h =
    let p = both_true (is_lt (cmp k n)) (rises_after n es) h in
    ap₂ (λ a b. a || b) (other_name k n p.0) (missing k es (after_both k n es p.0 p.1))

after_differ : (k : List ℕ) (es : Entries) → rises_after k es ≡ true → names_differ es ≡ true
after_differ k no_entries h = refl
after_differ k (entry n d es) h =
    let p = both_true (is_lt (cmp k n)) (rises_after n es) h in
    ap₂ (λ a b. not a && b) (missing n es p.1) (after_differ n es p.1)

-- names that rise differ
pub rise_differ : (es : Entries) → names_rise es ≡ true → names_differ es ≡ true
rise_differ no_entries h = refl
rise_differ (entry n d es) h = ap₂ (λ a b. not a && b) (missing n es h) (after_differ n es h)

found : (b : Bool) (d : Datum) (h : Bool) (o : Option Datum) → h ≡ is_some o → (b || h) ≡ is_some (if b then Some d else o)
found true d h o e = refl
found false d h o e = e

pub has_name-value_at : (n : List ℕ) (es : Entries) → has_name n es ≡ is_some (value_at n es)
has_name-value_at n no_entries = refl
has_name-value_at n (entry m d es) = found (bytes_eq n m) d _ _ (has_name-value_at n es)

pub some_mapped : {X : Type 0} (f : X → Datum) (o : Option X) → is_some (option_map f o) ≡ is_some o
some_mapped f None = refl
some_mapped f (Some x) = refl

-- looking the name up finds something where it is a name of the entries
pub is_found : {X : Type 0} (f : X → Datum) (o : Option X) (n : List ℕ) (es : Entries) → option_map f o ≡ value_at n es → is_some o ≡ has_name n es
is_found f o n es e = sym (some_mapped f o) ∙ ap is_some e ∙ sym (has_name-value_at n es)

-- the entry at hand has a name of a later one, or only the later ones matter
pub differ_step : {X : Type 0} (f : X → Datum) (xs : List Entry) (i : ℕ) (x : Entry) (o : Option X) (name : List ℕ) → x ≡ get_or xs i x → i < length xs → name ≡ arc_str_bytes x.0
    → option_map f o ≡ value_at name (entries_view (take (length xs - (i + 1)) (drop (i + 1) xs)))
    → names_differ (entries_view (drop i xs)) ≡ (not (is_some o) && names_differ (entries_view (drop (i + 1) xs)))
differ_step f xs i x o name e h named found =
    ap names_differ (entries_from xs i x e h)
    ∙ ap (λ b. not b && names_differ (entries_view (drop (i + 1) xs)))
    (ap (λ n. has_name n (entries_view (drop (i + 1) xs))) (sym named) ∙ ap (λ ys. has_name name (entries_view ys)) (sym (take_rest xs (i + 1)))
    ∙ sym (is_found f o name (entries_view (take (length xs - (i + 1)) (drop (i + 1) xs))) found))
