-- Contexts of distinct names that have other numbers of entries are not equal.
use Rattle.std.proofs.Common.{◌≡◌, ℕ, Bool, true, false, ◌&&◌, ◌||◌, Option, is_some, List, [], ◌∷◌, length, map, refl, sym, ap, ◌∙◌, bytes_eq}
use Rattle.std.specs.Cmp.{IsEquivalence}
use Rattle.std.specs.Set.{is_member}
use Rattle.std.proofs.lemmas.List.{length-map}
use Rattle.std.proofs.lemmas.Map.Made.{length-from_same_keys}
use Rattle.std.proofs.lemmas.Slice.Eq.{bytes_eq-Decides}
use Rattle.feel_value.specs.Datum.{Datum, context, Entries, no_entries, entry}
use Rattle.feel_value.specs.Limits.{has_name, names_differ, entries_distinct, keeps_limits, is_value}
use Rattle.feel_value.specs.Logic.{is_yes}
use Rattle.feel_value.specs.Comparison.{equal, values_equal, names_within, has_entry}
use Rattle.feel_value.specs.Sizes.{size_of}
use Rattle.feel_value.specs.View.{entries_view}
use Rattle.feel_value.specs.declared.size.Size.{Size}
use Rattle.feel_value.proofs.Entries.{Entry}
use Rattle.feel_value.proofs.Booleans.{both_true}
use Rattle.feel_value.proofs.Laws.{no_entry}
use Rattle.feel_value.proofs.ByName.{name_of, flipped, distinct_names}

-- a context that is a value has distinct names
pub sized_distinct : (es : Entries) (o : Option Size) → o ≡ size_of (context es) → is_some o ≡ true → names_differ es ≡ true
sized_distinct es o e h = go (is_value (context es)) refl (sym (ap is_some e) ∙ h)
  where
    go : (b : Bool) → is_value (context es) ≡ b → is_some (size_of (context es)) ≡ true → names_differ es ≡ true
    go true f g = (both_true (names_differ es) (entries_distinct es) (both_true (keeps_limits (context es)) (names_differ es && entries_distinct es) f).1).0
    go false f g =
        let none : is_some (size_of (context es)) ≡ false = rw f in
        cc

-- each name of the first is one of the second
abbrev Within : Entries → Entries → Type 0
Within ds es = (n : List ℕ) → has_name n ds ≡ true → has_name n es ≡ true

one_within : (m n : List ℕ) (ds es : Entries) → has_name m es ≡ true → Within ds es → (bytes_eq n m || has_name n ds) ≡ true → has_name n es ≡ true
one_within m n ds es h rest e = go (bytes_eq n m) refl e
  where
    go : (b : Bool) → bytes_eq n m ≡ b → (b || has_name n ds) ≡ true → has_name n es ≡ true
    go true same f = ap (λ k. has_name k es) ((bytes_eq-Decides n m).0 same) ∙ h
    go false other f = rest n f

all_within : (ds es : Entries) → names_within ds es ≡ true → Within ds es
all_within no_entries es h n e = cc
all_within (entry m d ds) es h n e =
    let p = both_true (has_name m es) (names_within ds es) h in
    one_within m n ds es p.0 (all_within ds es p.1) e

entry_has_name : (test : Datum → Bool) (n : List ℕ) (es : Entries) → has_entry test n es ≡ true → has_name n es ≡ true
entry_has_name test n es h = go (has_name n es) refl
  where
    go : (b : Bool) → has_name n es ≡ b → has_name n es ≡ true
    go true e = e
    go false e = let none : has_entry test n es ≡ false = no_entry test n es e in cc

equal_within : (ds es : Entries) → values_equal ds es ≡ true → Within ds es
equal_within no_entries es h n e = cc
equal_within (entry m d ds) es h n e =
    let test : Datum → Bool = λ x. is_yes (equal d x) in
    let p = both_true (has_entry test m es) (values_equal ds es) h in
    one_within m n ds es (entry_has_name test m es p.0) (equal_within ds es p.1) e

both_ways : (a b : Bool) → (a ≡ true → b ≡ true) → (b ≡ true → a ≡ true) → a ≡ b
both_ways true b f g = sym (f refl)
both_ways false true f g = g refl
both_ways false false f g = refl

names_equivalent : IsEquivalence bytes_eq
names_equivalent =
    record {
      refl = λ k. (bytes_eq-Decides k k).1 refl;
      symm = flipped;
      congr = λ k l m e. ap (λ n. bytes_eq n m) ((bytes_eq-Decides k l).0 e);
    }

has_name-member : (n : List ℕ) (xs : List Entry) → is_member bytes_eq (map name_of xs) n ≡ has_name n (entries_view xs)
has_name-member n [] = refl
has_name-member n (x ∷ xs) = ap (λ b. bytes_eq n (name_of x) || b) (has_name-member n xs)

-- where both have the same distinct names they have as many
same_count : (xs ys : List Entry) → names_differ (entries_view xs) ≡ true → names_differ (entries_view ys) ≡ true → Within (entries_view xs) (entries_view ys) → Within (entries_view ys) (entries_view xs)
    → length xs ≡ length ys
same_count xs ys d e f g =
    let same : (n : List ℕ) → is_member bytes_eq (map name_of xs) n ≡ is_member bytes_eq (map name_of ys) n =
    λ n. has_name-member n xs ∙ both_ways (has_name n (entries_view xs)) (has_name n (entries_view ys)) (f n) (g n) ∙ sym (has_name-member n ys) in
    sym (length-map xs name_of)
    ∙ length-from_same_keys names_equivalent (map name_of xs) (map name_of ys) (distinct_names xs d) (distinct_names ys e) same
    ∙ length-map ys name_of

pub other_counts : (xs ys : List Entry) → names_differ (entries_view xs) ≡ true → names_differ (entries_view ys) ≡ true → (length xs ≡ length ys → ⊥)
    → (values_equal (entries_view xs) (entries_view ys) && names_within (entries_view ys) (entries_view xs)) ≡ false
other_counts xs ys d e other = go (values_equal (entries_view xs) (entries_view ys) && names_within (entries_view ys) (entries_view xs)) refl
  where
    go : (b : Bool) → (values_equal (entries_view xs) (entries_view ys) && names_within (entries_view ys) (entries_view xs)) ≡ b
        → (values_equal (entries_view xs) (entries_view ys) && names_within (entries_view ys) (entries_view xs)) ≡ false
    go false h = h
    go true h =
        let p = both_true (values_equal (entries_view xs) (entries_view ys)) (names_within (entries_view ys) (entries_view xs)) h in
        absurd (other (same_count xs ys d e (equal_within (entries_view xs) (entries_view ys) p.0) (all_within (entries_view ys) (entries_view xs) p.1)))
