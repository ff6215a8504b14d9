-- Every value is equal to itself, and contexts are compared by the values at their names.
use Rattle.std.proofs.Common.{◌≡◌, ℕ, Bool, true, false, not, ◌&&◌, ◌||◌, if◌then◌else◌, Option, Some, None, List, refl, sym, ap, ap₂, ◌∙◌, bytes_eq}
use Rattle.std.proofs.lemmas.Slice.Eq.{bytes_eq-Decides}
use Rattle.std.proofs.lemmas.Bool.Decides.{Decides-int_eq}
use Rattle.feel_value.specs.Datum.{Datum, null, boolean, number, text, list, context, Items, no_items, item, Entries, no_entries, entry, value_at}
use Rattle.feel_value.specs.Limits.{has_name, names_differ}
use Rattle.feel_value.specs.Logic.{decided, is_yes}
use Rattle.feel_value.specs.Comparison.{equal, items_equal, values_equal, names_within, has_entry, bool_eq}
use Rattle.feel_value.specs.declared.logic.Truth.TheVariants.{Yes}
use Rattle.feel_value.proofs.Booleans.{both_true, second_true, or_false, both_false, not_true}

bool_itself : (b : Bool) → bool_eq b b ≡ true
bool_itself true = refl
bool_itself false = refl

bytes_itself : (s : List ℕ) → bytes_eq s s ≡ true
bytes_itself s = (bytes_eq-Decides s s).1 refl

-- what is among the first is among the second
abbrev AreAmong : Entries → Entries → Type 0
AreAmong ds es = (test : Datum → Bool) (n : List ℕ) → has_entry test n ds ≡ true → has_entry test n es ≡ true

among_rest : (n : List ℕ) (d : Datum) (ds es : Entries) → AreAmong (entry n d ds) es → AreAmong ds es
among_rest n d ds es h test m e = h test m (second_true (bytes_eq m n && test d) (has_entry test m ds) e)

first_found : (test : Datum → Bool) (n : List ℕ) (d : Datum) (ds : Entries) → test d ≡ true → has_entry test n (entry n d ds) ≡ true
first_found test n d ds e = ap₂ (λ a b. (a && b) || has_entry test n ds) (bytes_itself n) e

abbrev pub NamesAreAmong : Entries → Entries → Type 0
NamesAreAmong ds es = (n : List ℕ) → has_name n ds ≡ true → has_name n es ≡ true

pub names_there : (ds es : Entries) → NamesAreAmong ds es → names_within ds es ≡ true
names_there no_entries es h = refl
names_there (entry n d ds) es h =
    ap₂ (λ a b. a && b) (h n (ap (λ a. a || has_name n ds) (bytes_itself n))) (names_there ds es (λ m e. h m (second_true (bytes_eq m n) (has_name m ds) e)))

mutual
  pub equal_itself : (d : Datum) → equal d d ≡ Yes
  equal_itself null = refl
  equal_itself (boolean b) = ap decided (bool_itself b)
  equal_itself (number z) = ap decided ((Decides-int_eq z z).1 refl)
  equal_itself (text s) = ap decided (bytes_itself s)
  equal_itself (list ds) = ap decided (items_itself ds)
  equal_itself (context es) = ap decided (ap₂ (λ a b. a && b) (values_itself es es (λ test n e. e)) (names_there es es (λ n e. e)))

  items_itself : (ds : Items) → items_equal ds ds ≡ true
  items_itself no_items = refl
  items_itself (item d ds) = ap₂ (λ a b. a && b) (ap is_yes (equal_itself d)) (items_itself ds)

  values_itself : (ds es : Entries) → AreAmong ds es → values_equal ds es ≡ true
  values_itself no_entries es h = refl
  values_itself (entry n d ds) es h =
      let test : Datum → Bool = λ e. is_yes (equal d e) in
      ap₂ (λ a b. a && b) (h test n (first_found test n d ds (ap is_yes (equal_itself d)))) (values_itself ds es (among_rest n d ds es h))

pub no_entry : (test : Datum → Bool) (n : List ℕ) (es : Entries) → has_name n es ≡ false → has_entry test n es ≡ false
no_entry test n no_entries h = refl
no_entry test n (entry m d es) h =
    let p = both_false (bytes_eq n m) (has_name n es) h in
    ap₂ (λ a b. (a && test d) || b) p.0 (no_entry test n es p.1)

-- whether there is one, and it passes the test
abbrev pub passes : (Datum → Bool) → Option Datum → Bool
passes test None = false
passes test (Some d) = test d

one_more : (b : Bool) (test : Datum → Bool) (n m : List ℕ) (d : Datum) (es : Entries) → bytes_eq n m ≡ b → has_name m es ≡ false → has_entry test n es ≡ passes test (value_at n es)
    → has_entry test n (entry m d es) ≡ passes test (value_at n (entry m d es))
one_more true test n m d es same missing rest =
    let n_is_m : n ≡ m = (bytes_eq-Decides n m).0 same in
    ap (λ a. (a && test d) || has_entry test n es) same ∙ ap (λ b. test d || b) (no_entry test n es (ap (λ k. has_name k es) n_is_m ∙ missing)) ∙ or_false (test d)
    ∙ sym (ap (λ b. passes test (if b then Some d else value_at n es)) same)
one_more false test n m d es other missing rest =
    ap (λ a. (a && test d) || has_entry test n es) other ∙ rest ∙ sym (ap (λ b. passes test (if b then Some d else value_at n es)) other)

-- Where names are distinct, an entry has the name and passes the test exactly where the value at the name passes it.
pub has_entry-value_at : (test : Datum → Bool) (n : List ℕ) (es : Entries) → names_differ es ≡ true → has_entry test n es ≡ passes test (value_at n es)
has_entry-value_at test n no_entries h = refl
has_entry-value_at test n (entry m d es) h =
    let p = both_true (not (has_name m es)) (names_differ es) h in
    one_more (bytes_eq n m) test n m d es refl (not_true (has_name m es) p.0) (has_entry-value_at test n es p.1)
