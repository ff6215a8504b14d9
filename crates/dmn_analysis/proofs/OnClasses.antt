-- Comparisons with the values of a class.
use Rattle.std.proofs.Common.{◌≡◌, ◌∙◌, sym, ap, refl, ℤ, ℕ, List, [], ◌∷◌, length, Bool, true, false, not, arith}
use Rattle.std.specs.Prelude.{int_le, int_lt, ◌<ℤ◌, ◌≤ℤ◌, bytes_eq}
use Rattle.std.specs.Arc.{arc_str_bytes}
use Rattle.std.specs.List.{list_any}
use Rattle.std.specs.Ordering.{int_cmp, is_eq}
use Rattle.std.specs.declared.alloc.Global.{Global}
use Rattle.std.specs.declared.sync.ArcStr.{ArcStr}
use Rattle.std.proofs.lemmas.Int.{ints}
use Rattle.std.proofs.lemmas.Slice.Eq.{bytes_eq-Decides}
use Rattle.feel_text.specs.Satisfied.{is_in}
use Rattle.feel_value.proofs.Booleans.{both_true, or_false}
use Rattle.feel_value.specs.Comparison.{equal, less, bool_eq}
use Rattle.feel_value.specs.Datum.{Datum, null, boolean, number, text, list, context}
use Rattle.feel_value.specs.Logic.{is_yes, decided}
use Rattle.feel_value.specs.declared.logic.Truth.TheVariants.{Yes, No, Unknown}
use Rattle.dmn_analysis.specs.Classes.{is_list, is_number_in, is_other_text, is_parted, is_same, is_within, is_word}

-- ---- one value

same_bool : (b c : Bool) → bool_eq b c ≡ true → c ≡ b
same_bool true true h = refl
same_bool true false h = cc
same_bool false true h = cc
same_bool false false h = refl

pub same_value : (d v : Datum) → is_same d v ≡ true → v ≡ d
same_value null null h = refl
same_value null (boolean c) h = cc
same_value null (number z) h = cc
same_value null (text t) h = cc
same_value null (list ds) h = cc
same_value null (context es) h = cc
same_value (boolean b) null h = cc
same_value (boolean b) (boolean c) h = ap boolean (same_bool b c h)
same_value (boolean b) (number z) h = cc
same_value (boolean b) (text t) h = cc
same_value (boolean b) (list ds) h = cc
same_value (boolean b) (context es) h = cc
same_value (text s) null h = cc
same_value (text s) (boolean c) h = cc
same_value (text s) (number z) h = cc
same_value (text s) (text t) h = ap text (sym ((bytes_eq-Decides s t).0 h))
same_value (text s) (list ds) h = cc
same_value (text s) (context es) h = cc
same_value (number z) v h = cc
same_value (list ds) v h = cc
same_value (context es) v h = cc

-- ---- numbers

pub below_number : (low high n : ℤ) (v : Datum) → high <ℤ n → is_number_in low high v ≡ true → less v (number n) ≡ Yes
below_number low high n (number z) k h = let e : int_lt z n ≡ true = grind (arith, ints, k, h) in ap decided e
below_number low high n null k h = cc
below_number low high n (boolean b) k h = cc
below_number low high n (text s) k h = cc
below_number low high n (list ds) k h = cc
below_number low high n (context es) k h = cc

pub not_below_number : (low high n : ℤ) (v : Datum) → n ≤ℤ low → is_number_in low high v ≡ true → less v (number n) ≡ No
not_below_number low high n (number z) k h = let e : int_lt z n ≡ false = grind (arith, ints, k, h) in ap decided e
not_below_number low high n null k h = cc
not_below_number low high n (boolean b) k h = cc
not_below_number low high n (text s) k h = cc
not_below_number low high n (list ds) k h = cc
not_below_number low high n (context es) k h = cc

pub above_number : (low high n : ℤ) (v : Datum) → n <ℤ low → is_number_in low high v ≡ true → less (number n) v ≡ Yes
above_number low high n (number z) k h = let e : int_lt n z ≡ true = grind (arith, ints, k, h) in ap decided e
above_number low high n null k h = cc
above_number low high n (boolean b) k h = cc
above_number low high n (text s) k h = cc
above_number low high n (list ds) k h = cc
above_number low high n (context es) k h = cc

pub not_above_number : (low high n : ℤ) (v : Datum) → high ≤ℤ n → is_number_in low high v ≡ true → less (number n) v ≡ No
not_above_number low high n (number z) k h = let e : int_lt n z ≡ false = grind (arith, ints, k, h) in ap decided e
not_above_number low high n null k h = cc
not_above_number low high n (boolean b) k h = cc
not_above_number low high n (text s) k h = cc
not_above_number low high n (list ds) k h = cc
not_above_number low high n (context es) k h = cc

-- a number to what is none
pub number_to_other : (low high : ℤ) (v : Datum) → is_number_in low high v ≡ true → (z : ℤ) × (v ≡ number z) × (int_le low z ≡ true) × (int_le z high ≡ true)
number_to_other low high (number z) h = (z, refl, grind (arith, ints, h), grind (arith, ints, h))
number_to_other low high null h = cc
number_to_other low high (boolean b) h = cc
number_to_other low high (text s) h = cc
number_to_other low high (list ds) h = cc
number_to_other low high (context es) h = cc

pub equal_number : (low high n : ℤ) (v : Datum) → low ≡ high → low ≤ℤ n → n ≤ℤ high → is_number_in low high v ≡ true → is_yes (equal v (number n)) ≡ true
equal_number low high n (number z) e k l h = let s : is_eq (int_cmp z n) ≡ true = grind (arith, ints, e, k, l, h) in ap (λ b. is_yes (decided b)) s
equal_number low high n null e k l h = cc
equal_number low high n (boolean b) e k l h = cc
equal_number low high n (text s) e k l h = cc
equal_number low high n (list ds) e k l h = cc
equal_number low high n (context es) e k l h = cc

pub outside_below : (low high n : ℤ) (v : Datum) → n <ℤ low → is_number_in low high v ≡ true → is_yes (equal v (number n)) ≡ false
outside_below low high n (number z) k h = let s : is_eq (int_cmp z n) ≡ false = grind (arith, ints, k, h) in ap (λ b. is_yes (decided b)) s
outside_below low high n null k h = cc
outside_below low high n (boolean b) k h = cc
outside_below low high n (text s) k h = cc
outside_below low high n (list ds) k h = cc
outside_below low high n (context es) k h = cc

pub outside_above : (low high n : ℤ) (v : Datum) → high <ℤ n → is_number_in low high v ≡ true → is_yes (equal v (number n)) ≡ false
outside_above low high n (number z) k h = let s : is_eq (int_cmp z n) ≡ false = grind (arith, ints, k, h) in ap (λ b. is_yes (decided b)) s
outside_above low high n null k h = cc
outside_above low high n (boolean b) k h = cc
outside_above low high n (text s) k h = cc
outside_above low high n (list ds) k h = cc
outside_above low high n (context es) k h = cc

-- ---- texts

-- what is another text is a text
pub is_a_text : (ts : List (ArcStr Global)) (v : Datum) → is_other_text ts v ≡ true → (s : List ℕ) × (v ≡ text s) × (list_any (λ t. bytes_eq s (arc_str_bytes t)) ts ≡ false)
is_a_text ts (text s) h = (s, refl, go (list_any (λ t. bytes_eq s (arc_str_bytes t)) ts) h)
  where
    go : (b : Bool) → not b ≡ true → b ≡ false
    go true e = cc
    go false e = refl
is_a_text ts null h = cc
is_a_text ts (boolean b) h = cc
is_a_text ts (number z) h = cc
is_a_text ts (list ds) h = cc
is_a_text ts (context es) h = cc

-- another text isn't equal to one of these
pub not_equal_text : (ts : List (ArcStr Global)) (t : List ℕ) (v : Datum) → list_any (λ u. bytes_eq t (arc_str_bytes u)) ts ≡ true → is_other_text ts v ≡ true → is_yes (equal v (text t)) ≡ false
not_equal_text ts t v among other = let found = is_a_text ts v other in ap (λ d. is_yes (equal d (text t))) found.1 ∙ go found.0 found.2 (bytes_eq found.0 t) refl
  where
    go : (s : List ℕ) → list_any (λ u. bytes_eq s (arc_str_bytes u)) ts ≡ false → (b : Bool) → bytes_eq s t ≡ b → is_yes (decided (bytes_eq s t)) ≡ false
    go s none false e = ap (λ b. is_yes (decided b)) e
    go s none true e =
        let there : true ≡ false = sym among ∙ ap (λ x. list_any (λ u. bytes_eq x (arc_str_bytes u)) ts) (sym ((bytes_eq-Decides s t).0 e)) ∙ none in cc

-- what is one of these texts is a text
pub is_a_word : (ts : List (ArcStr Global)) (v : Datum) → is_word ts v ≡ true → (s : List ℕ) × (v ≡ text s) × (list_any (λ t. bytes_eq s (arc_str_bytes t)) ts ≡ true) × (is_within ts s ≡ true)
is_a_word ts (text s) h = let parts = both_true (list_any (λ t. bytes_eq s (arc_str_bytes t)) ts) (is_within ts s) h in (s, refl, parts.0, parts.1)
is_a_word ts null h = cc
is_a_word ts (boolean b) h = cc
is_a_word ts (number z) h = cc
is_a_word ts (list ds) h = cc
is_a_word ts (context es) h = cc

-- a text that isn't one of these is equal to none of them
pub not_equal_word : (ts : List (ArcStr Global)) (t : List ℕ) (v : Datum) → list_any (λ u. bytes_eq t (arc_str_bytes u)) ts ≡ false → is_word ts v ≡ true → is_yes (equal v (text t)) ≡ false
not_equal_word ts t v none is = let found = is_a_word ts v is in ap (λ d. is_yes (equal d (text t))) found.1 ∙ go found.0 found.2 (bytes_eq found.0 t) refl
  where
    go : (s : List ℕ) → list_any (λ u. bytes_eq s (arc_str_bytes u)) ts ≡ true → (b : Bool) → bytes_eq s t ≡ b → is_yes (decided (bytes_eq s t)) ≡ false
    go s among false e = ap (λ b. is_yes (decided b)) e
    go s among true e =
        let there : true ≡ false = sym among ∙ ap (λ x. list_any (λ u. bytes_eq x (arc_str_bytes u)) ts) ((bytes_eq-Decides s t).0 e) ∙ none in cc

-- the only one of these texts
only_text : (ts : List (ArcStr Global)) (s t : List ℕ) → length ts ≡ 1 → list_any (λ u. bytes_eq s (arc_str_bytes u)) ts ≡ true → list_any (λ u. bytes_eq t (arc_str_bytes u)) ts ≡ true → s ≡ t
only_text [] s t e a b = cc
only_text (u ∷ []) s t e a b = (bytes_eq-Decides s (arc_str_bytes u)).0 (sym (or_false (bytes_eq s (arc_str_bytes u))) ∙ a) ∙ sym ((bytes_eq-Decides t (arc_str_bytes u)).0 (sym (or_false (bytes_eq t (arc_str_bytes u))) ∙ b))
only_text (u ∷ w ∷ ts) s t e a b = absurd (omega (arith, e))

pub equal_word : (ts : List (ArcStr Global)) (t : List ℕ) (v : Datum) → length ts ≡ 1 → list_any (λ u. bytes_eq t (arc_str_bytes u)) ts ≡ true → is_word ts v ≡ true → is_yes (equal v (text t)) ≡ true
equal_word ts t v one among is =
    let found = is_a_word ts v is in
    ap (λ d. is_yes (equal d (text t))) found.1 ∙ ap (λ b. is_yes (decided b)) ((bytes_eq-Decides found.0 t).1 (only_text ts found.0 t one found.2 among))

-- ---- lists and contexts

pub parted_below : (d v : Datum) → is_parted v ≡ true → less v d ≡ Unknown
parted_below d (list ds) h = refl
parted_below d (context es) h = refl
parted_below d null h = cc
parted_below d (boolean b) h = cc
parted_below d (number z) h = cc
parted_below d (text s) h = cc

pub parted_above : (d v : Datum) → is_parted v ≡ true → less d v ≡ Unknown
parted_above null v h = refl
parted_above (boolean b) v h = refl
parted_above (list ds) v h = refl
parted_above (context es) v h = refl
parted_above (number z) (list ds) h = refl
parted_above (number z) (context es) h = refl
parted_above (number z) null h = cc
parted_above (number z) (boolean b) h = cc
parted_above (number z) (number y) h = cc
parted_above (number z) (text s) h = cc
parted_above (text t) (list ds) h = refl
parted_above (text t) (context es) h = refl
parted_above (text t) null h = cc
parted_above (text t) (boolean b) h = cc
parted_above (text t) (number y) h = cc
parted_above (text t) (text s) h = cc

pub parted_unequal : (d v : Datum) → is_parted d ≡ false → is_parted v ≡ true → is_yes (equal v d) ≡ false
parted_unequal null (list ds) k h = refl
parted_unequal null (context es) k h = refl
parted_unequal (boolean b) (list ds) k h = refl
parted_unequal (boolean b) (context es) k h = refl
parted_unequal (number z) (list ds) k h = refl
parted_unequal (number z) (context es) k h = refl
parted_unequal (text s) (list ds) k h = refl
parted_unequal (text s) (context es) k h = refl
parted_unequal (list cs) v k h = cc
parted_unequal (context cs) v k h = cc
parted_unequal d null k h = cc
parted_unequal d (boolean b) k h = cc
parted_unequal d (number z) k h = cc
parted_unequal d (text s) k h = cc

pub not_listed : (v d : Datum) → is_list d ≡ false → is_in v d ≡ is_yes (equal v d)
not_listed v null h = or_false (is_yes (equal v null))
not_listed v (boolean b) h = or_false (is_yes (equal v (boolean b)))
not_listed v (number z) h = or_false (is_yes (equal v (number z)))
not_listed v (text s) h = or_false (is_yes (equal v (text s)))
not_listed v (list ds) h = cc
not_listed v (context es) h = or_false (is_yes (equal v (context es)))
