-- Comparisons by order with the texts of a class.
use Rattle.std.proofs.Common.{◌≡◌, ◌∙◌, sym, ap, refl, ℕ, ◌-◌, List, length, Bool, true, false, not, inl, inr, Some}
use Rattle.std.specs.Prelude.{bytes_eq}
use Rattle.std.specs.Arc.{arc_str_bytes}
use Rattle.std.specs.List.{slice_get}
use Rattle.std.specs.declared.alloc.Global.{Global}
use Rattle.std.specs.declared.sync.ArcStr.{ArcStr}
use Rattle.std.proofs.lemmas.Bool.{cases_Bool, not-true}
use Rattle.feel_value.proofs.Booleans.{both_true}
use Rattle.feel_value.specs.Comparison.{equal, less}
use Rattle.feel_value.specs.Datum.{Datum, null, boolean, number, text, list, context}
use Rattle.feel_value.specs.Logic.{decided, is_yes}
use Rattle.feel_value.specs.declared.logic.Truth.TheVariants.{Yes, No}
use Rattle.dmn_analysis.specs.Cells.{is_less, is_one_of, is_text_among}
use Rattle.dmn_analysis.specs.Classes.{AreGreaterFrom, AreLessBefore, is_between, is_greater_than, is_less_than, is_within, is_word}
use Rattle.dmn_analysis.specs.declared.cell.Others.TheVariants as others
use Rattle.dmn_analysis.proofs.OnClasses.{is_a_word}
use Rattle.dmn_analysis.proofs.TextOrder.{LiesBetween, less_above, less_back, less_differs, less_past, less_upto, lies}

-- ---- words

-- where the first of the words, or the last, stands to a text
first_of : (ts : List (ArcStr Global)) (s : List ℕ) (w : ArcStr Global) → is_within ts s ≡ true → slice_get ts 0 ≡ Some w → is_less s (arc_str_bytes w) ≡ false
first_of ts s w h there = ap (is_less_than s) (sym there) ∙ not-true (is_less_than s (slice_get ts 0)) (both_true (not (is_less_than s (slice_get ts 0))) (not (is_greater_than s (slice_get ts (length ts - 1)))) h).0

last_of : (ts : List (ArcStr Global)) (s : List ℕ) (w : ArcStr Global) → is_within ts s ≡ true → slice_get ts (length ts - 1) ≡ Some w → is_less (arc_str_bytes w) s ≡ false
last_of ts s w h there = ap (is_greater_than s) (sym there) ∙ not-true (is_greater_than s (slice_get ts (length ts - 1))) (both_true (not (is_less_than s (slice_get ts 0))) (not (is_greater_than s (slice_get ts (length ts - 1)))) h).1

pub past_last : (ts : List (ArcStr Global)) (t s : List ℕ) (w : ArcStr Global) → is_within ts s ≡ true → slice_get ts (length ts - 1) ≡ Some w → is_less (arc_str_bytes w) t ≡ true → is_less s t ≡ true
past_last ts t s w h there less = less_past (arc_str_bytes w) t s (last_of ts s w h there) less

pub short_of_first : (ts : List (ArcStr Global)) (t s : List ℕ) (w : ArcStr Global) → is_within ts s ≡ true → slice_get ts 0 ≡ Some w → is_less t (arc_str_bytes w) ≡ true → is_less t s ≡ true
short_of_first ts t s w h there less = less_upto t (arc_str_bytes w) s less (first_of ts s w h there)

pub upto_first : (ts : List (ArcStr Global)) (t s : List ℕ) (w : ArcStr Global) → is_within ts s ≡ true → slice_get ts 0 ≡ Some w → is_less (arc_str_bytes w) t ≡ false → is_less s t ≡ false
upto_first ts t s w h there not_less = elim (cases_Bool (is_less s t)) [
  | inl e ↦ let other : true ≡ false = sym (less_upto s t (arc_str_bytes w) e not_less) ∙ first_of ts s w h there in cc
  | inr e ↦ e
]

pub from_last : (ts : List (ArcStr Global)) (t s : List ℕ) (w : ArcStr Global) → is_within ts s ≡ true → slice_get ts (length ts - 1) ≡ Some w → is_less t (arc_str_bytes w) ≡ false → is_less t s ≡ false
from_last ts t s w h there not_less = elim (cases_Bool (is_less t s)) [
  | inl e ↦ let other : true ≡ false = sym (less_upto t s (arc_str_bytes w) e (last_of ts s w h there)) ∙ not_less in cc
  | inr e ↦ e
]

pub word_below : (ts : List (ArcStr Global)) (t : List ℕ) (b : Bool) (v : Datum) → ((s : List ℕ) → is_within ts s ≡ true → is_less s t ≡ b) → is_word ts v ≡ true → less v (text t) ≡ decided b
word_below ts t b v all is = let found = is_a_word ts v is in ap (λ d. less d (text t)) found.1 ∙ ap decided (all found.0 found.3)

pub word_above : (ts : List (ArcStr Global)) (t : List ℕ) (b : Bool) (v : Datum) → ((s : List ℕ) → is_within ts s ≡ true → is_less t s ≡ b) → is_word ts v ≡ true → less (text t) v ≡ decided b
word_above ts t b v all is = let found = is_a_word ts v is in ap (less (text t)) found.1 ∙ ap decided (all found.0 found.3)

unequal : (s t : List ℕ) → bytes_eq s t ≡ false → is_yes (equal (text s) (text t)) ≡ false
unequal s t e = ap (λ b. is_yes (decided b)) e

pub word_unequal_less : (ts : List (ArcStr Global)) (t : List ℕ) (v : Datum) → ((s : List ℕ) → is_within ts s ≡ true → is_less s t ≡ true) → is_word ts v ≡ true → is_yes (equal v (text t)) ≡ false
word_unequal_less ts t v all is = let found = is_a_word ts v is in ap (λ d. is_yes (equal d (text t))) found.1 ∙ unequal found.0 t (less_differs found.0 t (all found.0 found.3))

pub word_unequal_greater : (ts : List (ArcStr Global)) (t : List ℕ) (v : Datum) → ((s : List ℕ) → is_within ts s ≡ true → is_less t s ≡ true) → is_word ts v ≡ true → is_yes (equal v (text t)) ≡ false
word_unequal_greater ts t v all is = let found = is_a_word ts v is in ap (λ d. is_yes (equal d (text t))) found.1 ∙ unequal found.0 t (less_above found.0 t (all found.0 found.3))

-- ---- other texts

-- what is between is a text
pub record IsBetween (ts : List (ArcStr Global)) (from to : ℕ) (v : Datum) : Type 0 where
  pub bytes : List ℕ
  pub is : v ≡ text bytes
  pub lies : LiesBetween ts from to bytes
  pub none : is_text_among ts bytes ≡ false

pub told_between : (ts : List (ArcStr Global)) (from to : ℕ) (v : Datum) → is_between ts from to v ≡ true → IsBetween ts from to v
told_between ts from to (text s) h =
    let parts = both_true (is_one_of ts (others.Between from to) s) (not (is_text_among ts s)) h in
    record { bytes = s; is = refl; lies = lies ts from to s parts.0; none = not-true (is_text_among ts s) parts.1 }
told_between ts from to null h = cc
told_between ts from to (boolean b) h = cc
told_between ts from to (number z) h = cc
told_between ts from to (list ds) h = cc
told_between ts from to (context es) h = cc

-- texts that are greater
pub between_greater : (ts : List (ArcStr Global)) (from to : ℕ) (t : List ℕ) (v : Datum) → ((s : List ℕ) → AreLessBefore from s ts → is_less t s ≡ true) → is_between ts from to v ≡ true
    → (less v (text t) ≡ No) × (less (text t) v ≡ Yes)
between_greater ts from to t v greater h =
    let b = told_between ts from to v h in
    let above = greater b.bytes b.lies.above in
    (ap (λ d. less d (text t)) b.is ∙ ap decided (less_back t b.bytes above), ap (less (text t)) b.is ∙ ap decided above)

-- texts that are less
pub between_less : (ts : List (ArcStr Global)) (from to : ℕ) (t : List ℕ) (v : Datum) → ((s : List ℕ) → AreGreaterFrom to s ts → is_less s t ≡ true) → is_between ts from to v ≡ true
    → (less v (text t) ≡ Yes) × (less (text t) v ≡ No)
between_less ts from to t v smaller h =
    let b = told_between ts from to v h in
    let below = smaller b.bytes b.lies.below in
    (ap (λ d. less d (text t)) b.is ∙ ap decided below, ap (less (text t)) b.is ∙ ap decided (less_back b.bytes t below))

-- texts that are less or greater are others
pub unequal_less : (ts : List (ArcStr Global)) (from to : ℕ) (t : List ℕ) (v : Datum) → ((s : List ℕ) → AreGreaterFrom to s ts → is_less s t ≡ true) → is_between ts from to v ≡ true → is_yes (equal v (text t)) ≡ false
unequal_less ts from to t v smaller h =
    let b = told_between ts from to v h in
    ap (λ d. is_yes (equal d (text t))) b.is ∙ unequal b.bytes t (less_differs b.bytes t (smaller b.bytes b.lies.below))

pub unequal_greater : (ts : List (ArcStr Global)) (from to : ℕ) (t : List ℕ) (v : Datum) → ((s : List ℕ) → AreLessBefore from s ts → is_less t s ≡ true) → is_between ts from to v ≡ true → is_yes (equal v (text t)) ≡ false
unequal_greater ts from to t v greater h =
    let b = told_between ts from to v h in
    ap (λ d. is_yes (equal d (text t))) b.is ∙ unequal b.bytes t (less_above b.bytes t (greater b.bytes b.lies.above))
