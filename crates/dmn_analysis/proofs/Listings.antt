-- Constants in order.
use Rattle.std.proofs.Common.{◌≡◌, ◌∙◌, sym, ap, ap₂, refl, subst, ℕ, zero, suc, ◌+◌, ◌-◌, ◌<◌, ◌≤◌, ◌⊎◌, inl, inr, ℤ, List, [], ◌∷◌, length, get_or, Bool, true, false, ◌||◌, Some, arith}
use Rattle.std.specs.Prelude.{◌<ℤ◌, ◌≤ℤ◌, bytes_eq}
use Rattle.std.specs.Arc.{arc_str_bytes}
use Rattle.std.specs.List.{list_any, slice_get, All}
use Rattle.std.specs.declared.alloc.Global.{Global}
use Rattle.std.specs.declared.sync.ArcStr.{ArcStr}
use Rattle.std.proofs.lemmas.Int.{ints}
use Rattle.std.proofs.lemmas.List.Folds.{list_any_at, list_any_none}
use Rattle.std.proofs.lemmas.Option.{get_or_from_slice_get, same_Some, slice_get_within}
use Rattle.std.proofs.lemmas.Slice.Eq.{bytes_eq-Decides}
use Rattle.feel_value.proofs.Booleans.{or_false, second_true}
use Rattle.feel_value.specs.Comparison.{equal}
use Rattle.feel_value.specs.Datum.{Datum, number, text}
use Rattle.feel_value.specs.Logic.{decided, is_yes, or_of}
use Rattle.dmn_analysis.specs.Classes.{AreGreaterFrom, AreLessBefore, is_number_in, is_within, is_word}
use Rattle.dmn_analysis.specs.Listing.{AreRising, is_number_among, is_word_among}
use Rattle.dmn_analysis.proofs.OnClasses.{equal_number, is_a_word, number_to_other, outside_above, outside_below}
use Rattle.dmn_analysis.proofs.OnTexts.{past_last, short_of_first, word_unequal_greater, word_unequal_less}
use Rattle.dmn_analysis.proofs.Places.{All-from_places, below_next, element}

-- ---- numbers

pub rising_upto : (ns : List ℤ) → AreRising ns → (j k : ℕ) (a b : ℤ) → j < k → slice_get ns j ≡ Some a → slice_get ns k ≡ Some b → a ≤ℤ b
rising_upto ns rising j zero a b less here there = absurd (omega (arith, less))
rising_upto ns rising j (suc k) a b less here there =
    let next : slice_get ns (k + 1) ≡ Some b = ap (slice_get ns) (omega arith) ∙ there in
    elim (below_next j k (omega (arith, less))) [
      | inl before ↦
          let m = element ns k (omega (arith, slice_get_within ns (suc k) b there)) in
          let first = rising_upto ns rising j k a m.0 before here m.1 in
          let second = rising k m.0 b m.1 next in
          grind (arith, ints, first, second)
      | inr at ↦ rising k a b (ap (slice_get ns) (sym at) ∙ here) next
    ]

pub less_before : (ns : List ℤ) → AreRising ns → (place : ℕ) (w low : ℤ) → 0 < place → slice_get ns (place - 1) ≡ Some w → w <ℤ low → (k : ℕ) (n : ℤ) → k < place → slice_get ns k ≡ Some n → n <ℤ low
less_before ns rising place w low some there less k n before here = elim (below_next k (place - 1) (omega (arith, some, before))) [
  | inl below ↦ let upto = rising_upto ns rising k (place - 1) n w below here there in grind (arith, ints, upto, less)
  | inr at ↦ subst (λ x. x <ℤ low) (same_Some w n (sym there ∙ ap (slice_get ns) (sym at) ∙ here)) less
]

pub greater_from : (ns : List ℤ) → AreRising ns → (place : ℕ) (w high : ℤ) → slice_get ns place ≡ Some w → high <ℤ w → (k : ℕ) (n : ℤ) → place ≤ k → slice_get ns k ≡ Some n → high <ℤ n
greater_from ns rising place w high there less k n upto here = elim (below_next place k (omega (arith, upto))) [
  | inl before ↦ let more = rising_upto ns rising place k w n before there here in grind (arith, ints, more, less)
  | inr at ↦ subst (λ x. high <ℤ x) (same_Some w n (sym there ∙ ap (slice_get ns) at ∙ here)) less
]

before_or_from : (k place : ℕ) → (k < place) ⊎ (place ≤ k)
before_or_from k zero = inr (omega arith)
before_or_from zero (suc p) = inl (omega arith)
before_or_from (suc k) (suc p) = elim (before_or_from k p) [ inl h ↦ inl (omega (arith, h)) | inr h ↦ inr (omega (arith, h)) ]

numbers_apart : (ns : List ℤ) (place : ℕ) (low high : ℤ) → ((k : ℕ) (n : ℤ) → k < place → slice_get ns k ≡ Some n → n <ℤ low) → ((k : ℕ) (n : ℤ) → place ≤ k → slice_get ns k ≡ Some n → high <ℤ n)
    → (v : Datum) → is_number_in low high v ≡ true → is_number_among ns v ≡ false
numbers_apart ns place low high before after v is = list_any_none (λ n. is_yes (equal v (number n))) ns (All-from_places (λ n. is_yes (equal v (number n)) ≡ false) ns (λ k n here.
    elim (before_or_from k place) [
      | inl below ↦ outside_below low high n v (before k n below here) is
      | inr from ↦ outside_above low high n v (after k n from here) is
    ]))

-- no text is equal to a number
texts_apart : (ts : List (ArcStr Global)) (low high : ℤ) (v : Datum) → is_number_in low high v ≡ true → is_word_among ts v ≡ false
texts_apart ts low high v is =
    let found = number_to_other low high v is in
    ap (is_word_among ts) found.1 ∙ list_any_none (λ t. is_yes (equal (number found.0) (text (arc_str_bytes t)))) ts (λ k d within. refl)

pub none_among : (ns : List ℤ) (ts : List (ArcStr Global)) (place : ℕ) (low high : ℤ) → ((k : ℕ) (n : ℤ) → k < place → slice_get ns k ≡ Some n → n <ℤ low) → ((k : ℕ) (n : ℤ) → place ≤ k → slice_get ns k ≡ Some n → high <ℤ n)
    → (v : Datum) → is_number_in low high v ≡ true → (is_number_among ns v || is_word_among ts v) ≡ false
none_among ns ts place low high before after v is = ap₂ (λ a b. a || b) (numbers_apart ns place low high before after v is) (texts_apart ts low high v is)

pub number_there : (ns : List ℤ) (ts : List (ArcStr Global)) (place : ℕ) (low high : ℤ) → low ≡ high → slice_get ns place ≡ Some low → (v : Datum) → is_number_in low high v ≡ true → (is_number_among ns v || is_word_among ts v) ≡ true
number_there ns ts place low high same there v is =
    let within = slice_get_within ns place low there in
    let here = equal_number low high low v same (grind (arith, ints)) (grind (arith, ints, same)) is in
    ap (λ a. a || is_word_among ts v) (list_any_at (λ n. is_yes (equal v (number n))) ns place low within (ap (λ n. is_yes (equal v (number n))) (get_or_from_slice_get ns place low low there) ∙ here))

-- ---- texts

unequal_texts : (ws ts : List (ArcStr Global)) (place : ℕ) (first last : ArcStr Global) → slice_get ws 0 ≡ Some first → slice_get ws (length ws - 1) ≡ Some last → AreLessBefore place (arc_str_bytes first) ts → AreGreaterFrom place (arc_str_bytes last) ts
    → (v : Datum) → is_word ws v ≡ true → is_word_among ts v ≡ false
unequal_texts ws ts place first last begins ends before after v is = list_any_none (λ t. is_yes (equal v (text (arc_str_bytes t)))) ts (All-from_places (λ t. is_yes (equal v (text (arc_str_bytes t))) ≡ false) ts (λ k t here.
    elim (before_or_from k place) [
      | inl below ↦ word_unequal_greater ws (arc_str_bytes t) v (λ s within. short_of_first ws (arc_str_bytes t) s first within begins (before k t below here)) is
      | inr from ↦ word_unequal_less ws (arc_str_bytes t) v (λ s within. past_last ws (arc_str_bytes t) s last within ends (after k t from here)) is
    ]))

-- no number is equal to a text
numbers_unequal : (ws : List (ArcStr Global)) (ns : List ℤ) (v : Datum) → is_word ws v ≡ true → is_number_among ns v ≡ false
numbers_unequal ws ns v is =
    let found = is_a_word ws v is in
    ap (is_number_among ns) found.1 ∙ list_any_none (λ n. is_yes (equal (text found.0) (number n))) ns (λ k d within. refl)

pub no_word_among : (ws : List (ArcStr Global)) (ns : List ℤ) (ts : List (ArcStr Global)) (place : ℕ) (first last : ArcStr Global) → slice_get ws 0 ≡ Some first → slice_get ws (length ws - 1) ≡ Some last → AreLessBefore place (arc_str_bytes first) ts
    → AreGreaterFrom place (arc_str_bytes last) ts → (v : Datum) → is_word ws v ≡ true → (is_number_among ns v || is_word_among ts v) ≡ false
no_word_among ws ns ts place first last begins ends before after v is = ap₂ (λ a b. a || b) (numbers_unequal ws ns v is) (unequal_texts ws ts place first last begins ends before after v is)

pub word_there : (ws ts : List (ArcStr Global)) (ns : List ℤ) (first : ArcStr Global) → length ws ≡ 1 → slice_get ws 0 ≡ Some first → is_word_among ts (text (arc_str_bytes first)) ≡ true → (v : Datum) → is_word ws v ≡ true → (is_number_among ns v || is_word_among ts v) ≡ true
word_there [] ts ns first one begins among v is = cc
word_there (u ∷ []) ts ns first one begins among v is =
    let found = is_a_word (u ∷ []) v is in
    let same : found.0 ≡ arc_str_bytes u = (bytes_eq-Decides found.0 (arc_str_bytes u)).0 (sym (or_false (bytes_eq found.0 (arc_str_bytes u))) ∙ found.2) in
    let there : v ≡ text (arc_str_bytes first) = found.1 ∙ ap text (same ∙ ap arc_str_bytes (same_Some u first begins)) in
    second_true (is_number_among ns v) (is_word_among ts v) (ap (is_word_among ts) there ∙ among)
word_there (u ∷ w ∷ ws) ts ns first one begins among v is = absurd (omega (arith, one))

-- ---- one constant more

pub decided_or : (a b : Bool) → or_of (decided a) (decided b) ≡ decided (a || b)
decided_or true true = refl
decided_or true false = refl
decided_or false true = refl
decided_or false false = refl
