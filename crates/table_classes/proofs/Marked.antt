-- Rules whose bits are set in the words of the classes that they may meet.
use Rattle.std.proofs.Common.{◌≡◌, ◌∙◌, sym, ap, refl, subst, ℕ, ℤ, Bool, ◌&&◌, ◌+◌, ◌<◌, ◌≤◌, List, length, true, false, Some, arith, inl, inr}
use Rattle.std.specs.List.{slice_get}
use Rattle.std.specs.Int.{bit_at}
use Rattle.std.specs.Prelude.{int_le, int_lt}
use Rattle.std.proofs.lemmas.Bool.{cases_lt}
use Rattle.std.proofs.lemmas.Int.{ints}
use Rattle.std.proofs.lemmas.Option.{get_or_from_slice_get, slice_get_within}
use Rattle.feel_value.specs.Datum.{Datum, null, boolean, number, text, list, context}
use Rattle.feel_text.specs.Classes.{is_in_class}
use Rattle.feel_text.specs.Sieves.{lets_through}
use Rattle.feel_text.specs.Tests.{Tests}
use Rattle.feel_text.specs.declared.class.Class.{Class}
use Rattle.feel_text.specs.declared.class.Class.TheVariants as class
use Rattle.feel_text.specs.declared.sieve.Sieve.{Sieve}
use Rattle.feel_text.specs.declared.sieve.Sieve.TheVariants as sieve
use Rattle.table_classes.specs.Classes.{IsSieveAt, MissesAt, TellsBlock}
use Rattle.table_classes.specs.Spans.{IsUnsetAt, Stops, class_at, is_above, is_below}
use Rattle.table_classes.specs.Unbroken.{KeepLimits}

-- ## What a sieve of numbers stops

both_yes : (a b : Bool) → (a && b) ≡ true → (a ≡ true) × (b ≡ true)
both_yes true true e = (refl, refl)
both_yes true false e = cc
both_yes false b e = cc

number_below : (low high a b z : ℤ) → int_lt b low ≡ true → int_le z b ≡ true → (int_le low z && int_le z high) ≡ false
number_below low high a b z below within = let no : int_le low z ≡ false = grind (arith, ints) in ap (λ t. t && int_le z high) no

number_above : (low high a b z : ℤ) → int_lt high a ≡ true → int_le a z ≡ true → (int_le low z && int_le z high) ≡ false
number_above low high a b z above within = let no : int_le z high ≡ false = grind (arith, ints) in ap (λ t. int_le low z && t) no ∙ and_no (int_le low z)
  where
    and_no : (t : Bool) → (t && false) ≡ false
    and_no true = refl
    and_no false = refl

-- what is no number is stopped
stops_others : (low high : ℤ) (c : Class) (v : Datum) → ((z : ℤ) → v ≡ number z → lets_through (sieve.Numbers low high) (number z) ≡ false) → lets_through (sieve.Numbers low high) v ≡ false
stops_others low high c null h = refl
stops_others low high c (boolean t) h = refl
stops_others low high c (number z) h = h z refl
stops_others low high c (text s) h = refl
stops_others low high c (list ds) h = refl
stops_others low high c (context es) h = refl

stops_below : (low high : ℤ) (c : Class) → is_below low c ≡ true → Stops (sieve.Numbers low high) c
stops_below low high (class.Numbers a b) below = record {
  narrow = refl;
  stops = λ v inside. stops_others low high (class.Numbers a b) v
      (λ z is. number_below low high a b z below (both_yes (int_le a z) (int_le z b) (subst (λ d. is_in_class (class.Numbers a b) d ≡ true) is inside)).1);
}
stops_below low high (class.Texts m) below = record { narrow = refl; stops = λ v inside. stops_others low high (class.Texts m) v (λ z is. let none : false ≡ true = subst (λ d. is_in_class (class.Texts m) d ≡ true) is inside in cc) }
stops_below low high (class.Truth t) below = record { narrow = refl; stops = λ v inside. stops_others low high (class.Truth t) v (λ z is. let none : false ≡ true = subst (λ d. is_in_class (class.Truth t) d ≡ true) is inside in cc) }
stops_below low high class.Null below = record { narrow = refl; stops = λ v inside. stops_others low high class.Null v (λ z is. let none : false ≡ true = subst (λ d. is_in_class class.Null d ≡ true) is inside in cc) }

stops_above : (low high : ℤ) (c : Class) → is_above high c ≡ true → Stops (sieve.Numbers low high) c
stops_above low high (class.Numbers a b) above = record {
  narrow = refl;
  stops = λ v inside. stops_others low high (class.Numbers a b) v
      (λ z is. number_above low high a b z above (both_yes (int_le a z) (int_le z b) (subst (λ d. is_in_class (class.Numbers a b) d ≡ true) is inside)).0);
}
stops_above low high (class.Texts m) above = stops_below low high (class.Texts m) refl
stops_above low high (class.Truth t) above = stops_below low high (class.Truth t) refl
stops_above low high class.Null above = stops_below low high class.Null refl

-- a class that the sieve of an entry stops misses it
pub missed : (column : ℕ) (rule : List Tests) (s : Sieve) (c : Class) → IsSieveAt column rule s → Stops s c → MissesAt c column rule
missed column rule s c is stopped = let has = is stopped.narrow in record { entry = has.entry; there = has.there; misses = λ v m valid inside. has.stops v m valid (stopped.stops v inside) }

-- among the classes from one place to another are all that a span of numbers may meet
pub spanned : (classes : List Class) (low high : ℤ) (from to k : ℕ) (c : Class) → ((j : ℕ) → j < from → is_below low (class_at classes j) ≡ true) → ((j : ℕ) → to ≤ j → is_above high (class_at classes j) ≡ true)
    → (from ≤ k → k < to → ⊥) → slice_get classes k ≡ Some c → Stops (sieve.Numbers low high) c
spanned classes low high from to k c below above unset there =
    let here : class_at classes k ≡ c = get_or_from_slice_get classes k c class.Null there in
    elim (cases_lt k from) [
      | inl before ↦ stops_below low high c (ap (is_below low) (sym here) ∙ below k before)
      | inr more ↦ elim (cases_lt k to) [
        | inl inside ↦ absurd (unset more inside)
        | inr past ↦ stops_above low high c (ap (is_above high) (sym here) ∙ above k past)
      ]
    ]

-- ## One rule after another

-- of so many rules, each whose bit isn't set in the word of a class is missed by the class
abbrev pub TellsMarked : ℕ → List (List Tests) → ℕ → List Class → List ℕ → Type 0
TellsMarked n rules column classes words = (k i : ℕ) (c : Class) (rule : List Tests) → i < n → slice_get classes k ≡ Some c → slice_get rules i ≡ Some rule → IsUnsetAt words k i → MissesAt c column rule

pub marked_more : (n : ℕ) (rules : List (List Tests)) (column : ℕ) (classes : List Class) (old new : List ℕ) (last : List Tests) → TellsMarked n rules column classes old
    → ((k i : ℕ) → IsUnsetAt new k i → IsUnsetAt old k i) → slice_get rules n ≡ Some last
    → ((k : ℕ) (c : Class) → slice_get classes k ≡ Some c → IsUnsetAt new k n → MissesAt c column last) → TellsMarked (n + 1) rules column classes new
marked_more n rules column classes old new last h kept at told k i c rule less has there unset =
    elim (cases_lt i n) [
      | inl before ↦ h k i c rule before has there (kept k i unset)
      | inr more ↦
          let here : i ≡ n = omega (arith, less, more) in
          let same : last ≡ rule = same_rule (sym at ∙ ap (slice_get rules) (sym here) ∙ there) in
          subst (MissesAt c column) same (told k c has (subst (IsUnsetAt new k) here unset))
    ]
  where
    same_rule : Some last ≡ Some rule → last ≡ rule
    same_rule e = cc

-- at first each word has the bits of the rules that may break a limit
pub block_told_by : (n : ℕ) (rules : List (List Tests)) (column : ℕ) (classes : List Class) (words : List ℕ) → TellsMarked n rules column classes words → ((i : ℕ) → i < 64 → i < length rules → i < n)
    → ((k i : ℕ) (rule : List Tests) → i < 64 → slice_get rules i ≡ Some rule → IsUnsetAt words k i → KeepLimits rule) → TellsBlock rules column classes words
block_told_by n rules column classes words marked all keeps k word c there has = λ i rule small at unset.
    let bit : IsUnsetAt words k i = record { within = slice_get_within words k word there; unset = ap (λ w. bit_at w i) (get_or_from_slice_get words k word 0 there) ∙ unset } in
    record { missed = marked k i c rule (all i small (slice_get_within rules i rule at)) has at bit; keeps = keeps k i rule small at bit }
