-- Internal: no public contract cites these words. Which values are of a class.
use Rattle.std.specs.Prelude.{◌≡◌, ◌<◌, ◌≤◌, ◌-◌, ℕ, ℤ, Option, None, Some, List, length, Bool, true, false, not, ◌&&◌, int_le, bytes_eq}
use Rattle.std.specs.Arc.{arc_str_bytes}
use Rattle.std.specs.List.{list_any, slice_get}
use Rattle.std.specs.declared.alloc.Global.{Global}
use Rattle.std.specs.declared.sync.ArcStr.{ArcStr}
use Rattle.feel_value.specs.Comparison.{bool_eq}
use Rattle.feel_value.specs.Datum.{Datum, null, boolean, number, text, list, context}
use Rattle.feel_value.specs.View.{datum_of}
use Rattle.dmn_analysis.specs.Cells.{is_less, is_one_of, is_text_among}
use Rattle.dmn_analysis.specs.declared.cell.Others.TheVariants as others
use Rattle.dmn_analysis.specs.declared.class.Class.{Class}
use Rattle.dmn_analysis.specs.declared.class.Class.TheVariants as class

-- a number from one to another, both included
abbrev pub is_number_in : ℤ → ℤ → Datum → Bool
is_number_in low high (number z) = int_le low z && int_le z high
is_number_in low high d = false

abbrev pub is_text : List ℕ → Datum → Bool
is_text s (text t) = bytes_eq s t
is_text s d = false

-- a text that is none of these
abbrev pub is_other_text : List (ArcStr Global) → Datum → Bool
is_other_text texts (text s) = not (list_any (λ t. bytes_eq s (arc_str_bytes t)) texts)
is_other_text texts d = false

-- each of the texts before a place is less than this one
abbrev pub AreLessBefore : ℕ → List ℕ → List (ArcStr Global) → Type 0
AreLessBefore place s texts = (k : ℕ) (t : ArcStr Global) → k < place → slice_get texts k ≡ Some t → is_less (arc_str_bytes t) s ≡ true

-- each of the texts from a place on is greater than this one
abbrev pub AreGreaterFrom : ℕ → List ℕ → List (ArcStr Global) → Type 0
AreGreaterFrom place s texts = (k : ℕ) (t : ArcStr Global) → place ≤ k → slice_get texts k ≡ Some t → is_less s (arc_str_bytes t) ≡ true

-- a text in UTF-8 that is none of these, greater than those before a place, and less than those from another on
abbrev pub is_between : List (ArcStr Global) → ℕ → ℕ → Datum → Bool
is_between texts from to (text s) = is_one_of texts (others.Between from to) s && not (is_text_among texts s)
is_between texts from to d = false

-- whether a text is less than another, if there is one, or greater
abbrev pub is_less_than : List ℕ → Option (ArcStr Global) → Bool
is_less_than s None = false
is_less_than s (Some t) = is_less s (arc_str_bytes t)

abbrev pub is_greater_than : List ℕ → Option (ArcStr Global) → Bool
is_greater_than s None = false
is_greater_than s (Some t) = is_less (arc_str_bytes t) s

-- a text that isn't less than the first of these nor greater than the last
abbrev pub is_within : List (ArcStr Global) → List ℕ → Bool
is_within texts s = not (is_less_than s (slice_get texts 0)) && not (is_greater_than s (slice_get texts (length texts - 1)))

-- a text that is one of these, which are in order
abbrev pub is_word : List (ArcStr Global) → Datum → Bool
is_word texts (text s) = list_any (λ t. bytes_eq s (arc_str_bytes t)) texts && is_within texts s
is_word texts d = false

abbrev pub is_truth : Bool → Datum → Bool
is_truth b (boolean c) = bool_eq b c
is_truth b d = false

abbrev pub is_null : Datum → Bool
is_null null = true
is_null d = false

abbrev pub is_parted : Datum → Bool
is_parted (list ds) = true
is_parted (context es) = true
is_parted d = false

abbrev pub is_list : Datum → Bool
is_list (list ds) = true
is_list d = false

-- one and the same null, truth value or text
abbrev pub is_same : Datum → Datum → Bool
is_same null v = is_null v
is_same (boolean b) v = is_truth b v
is_same (number z) v = false
is_same (text s) v = is_text s v
is_same (list ds) v = false
is_same (context es) v = false

-- whether a value is of the class
abbrev pub is_of : Class → Datum → Bool
is_of (class.One value) v = is_same (datum_of value) v
is_of (class.Numbers low high) v = is_number_in low high v
is_of (class.Words texts) v = is_word texts.now v
is_of (class.OtherTexts texts) v = is_other_text texts.now v
is_of (class.Between texts from to) v = is_between texts.now from to v
is_of class.Parted v = is_parted v
