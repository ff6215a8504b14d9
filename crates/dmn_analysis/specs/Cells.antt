-- Cells: values of one column each.
use Rattle.std.specs.Prelude.{◌≡◌, ◌+◌, ◌++◌, ℕ, zero, suc, List, [], ◌∷◌, Bool, true, false, not, ◌&&◌, ◌||◌, int_le, bytes_eq, chars, take, drop, Some}
use Rattle.std.specs.Cmp.Lexicographic.{slice_cmp}
use Rattle.std.specs.Ordering.{nat_cmp, is_lt}
use Rattle.std.specs.Str.{is_utf8}
use Rattle.std.specs.Arc.{arc_str_bytes}
use Rattle.std.specs.List.{list_all, list_any, slice_get, All}
use Rattle.std.specs.declared.alloc.Global.{Global}
use Rattle.std.specs.declared.sync.ArcStr.{ArcStr}
use Rattle.feel_value.specs.Datum.{Datum, null, boolean, number, text, list, context}
use Rattle.dmn_analysis.specs.declared.cell.Cell.{Cell}
use Rattle.dmn_analysis.specs.declared.cell.Others.{Others}
use Rattle.dmn_analysis.specs.declared.cell.Others.TheVariants as others
use Rattle.dmn_analysis.specs.declared.cell.Words.{Words}

-- a text that is one of these
abbrev pub is_text_among : List (ArcStr Global) → List ℕ → Bool
is_text_among texts s = list_any (λ t. bytes_eq s (arc_str_bytes t)) texts

-- whether a text is less than another, by code points
abbrev pub is_less : List ℕ → List ℕ → Bool
is_less s t = is_lt (slice_cmp nat_cmp (chars s) (chars t))

-- each of the words is less than the one behind it
abbrev pub AreInOrder : List (ArcStr Global) → Type 0
AreInOrder words = (i : ℕ) (a b : ArcStr Global) → slice_get words i ≡ Some a → slice_get words (i + 1) ≡ Some b → is_less (arc_str_bytes a) (arc_str_bytes b) ≡ true

-- the same of the words of each column
abbrev pub AllInOrder : List Words → Type 0
AllInOrder words = All (λ (ws : Words). AreInOrder ws.texts.items) words

-- the least text that is greater than the word before this place; before the first place, the least of all
abbrev pub IsTextBehind : List (ArcStr Global) → ℕ → List ℕ → Type 0
IsTextBehind words zero s = s ≡ []
IsTextBehind words (suc k) s = (w : ArcStr Global) × (slice_get words k ≡ Some w) × (s ≡ arc_str_bytes w ++ 0 ∷ [])

-- whether a text that is no word is one of these
abbrev pub is_one_of : List (ArcStr Global) → Others → List ℕ → Bool
is_one_of words others.None s = false
is_one_of words others.All s = true
is_one_of words (others.Between from to) s =
    is_utf8 s && (list_all (λ w. is_less (arc_str_bytes w) s) (take from words) && list_all (λ w. is_less s (arc_str_bytes w)) (drop to words))

-- the words from a place on, and before another
abbrev pub words_within : List (ArcStr Global) → ℕ → ℕ → List (ArcStr Global)
words_within words from to = drop from (take to words)

-- a text that is no word is one of these
abbrev pub IsOther : List (ArcStr Global) → Others → List ℕ → Type 0
IsOther words others s = (is_one_of words others s ≡ true) × (is_text_among words s ≡ false)

abbrev pub is_text_in : List (ArcStr Global) → Cell → List ℕ → Bool
is_text_in words c s = is_text_among (words_within words c.from c.to) s || (is_one_of words c.others s && not (is_text_among words s))

abbrev pub truth_in : Cell → Bool → Bool
truth_in c true = c.yes
truth_in c false = c.no

-- whether a value is one of the cell, in a column of these words
abbrev pub is_in : List (ArcStr Global) → Cell → Datum → Bool
is_in words c null = c.null
is_in words c (boolean b) = truth_in c b
is_in words c (number z) = int_le c.low z && int_le z c.high
is_in words c (text s) = is_text_in words c s
is_in words c (list ds) = c.parted
is_in words c (context es) = c.parted

-- values, each in the cell of its column
abbrev pub AreIn : List Words → List Cell → List Datum → Type 0
AreIn words cells values = (k : ℕ) (ws : Words) (c : Cell) (v : Datum) → slice_get words k ≡ Some ws → slice_get cells k ≡ Some c → slice_get values k ≡ Some v → is_in ws.texts.items c v ≡ true
