-- The cells of all values that are asked about.
use Rattle.std.proofs.Common.{◌≡◌, ◌∙◌, sym, ap, ap₂, refl, subst, inl, inr, ℕ, suc, ℤ, pos, List, [], ◌∷◌, ◌++◌, length, map, Bool, true, false, not, ◌&&◌, ◌||◌, Some, Vec, arith}
use Rattle.std.specs.Arc.{arc_str_bytes}
use Rattle.std.specs.Prelude.{bytes_eq, int_le, ◌-ℤ◌}
use Rattle.std.specs.List.{list_all, list_any, slice_get}
use Rattle.std.specs.declared.alloc.Global.{Global}
use Rattle.std.specs.declared.sync.ArcStr.{ArcStr}
use Rattle.std.proofs.lemmas.Int.{ints}
use Rattle.std.proofs.lemmas.List.{length-map, take_all}
use Rattle.std.proofs.lemmas.Option.{same_Some, slice_get_within}
use Rattle.feel_value.proofs.Booleans.{both_true}
use Rattle.feel_value.specs.Datum.{null, boolean, number, text, list, context}
use Rattle.feel_value.specs.Limits.{in_range, is_value}
use Rattle.feel_text.proofs.Bindings.{same_text}
use Rattle.dmn_analysis.specs.Cells.{is_one_of, is_text_among, words_within}
use Rattle.dmn_analysis.specs.Asked.{is_asked_number}
use Rattle.dmn_analysis.specs.Whole.{AreOthers, AreWhole, AreWholeTexts, HasWhole, IsWhole, highest, lowest, whole_of}
use Rattle.dmn_analysis.specs.declared.asked.Asked.{Asked}
use Rattle.dmn_analysis.specs.declared.asked.Numbers.{Numbers}
use Rattle.dmn_analysis.specs.declared.asked.Numbers.TheVariants as numbers
use Rattle.dmn_analysis.specs.declared.asked.Texts.TheVariants as texts
use Rattle.dmn_analysis.specs.declared.cell.Cell.{Cell}
use Rattle.dmn_analysis.specs.declared.cell.Others.{Others}
use Rattle.dmn_analysis.specs.declared.cell.Others.TheVariants as others
use Rattle.dmn_analysis.specs.declared.cell.Words.{Words}
use Rattle.dmn_analysis.proofs.Places.{map_at, pushed}
use Rattle.dmn_analysis.proofs.TextOrder.{lies_so}

pub same_texts : (a b : List (ArcStr Global)) → length a ≡ length b
    → ((k : ℕ) (x y : ArcStr Global) → slice_get a k ≡ Some x → slice_get b k ≡ Some y → arc_str_bytes x ≡ arc_str_bytes y) → map arc_str_bytes a ≡ map arc_str_bytes b
same_texts [] [] e h = refl
same_texts [] (y ∷ b) e h = absurd (omega (arith, e))
same_texts (x ∷ a) [] e h = absurd (omega (arith, e))
same_texts (x ∷ a) (y ∷ b) e h = ap₂ (λ t ts. t ∷ ts) (h 0 x y refl refl) (same_texts a b (omega (arith, e)) (λ k u v here there. h (suc k) u v here there))

pub same_lengths : (a b : List (ArcStr Global)) → map arc_str_bytes a ≡ map arc_str_bytes b → length a ≡ length b
same_lengths a b e = sym (length-map a arc_str_bytes) ∙ ap length e ∙ length-map b arc_str_bytes

pub same_at : (a b : List (ArcStr Global)) (k : ℕ) (x y : ArcStr Global) → map arc_str_bytes a ≡ map arc_str_bytes b → slice_get a k ≡ Some x → slice_get b k ≡ Some y → arc_str_bytes x ≡ arc_str_bytes y
same_at a b k x y e here there =
    same_Some (arc_str_bytes x) (arc_str_bytes y) (sym (map_at arc_str_bytes a k x here) ∙ ap (λ ts. slice_get ts k) e ∙ map_at arc_str_bytes b k y there)

among_same : (a b : List (ArcStr Global)) (s : List ℕ) → map arc_str_bytes a ≡ map arc_str_bytes b → is_text_among a s ≡ is_text_among b s
among_same a b s e = by_bytes a ∙ ap (list_any (λ t. bytes_eq s t)) e ∙ sym (by_bytes b)
  where
    by_bytes : (ts : List (ArcStr Global)) → is_text_among ts s ≡ list_any (λ t. bytes_eq s t) (map arc_str_bytes ts)
    by_bytes [] = refl
    by_bytes (t ∷ ts) = ap (λ b. bytes_eq s (arc_str_bytes t) || b) (by_bytes ts)

either : (b : Bool) → (b || not b) ≡ true
either true = refl
either false = refl

left_of : (a b : Bool) → a ≡ true → (a || b) ≡ true
left_of true b e = refl
left_of false b e = cc

all_words : (ws : List (ArcStr Global)) → words_within ws 0 (length ws) ≡ ws
all_words ws = take_all (length ws) ws (omega arith)

pub whole_all : (ws : List (ArcStr Global)) → AreWholeTexts ws texts.All (length ws) others.All
whole_all ws s e = ap (λ us. is_text_among us s || not (is_text_among ws s)) (all_words ws) ∙ either (is_text_among ws s)

-- each text in UTF-8 is a word, or one of the others
pub whole_utf8 : (ws : List (ArcStr Global)) → AreWholeTexts ws texts.Utf8 (length ws) (others.Between 0 (length ws))
whole_utf8 ws s e =
    let other = lies_so ws 0 (length ws) s (record { utf8 = e; above = λ k w less there. absurd (omega (arith, less)); below = λ k w past there. absurd (omega (arith, past, slice_get_within ws k w there)) }) in
    ap₂ (λ us o. is_text_among us s || (o && not (is_text_among ws s))) (all_words ws) other ∙ either (is_text_among ws s)

pub same_others : (these ws : List (ArcStr Global)) → map arc_str_bytes these ≡ map arc_str_bytes ws → AreOthers these ws others.None
same_others these ws same s e = left_of (is_text_among ws s) (false && not (is_text_among ws s)) (sym (among_same these ws s same) ∙ e)

pub all_others : (these ws : List (ArcStr Global)) → AreOthers these ws others.All
all_others these ws s e = either (is_text_among ws s)

among_by : (a : Bool) (t : ArcStr Global) (these ws : List (ArcStr Global)) (s : List ℕ) → bytes_eq s (arc_str_bytes t) ≡ a → (a || is_text_among these s) ≡ true → is_text_among ws (arc_str_bytes t) ≡ true
    → (is_text_among these s ≡ true → is_text_among ws s ≡ true) → is_text_among ws s ≡ true
among_by true t these ws s same e here rest = subst (λ u. is_text_among ws u ≡ true) (sym (same_text s (arc_str_bytes t) same)) here
among_by false t these ws s same e here rest = rest e

among_words : (these ws : List (ArcStr Global)) (s : List ℕ) → list_all (λ t. is_text_among ws (arc_str_bytes t)) these ≡ true → is_text_among these s ≡ true → is_text_among ws s ≡ true
among_words [] ws s all e = cc
among_words (t ∷ these) ws s all e =
    let parts = both_true (is_text_among ws (arc_str_bytes t)) (list_all (λ u. is_text_among ws (arc_str_bytes u)) these) all in
    among_by (bytes_eq s (arc_str_bytes t)) t these ws s refl e parts.0 (among_words these ws s parts.1)

-- each is a word
pub word_others : (these ws : List (ArcStr Global)) → list_all (λ t. is_text_among ws (arc_str_bytes t)) these ≡ true → AreOthers these ws others.None
word_others these ws all s e = left_of (is_text_among ws s) (false && not (is_text_among ws s)) (among_words these ws s all e)

pub whole_these : (ws : List (ArcStr Global)) (ts : Vec (ArcStr Global) Global) (o : Others) → AreOthers ts.items ws o → AreWholeTexts ws (texts.These ts) (length ws) o
whole_these ws ts o told s e = ap (λ us. is_text_among us s || (is_one_of ws o s && not (is_text_among ws s))) (all_words ws) ∙ told s e

-- ---- all values

first_of : (a b : Bool) → (a && b) ≡ true → a ≡ true
first_of true b e = refl
first_of false b e = cc

pub number_in_range : (z : ℤ) → is_value (number z) ≡ true → in_range z ≡ true
number_in_range z e = first_of (in_range z) _ (first_of _ _ e)

number_in_whole : (z : ℤ) (asked : Numbers) → in_range z ≡ true → is_asked_number asked z ≡ true → (int_le (lowest asked) z && int_le z (highest asked)) ≡ true
number_in_whole z numbers.All range e = grind (arith, ints, range)
number_in_whole z (numbers.Between low high) range e = e
number_in_whole z numbers.None range e = cc

pub is_whole : (ws : Words) (asked : Asked) (to : ℕ) (others : Others) → AreWholeTexts ws.texts.items asked.texts to others → IsWhole ws asked (whole_of asked to others)
is_whole ws asked to others texts null lawful e = e
is_whole ws asked to others texts (boolean true) lawful e = e
is_whole ws asked to others texts (boolean false) lawful e = e
is_whole ws asked to others texts (number z) lawful e = number_in_whole z asked.numbers (number_in_range z lawful) e
is_whole ws asked to others texts (text s) lawful e = texts s e
is_whole ws asked to others texts (list ds) lawful e = e
is_whole ws asked to others texts (context es) lawful e = e

-- one cell more
pub whole_more : (words : List Words) (asked : List Asked) (cells : List Cell) (ws : Words) (a : Asked) (c : Cell) → AreWhole words asked cells → slice_get words (length cells) ≡ Some ws
    → slice_get asked (length cells) ≡ Some a → IsWhole ws a c → AreWhole words asked (cells ++ c ∷ [])
whole_more words asked cells ws a c before of is whole k ws' c' of' there =
    elim (pushed cells c c' k there) [
      | inl here ↦ before k ws' c' of' here
      | inr last ↦
          subst (λ d. HasWhole asked k ws' d) last.1
          (subst (λ n. HasWhole asked n ws' c) (sym last.0) (record {
            asked_there = a;
            there = is;
            is_whole = subst (λ w. IsWhole w a c) (same_Some ws ws' (sym of ∙ ap (slice_get words) (sym last.0) ∙ of')) whole;
          }))
    ]
