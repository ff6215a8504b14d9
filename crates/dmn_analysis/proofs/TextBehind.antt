-- The least text behind a word, and the texts between words that are in order.
use Rattle.std.proofs.Common.{◌≡◌, ◌∙◌, sym, ap, refl, ℕ, zero, suc, ◌+◌, ◌-◌, ◌<◌, ◌≤◌, ◌⊎◌, inl, inr, List, [], ◌∷◌, ◌++◌, length, true, false, ◌||◌, Some, chars, IsUtf8, Ordering, Less, Equal, Greater, is_lt, nat_cmp, arith}
use Rattle.std.specs.Prelude.{bytes_eq}
use Rattle.std.specs.Arc.{arc_str_bytes}
use Rattle.std.specs.Cmp.Lexicographic.{slice_cmp}
use Rattle.std.specs.List.{slice_get}
use Rattle.std.specs.Ordering.{ordering_reverse, ordering_then}
use Rattle.std.specs.declared.alloc.Global.{Global}
use Rattle.std.specs.declared.sync.ArcStr.{ArcStr}
use Rattle.std.proofs.lemmas.Bool.{cases_Bool}
use Rattle.std.proofs.lemmas.Bool.Decides.{nat_tests}
use Rattle.std.proofs.lemmas.Cmp.{nat_cmp_total, tied_back, tied_itself}
use Rattle.std.proofs.lemmas.Option.{same_Some, slice_get_within}
use Rattle.std.proofs.lemmas.Slice.Eq.{bytes_eq-Decides}
use Rattle.std.proofs.lemmas.Str.{chars-append, chars-encodes, chars-nil, encode_ascii, is_utf8-from_IsUtf8}
use Rattle.dmn_analysis.specs.Cells.{AreInOrder, IsOther, IsTextBehind, is_less, is_text_among}
use Rattle.dmn_analysis.specs.Classes.{AreGreaterFrom, AreLessBefore}
use Rattle.dmn_analysis.specs.declared.cell.Others.TheVariants as others
use Rattle.dmn_analysis.proofs.Places.{below_next, element}
use Rattle.dmn_analysis.proofs.TextOrder.{less_back, less_chain, less_itself, less_or_greater_word, less_upto, lies, lies_so, ordered, utf8_word}

-- ---- lists with 0 behind them

longer_greater : (cs : List ℕ) → slice_cmp nat_cmp cs (cs ++ 0 ∷ []) ≡ Less
longer_greater [] = refl
longer_greater (c ∷ cs) = ap (λ o. ordering_then o (slice_cmp nat_cmp cs (cs ++ 0 ∷ []))) (tied_itself nat_cmp_total c) ∙ longer_greater cs

not_below_nil : (cs : List ℕ) → is_lt (slice_cmp nat_cmp cs []) ≡ false
not_below_nil [] = refl
not_below_nil (c ∷ cs) = refl

above_zero : (d : ℕ) → nat_cmp (suc d) 0 ≡ Greater
above_zero d = grind (arith, nat_tests)

-- of the greater lists it is the least
least_longer : (cs ds : List ℕ) → is_lt (slice_cmp nat_cmp cs ds) ≡ true → is_lt (slice_cmp nat_cmp ds (cs ++ 0 ∷ [])) ≡ false
least_longer [] [] e = cc
least_longer [] (zero ∷ ds) e = not_below_nil ds
least_longer [] (suc d ∷ ds) e = ap (λ o. is_lt (ordering_then o (slice_cmp nat_cmp ds []))) (above_zero d)
least_longer (c ∷ cs) [] e = cc
least_longer (c ∷ cs) (d ∷ ds) e = go (nat_cmp c d) refl (least_longer cs ds)
  where
    go : (o : Ordering) → nat_cmp c d ≡ o → (is_lt (slice_cmp nat_cmp cs ds) ≡ true → is_lt (slice_cmp nat_cmp ds (cs ++ 0 ∷ [])) ≡ false)
        → is_lt (ordering_then (nat_cmp d c) (slice_cmp nat_cmp ds (cs ++ 0 ∷ []))) ≡ false
    go Less p rest = ap (λ o. is_lt (ordering_then o (slice_cmp nat_cmp ds (cs ++ 0 ∷ [])))) (nat_cmp_total.antisymm d c ∙ ap ordering_reverse p)
    go Equal p rest =
        ap (λ o. is_lt (ordering_then o (slice_cmp nat_cmp ds (cs ++ 0 ∷ [])))) (tied_back nat_cmp_total c d p)
        ∙ rest (sym (ap (λ o. is_lt (ordering_then o (slice_cmp nat_cmp cs ds))) p) ∙ e)
    go Greater p rest = let wrong : false ≡ true = sym (ap (λ o. is_lt (ordering_then o (slice_cmp nat_cmp cs ds))) p) ∙ e in cc

-- ---- the text behind a word

chars_zero : chars (0 ∷ []) ≡ 0 ∷ []
chars_zero = ap (λ bs. chars (bs ++ [])) (sym (encode_ascii 0 (omega arith))) ∙ chars-encodes (0 ∷ []) refl

chars_behind : (w : ArcStr Global) → chars (arc_str_bytes w ++ 0 ∷ []) ≡ chars (arc_str_bytes w) ++ 0 ∷ []
chars_behind w = chars-append (arc_str_bytes w) (0 ∷ []) (utf8_word w) ∙ ap (λ cs. chars (arc_str_bytes w) ++ cs) chars_zero

behind_greater : (w : ArcStr Global) → is_less (arc_str_bytes w) (arc_str_bytes w ++ 0 ∷ []) ≡ true
behind_greater w = ap (λ cs. is_lt (slice_cmp nat_cmp (chars (arc_str_bytes w)) cs)) (chars_behind w) ∙ ap is_lt (longer_greater (chars (arc_str_bytes w)))

behind_least : (w : ArcStr Global) (s : List ℕ) → is_less (arc_str_bytes w) s ≡ true → is_less s (arc_str_bytes w ++ 0 ∷ []) ≡ false
behind_least w s h = ap (λ cs. is_lt (slice_cmp nat_cmp (chars s) cs)) (chars_behind w) ∙ least_longer (chars (arc_str_bytes w)) (chars s) h

pub behind_first : (ws : List (ArcStr Global)) (place : ℕ) (t : List ℕ) → place ≡ 0 → t ≡ [] → IsTextBehind ws place t
behind_first ws zero t first e = e
behind_first ws (suc k) t first e = absurd (omega (arith, first))

pub behind_last : (ws : List (ArcStr Global)) (place : ℕ) (w : ArcStr Global) (t : List ℕ) → 0 < place → slice_get ws (place - 1) ≡ Some w → t ≡ arc_str_bytes w ++ 0 ∷ [] → IsTextBehind ws place t
behind_last ws zero w t some there e = absurd (omega (arith, some))
behind_last ws (suc k) w t some there e = (w, ap (slice_get ws) (omega arith) ∙ there, e)

-- what is greater than the words before a place isn't less than the text behind them
least_text : (ws : List (ArcStr Global)) (k : ℕ) (t s : List ℕ) → IsTextBehind ws k t → ((j : ℕ) (w : ArcStr Global) → j < k → slice_get ws j ≡ Some w → is_less (arc_str_bytes w) s ≡ true) → is_less s t ≡ false
least_text ws zero t s is greater = ap (is_less s) is ∙ ap (λ cs. is_lt (slice_cmp nat_cmp (chars s) cs)) chars-nil ∙ not_below_nil (chars s)
least_text ws (suc k) t s is greater = ap (is_less s) is.2 ∙ behind_least is.0 s (greater k is.0 (omega arith) is.1)

-- a text is none of the words that are less or greater
not_among : (ws : List (ArcStr Global)) (t : List ℕ) → ((k : ℕ) (w : ArcStr Global) → slice_get ws k ≡ Some w → (is_less (arc_str_bytes w) t ≡ true) ⊎ (is_less t (arc_str_bytes w) ≡ true)) → is_text_among ws t ≡ false
not_among [] t apart = refl
not_among (w ∷ ws) t apart = elim (cases_Bool (bytes_eq t (arc_str_bytes w))) [
  | inl e ↦
      let same = (bytes_eq-Decides t (arc_str_bytes w)).0 e in
      let itself = less_itself t in
      elim (apart 0 w refl) [
        | inl less ↦ let wrong : true ≡ false = sym less ∙ ap (λ s. is_less s t) (sym same) ∙ itself in cc
        | inr greater ↦ let wrong : true ≡ false = sym greater ∙ ap (is_less t) (sym same) ∙ itself in cc
      ]
  | inr e ↦ ap (λ b. b || is_text_among ws t) e ∙ not_among ws t (λ k v here. apart (suc k) v here)
]

-- ---- the text behind a place, and the words

-- each word before the place is less
behind_words : (ws : List (ArcStr Global)) → AreInOrder ws → (k : ℕ) (t : List ℕ) → IsTextBehind ws k t → (j : ℕ) (w : ArcStr Global) → j < k → slice_get ws j ≡ Some w → is_less (arc_str_bytes w) t ≡ true
behind_words ws order zero t is j w less here = absurd (omega (arith, less))
behind_words ws order (suc k) t is j w less here =
    let last = ap (is_less (arc_str_bytes is.0)) is.2 ∙ behind_greater is.0 in
    elim (below_next j k (omega (arith, less))) [
      | inl before ↦ less_chain (arc_str_bytes w) (arc_str_bytes is.0) t (ordered ws order j k w is.0 before here is.1) last
      | inr at ↦ ap (λ v. is_less (arc_str_bytes v) t) (same_Some w is.0 (sym here ∙ ap (slice_get ws) at ∙ is.1)) ∙ last
    ]

-- ---- texts that are no word

-- the texts between these words are greater than those before a place
abbrev pub AreBehind : List (ArcStr Global) → ℕ → ℕ → ℕ → Type 0
AreBehind ws from to place = (s : List ℕ) → IsOther ws (others.Between from to) s → AreLessBefore place s ws

-- the text behind a place, if the word there is greater
pub behind_other : (ws : List (ArcStr Global)) (from to k : ℕ) (t : List ℕ) → AreInOrder ws → ((j : ℕ) → j < from → j < length ws → j < k) → k ≤ to → IsTextBehind ws k t → IsUtf8 t
    → AreGreaterFrom k t ws → IsOther ws (others.Between from to) t
behind_other ws from to k t order before upto is utf8 greater = (
  lies_so ws from to t (record {
    utf8 = is_utf8-from_IsUtf8 t utf8;
    above = λ j w less here. behind_words ws order k t is j w (before j less (slice_get_within ws j w here)) here;
    below = λ j w past here. greater j w (omega (arith, upto, past)) here;
  }),
  not_among ws t (λ j w here. elim (side j k) [ inl less ↦ inl (behind_words ws order k t is j w less here) | inr past ↦ inr (greater j w past here) ]),
)
  where
    side : (j k : ℕ) → (j < k) ⊎ (k ≤ j)
    side j k = grind arith

-- at first
pub behind_begun : (ws : List (ArcStr Global)) (from to k : ℕ) → k ≤ from → AreBehind ws from to k
behind_begun ws from to k h s other j w less here = (lies ws from to s other.0).above j w (omega (arith, h, less)) here

-- otherwise there is none between the words there
pub behind_more : (ws : List (ArcStr Global)) (from to k : ℕ) (t : List ℕ) (w : ArcStr Global) → AreBehind ws from to k → IsTextBehind ws k t → slice_get ws k ≡ Some w → is_less t (arc_str_bytes w) ≡ false
    → AreBehind ws from to (k + 1)
behind_more ws from to k t w behind is there not_less s other j v less here =
    elim (below_next j k less) [
      | inl before ↦ behind s other j v before here
      | inr at ↦ ap (λ x. is_less (arc_str_bytes x) s) (same_Some v w (sym here ∙ ap (slice_get ws) at ∙ there)) ∙ greater
    ]
  where
    greater : is_less (arc_str_bytes w) s ≡ true
    greater = elim (less_or_greater_word ws k w s there other.1 (lies ws from to s other.0).utf8) [
      | inl below ↦
          let wrong : true ≡ false = sym (less_upto s (arc_str_bytes w) t below not_less) ∙ least_text ws k t s is (λ j v less here. behind s other j v less here) in
          cc
      | inr h ↦ h
    ]

-- none is greater than the words before a place, and less than one of these
pub behind_all : (ws : List (ArcStr Global)) (from to k : ℕ) → AreBehind ws from to k → to < k → k ≤ length ws → (s : List ℕ) → IsOther ws (others.Between from to) s → ⊥
behind_all ws from to k behind past within s other =
    let w = element ws to (omega (arith, past, within)) in
    let less = (lies ws from to s other.0).below to w.0 (omega arith) w.1 in
    let wrong : true ≡ false = sym (behind s other to w.0 past w.1) ∙ less_back s (arc_str_bytes w.0) less in
    cc
