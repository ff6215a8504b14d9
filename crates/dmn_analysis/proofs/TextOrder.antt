-- The order of texts, and the texts that lie between words.
use Rattle.std.proofs.Common.{◌≡◌, ◌∙◌, sym, ap, ap₂, refl, ℕ, zero, suc, ◌+◌, ◌-◌, ◌<◌, ◌≤◌, ◌⊎◌, inl, inr, List, [], ◌∷◌, length, take, drop, Bool, true, false, not, ◌&&◌, ◌||◌, Option, None, Some, chars, IsUtf8, Ordering, Less, Equal, Greater, is_lt, nat_cmp, arith}
use Rattle.std.specs.Prelude.{bytes_eq}
use Rattle.std.specs.Arc.{arc_str_bytes}
use Rattle.std.specs.Cmp.Lexicographic.{slice_cmp}
use Rattle.std.specs.List.{list_all, slice_get}
use Rattle.std.specs.Ordering.{is_eq, ordering_reverse}
use Rattle.std.specs.Str.{is_utf8}
use Rattle.std.specs.declared.alloc.Global.{Global}
use Rattle.std.specs.declared.sync.ArcStr.{ArcStr}
use Rattle.std.proofs.lemmas.Bool.{cases_Bool, or_cases, or_right}
use Rattle.std.proofs.lemmas.Cmp.{nat_list_cmp_total, alike_right, tied_itself}
use Rattle.std.proofs.lemmas.Map.Text.{is_eq-slice_cmp}
use Rattle.std.proofs.lemmas.Option.{same_Some, slice_get_within}
use Rattle.std.proofs.lemmas.Slice.Eq.{bytes_eq-Decides}
use Rattle.std.proofs.lemmas.Str.{IsUtf8-from_is_utf8, IsUtf8-string_bytes, encodes-chars}
use Rattle.feel_value.proofs.Booleans.{both_true}
use Rattle.feel_value.specs.Datum.{text}
use Rattle.dmn_analysis.specs.Cells.{AreInOrder, is_less, is_one_of, is_text_among, words_within}
use Rattle.dmn_analysis.specs.Classes.{AreGreaterFrom, AreLessBefore, is_greater_than, is_less_than, is_within, is_word}
use Rattle.dmn_analysis.specs.declared.cell.Others.TheVariants as others
use Rattle.dmn_analysis.proofs.Places.{below_next, element}
use lib.Utf8.{encodes}

-- ---- one text and another

abbrev compared : List ℕ → List ℕ → Ordering
compared s t = slice_cmp nat_cmp (chars s) (chars t)

less_by_test : (o : Ordering) → is_lt o ≡ true → o ≡ Less
less_by_test Less e = refl
less_by_test Equal e = cc
less_by_test Greater e = cc

pub less_itself : (s : List ℕ) → is_less s s ≡ false
less_itself s = ap is_lt (tied_itself nat_list_cmp_total (chars s))

pub less_chain : (r s t : List ℕ) → is_less r s ≡ true → is_less s t ≡ true → is_less r t ≡ true
less_chain r s t h k = ap is_lt (nat_list_cmp_total.trans (chars r) (chars s) (chars t) (less_by_test (compared r s) h) (less_by_test (compared s t) k))

pub less_back : (s t : List ℕ) → is_less s t ≡ true → is_less t s ≡ false
less_back s t h = ap is_lt (nat_list_cmp_total.antisymm (chars t) (chars s) ∙ ap ordering_reverse (less_by_test (compared s t) h))

-- a text that is less than another is less than what isn't less than that
pub less_upto : (r s t : List ℕ) → is_less r s ≡ true → is_less t s ≡ false → is_less r t ≡ true
less_upto r s t h k = go (compared s t) refl
  where
    go : (o : Ordering) → compared s t ≡ o → is_less r t ≡ true
    go Less e = less_chain r s t h (ap is_lt e)
    go Equal e = sym (ap is_lt (alike_right nat_list_cmp_total (chars s) (chars t) (chars r) e)) ∙ h
    go Greater e = let back : true ≡ false = sym (ap is_lt (nat_list_cmp_total.antisymm (chars t) (chars s) ∙ ap ordering_reverse e)) ∙ k in cc

-- of two texts in UTF-8 that differ, one is less
pub less_or_greater : (s t : List ℕ) → IsUtf8 s → IsUtf8 t → bytes_eq s t ≡ false → is_less s t ≡ false → is_less t s ≡ true
less_or_greater s t u v differ h = go (compared s t) refl
  where
    same : compared s t ≡ Equal → s ≡ t
    same e = sym (encodes-chars s u) ∙ ap encodes ((bytes_eq-Decides (chars s) (chars t)).0 (sym (is_eq-slice_cmp (chars s) (chars t)) ∙ ap is_eq e)) ∙ encodes-chars t v

    go : (o : Ordering) → compared s t ≡ o → is_less t s ≡ true
    go Less e = let other : true ≡ false = sym (ap is_lt e) ∙ h in cc
    go Equal e = let other : true ≡ false = sym ((bytes_eq-Decides s t).1 (same e)) ∙ differ in cc
    go Greater e = ap is_lt (nat_list_cmp_total.antisymm (chars t) (chars s) ∙ ap ordering_reverse e)

-- what is less than a text is less than each that isn't less than that
pub less_past : (r s t : List ℕ) → is_less r t ≡ false → is_less r s ≡ true → is_less t s ≡ true
less_past r s t h k = go (compared r t) refl
  where
    go : (o : Ordering) → compared r t ≡ o → is_less t s ≡ true
    go Less e = let other : true ≡ false = sym (ap is_lt e) ∙ h in cc
    go Equal e = sym (ap is_lt (nat_list_cmp_total.congr (chars r) (chars t) (chars s) e)) ∙ k
    go Greater e = less_chain t r s (ap is_lt (nat_list_cmp_total.antisymm (chars t) (chars r) ∙ ap ordering_reverse e)) k

-- a text that is less than another is another
pub less_differs : (s t : List ℕ) → is_less s t ≡ true → bytes_eq s t ≡ false
less_differs s t h = elim (cases_Bool (bytes_eq s t)) [
  | inl e ↦ let other : true ≡ false = sym h ∙ ap (is_less s) (sym ((bytes_eq-Decides s t).0 e)) ∙ less_itself s in cc
  | inr e ↦ e
]

pub less_above : (s t : List ℕ) → is_less t s ≡ true → bytes_eq s t ≡ false
less_above s t h = elim (cases_Bool (bytes_eq s t)) [
  | inl e ↦ let other : true ≡ false = sym h ∙ ap (is_less t) ((bytes_eq-Decides s t).0 e) ∙ less_itself t in cc
  | inr e ↦ e
]

-- ---- a word, and a text that is none

pub among_at : (ws : List (ArcStr Global)) (k : ℕ) (w : ArcStr Global) → slice_get ws k ≡ Some w → is_text_among ws (arc_str_bytes w) ≡ true
among_at [] k w e = cc
among_at (v ∷ ws) zero w e = ap (λ b. b || is_text_among ws (arc_str_bytes w)) ((bytes_eq-Decides (arc_str_bytes w) (arc_str_bytes v)).1 (ap arc_str_bytes (sym (same_Some v w e))))
among_at (v ∷ ws) (suc k) w e = or_right (bytes_eq (arc_str_bytes w) (arc_str_bytes v)) (is_text_among ws (arc_str_bytes w)) (among_at ws k w e)

pub utf8_word : (w : ArcStr Global) → IsUtf8 (arc_str_bytes w)
utf8_word w = IsUtf8-string_bytes w.text.value

-- a text that is no word is less than a word, or greater
pub less_or_greater_word : (ws : List (ArcStr Global)) (k : ℕ) (w : ArcStr Global) (s : List ℕ) → slice_get ws k ≡ Some w → is_text_among ws s ≡ false → is_utf8 s ≡ true
    → (is_less s (arc_str_bytes w) ≡ true) ⊎ (is_less (arc_str_bytes w) s ≡ true)
less_or_greater_word ws k w s there none utf8 = elim (cases_Bool (is_less s (arc_str_bytes w))) [
  | inl h ↦ inl h
  | inr h ↦ inr (less_or_greater s (arc_str_bytes w) (IsUtf8-from_is_utf8 s utf8) (utf8_word w) differ h)
]
  where
    differ : bytes_eq s (arc_str_bytes w) ≡ false
    differ = elim (cases_Bool (bytes_eq s (arc_str_bytes w))) [
      | inl e ↦ let other : true ≡ false = sym (among_at ws k w there) ∙ ap (is_text_among ws) (sym ((bytes_eq-Decides s (arc_str_bytes w)).0 e)) ∙ none in cc
      | inr e ↦ e
    ]

-- ---- words in order

-- a word is less than each one behind it
pub ordered : (ws : List (ArcStr Global)) → AreInOrder ws → (j k : ℕ) (a b : ArcStr Global) → j < k → slice_get ws j ≡ Some a → slice_get ws k ≡ Some b → is_less (arc_str_bytes a) (arc_str_bytes b) ≡ true
ordered ws order j zero a b less here there = absurd (omega (arith, less))
ordered ws order j (suc k) a b less here there =
    let next : slice_get ws (k + 1) ≡ Some b = ap (slice_get ws) (omega arith) ∙ there in
    elim (below_next j k (omega (arith, less))) [
      | inl before ↦
          let m = element ws k (omega (arith, slice_get_within ws (suc k) b there)) in
          less_chain (arc_str_bytes a) (arc_str_bytes m.0) (arc_str_bytes b) (ordered ws order j k a m.0 before here m.1) (order k m.0 b m.1 next)
      | inr at ↦ order k a b (ap (slice_get ws) (sym at) ∙ here) next
    ]

-- what is less than the word at a place is less than each behind it
pub less_from : (ws : List (ArcStr Global)) → AreInOrder ws → (k : ℕ) (w : ArcStr Global) (s : List ℕ) → slice_get ws k ≡ Some w → is_less s (arc_str_bytes w) ≡ true → AreGreaterFrom k s ws
less_from ws order k w s there less j v upto here = elim (below_next k j (omega (arith, upto))) [
  | inl before ↦ less_chain s (arc_str_bytes w) (arc_str_bytes v) less (ordered ws order k j w v before there here)
  | inr at ↦ ap (λ x. is_less s (arc_str_bytes x)) (same_Some v w (sym here ∙ ap (slice_get ws) (sym at) ∙ there)) ∙ less
]

-- what is greater than it is greater than each before it
pub greater_before : (ws : List (ArcStr Global)) → AreInOrder ws → (k : ℕ) (w : ArcStr Global) (s : List ℕ) → slice_get ws k ≡ Some w → is_less (arc_str_bytes w) s ≡ true → AreLessBefore (k + 1) s ws
greater_before ws order k w s there less j v before here = elim (below_next j k before) [
  | inl below ↦ less_chain (arc_str_bytes v) (arc_str_bytes w) s (ordered ws order j k v w below here there) less
  | inr at ↦ ap (λ x. is_less (arc_str_bytes x) s) (same_Some v w (sym here ∙ ap (slice_get ws) at ∙ there)) ∙ less
]

-- ---- texts between words

all_before : (f : ArcStr Global → Bool) (ws : List (ArcStr Global)) (n : ℕ) → list_all f (take n ws) ≡ true → (k : ℕ) (w : ArcStr Global) → k < n → slice_get ws k ≡ Some w → f w ≡ true
all_before f [] n h k w less there = cc
all_before f (v ∷ ws) zero h k w less there = absurd (omega (arith, less))
all_before f (v ∷ ws) (suc n) h zero w less there = ap f (sym (same_Some v w there)) ∙ (both_true (f v) (list_all f (take n ws)) h).0
all_before f (v ∷ ws) (suc n) h (suc k) w less there = all_before f ws n (both_true (f v) (list_all f (take n ws)) h).1 k w (omega (arith, less)) there

all_from : (f : ArcStr Global → Bool) (ws : List (ArcStr Global)) (n : ℕ) → list_all f (drop n ws) ≡ true → (k : ℕ) (w : ArcStr Global) → n ≤ k → slice_get ws k ≡ Some w → f w ≡ true
all_from f [] n h k w upto there = cc
all_from f (v ∷ ws) zero h zero w upto there = ap f (sym (same_Some v w there)) ∙ (both_true (f v) (list_all f ws) h).0
all_from f (v ∷ ws) zero h (suc k) w upto there = all_from f ws zero (both_true (f v) (list_all f ws) h).1 k w (omega arith) there
all_from f (v ∷ ws) (suc n) h zero w upto there = absurd (omega (arith, upto))
all_from f (v ∷ ws) (suc n) h (suc k) w upto there = all_from f ws n h k w (omega (arith, upto)) there

both : (a b : Bool) → a ≡ true → b ≡ true → (a && b) ≡ true
both true b e f = f
both false b e f = e

before_all : (f : ArcStr Global → Bool) (ws : List (ArcStr Global)) (n : ℕ) → ((k : ℕ) (w : ArcStr Global) → k < n → slice_get ws k ≡ Some w → f w ≡ true) → list_all f (take n ws) ≡ true
before_all f [] zero h = refl
before_all f [] (suc n) h = refl
before_all f (v ∷ ws) zero h = refl
before_all f (v ∷ ws) (suc n) h = both (f v) (list_all f (take n ws)) (h 0 v (omega arith) refl) (before_all f ws n (λ k w less there. h (suc k) w (omega (arith, less)) there))

from_all : (f : ArcStr Global → Bool) (ws : List (ArcStr Global)) (n : ℕ) → ((k : ℕ) (w : ArcStr Global) → n ≤ k → slice_get ws k ≡ Some w → f w ≡ true) → list_all f (drop n ws) ≡ true
from_all f [] zero h = refl
from_all f [] (suc n) h = refl
from_all f (v ∷ ws) zero h = both (f v) (list_all f ws) (h 0 v (omega arith) refl) (from_all f ws zero (λ k w upto there. h (suc k) w (omega arith) there))
from_all f (v ∷ ws) (suc n) h = from_all f ws n (λ k w upto there. h (suc k) w (omega (arith, upto)) there)

-- a text in UTF-8, greater than the words before a place and less than those from another on
pub record LiesBetween (ws : List (ArcStr Global)) (from to : ℕ) (s : List ℕ) : Type 0 where
  pub utf8 : is_utf8 s ≡ true
  pub above : AreLessBefore from s ws
  pub below : AreGreaterFrom to s ws

pub lies : (ws : List (ArcStr Global)) (from to : ℕ) (s : List ℕ) → is_one_of ws (others.Between from to) s ≡ true → LiesBetween ws from to s
lies ws from to s h =
    let above : ArcStr Global → Bool = λ w. is_less (arc_str_bytes w) s in
    let below : ArcStr Global → Bool = λ w. is_less s (arc_str_bytes w) in
    let first = both_true (is_utf8 s) (list_all above (take from ws) && list_all below (drop to ws)) h in
    let rest = both_true (list_all above (take from ws)) (list_all below (drop to ws)) first.1 in
    record { utf8 = first.0; above = all_before above ws from rest.0; below = all_from below ws to rest.1 }

pub lies_so : (ws : List (ArcStr Global)) (from to : ℕ) (s : List ℕ) → LiesBetween ws from to s → is_one_of ws (others.Between from to) s ≡ true
lies_so ws from to s h =
    let above : ArcStr Global → Bool = λ w. is_less (arc_str_bytes w) s in
    let below : ArcStr Global → Bool = λ w. is_less s (arc_str_bytes w) in
    both (is_utf8 s) (list_all above (take from ws) && list_all below (drop to ws)) h.utf8
    (both (list_all above (take from ws)) (list_all below (drop to ws)) (before_all above ws from h.above) (from_all below ws to h.below))

-- between other words
pub lies_wider : (ws : List (ArcStr Global)) (from to first end : ℕ) (s : List ℕ) → first ≤ from → to ≤ end → is_one_of ws (others.Between from to) s ≡ true → is_one_of ws (others.Between first end) s ≡ true
lies_wider ws from to first end s h k e =
    let is = lies ws from to s e in
    lies_so ws first end s (record { utf8 = is.utf8; above = λ j w less there. is.above j w (omega (arith, less, h)) there; below = λ j w upto there. is.below j w (omega (arith, upto, k)) there })

-- ---- texts between words, cut at one of these

same_truth : (a b : Bool) → (a ≡ true → b ≡ true) → (b ≡ true → a ≡ true) → a ≡ b
same_truth true b h k = sym (h refl)
same_truth false true h k = k refl
same_truth false false h k = refl

left_of : (a b : Bool) → a ≡ true → (a || b) ≡ true
left_of true b e = refl
left_of false b e = cc

pub lies_parted : (ws : List (ArcStr Global)) (from to at : ℕ) (s : List ℕ) → AreInOrder ws → from < at → at ≤ to → is_text_among ws s ≡ false
    → is_one_of ws (others.Between from to) s ≡ (is_one_of ws (others.Between from (at - 1)) s || is_one_of ws (others.Between at to) s)
lies_parted ws from to at s order h k none =
    same_truth all (low || high) parted (λ e. elim (or_cases low high e) [
      | inl f ↦ lies_wider ws from (at - 1) from to s (omega arith) (omega (arith, k)) f
      | inr f ↦ lies_wider ws at to from to s (omega (arith, h)) (omega arith) f
    ])
  where
    all : Bool
    all = is_one_of ws (others.Between from to) s

    low : Bool
    low = is_one_of ws (others.Between from (at - 1)) s

    high : Bool
    high = is_one_of ws (others.Between at to) s

    -- the word that they are cut at, if there is one
    word : ((w : ArcStr Global) × (slice_get ws (at - 1) ≡ Some w)) ⊎ (length ws ≤ at - 1)
    word = elim (side (at - 1) (length ws)) [ inl less ↦ inl (element ws (at - 1) less) | inr past ↦ inr past ]
      where
        side : (j k : ℕ) → (j < k) ⊎ (k ≤ j)
        side j k = grind arith

    parted : all ≡ true → (low || high) ≡ true
    parted e =
        let is = lies ws from to s e in
        elim word [
          | inl w ↦ elim (less_or_greater_word ws (at - 1) w.0 s w.1 none is.utf8) [
            | inl less ↦ left_of low high (lies_so ws from (at - 1) s (record { utf8 = is.utf8; above = is.above; below = less_from ws order (at - 1) w.0 s w.1 less }))
            | inr greater ↦ or_right low high (lies_so ws at to s (record {
              utf8 = is.utf8;
              above = λ j v less here. greater_before ws order (at - 1) w.0 s w.1 greater j v (omega (arith, less, h)) here;
              below = is.below;
            }))
          ]
          | inr past ↦ left_of low high (lies_so ws from (at - 1) s (record { utf8 = is.utf8; above = is.above; below = λ j v upto here. absurd (omega (arith, past, upto, slice_get_within ws j v here)) }))
        ]

-- ---- some of the words in order

at_take : (ws : List (ArcStr Global)) (n k : ℕ) (w : ArcStr Global) → slice_get (take n ws) k ≡ Some w → slice_get ws k ≡ Some w
at_take [] zero k w h = cc
at_take [] (suc n) k w h = cc
at_take (v ∷ ws) zero k w h = cc
at_take (v ∷ ws) (suc n) zero w h = h
at_take (v ∷ ws) (suc n) (suc k) w h = at_take ws n k w h

at_drop : (ws : List (ArcStr Global)) (n k : ℕ) (w : ArcStr Global) → slice_get (drop n ws) k ≡ Some w → slice_get ws (n + k) ≡ Some w
at_drop ws zero k w h = ap (slice_get ws) (omega arith) ∙ h
at_drop [] (suc n) k w h = cc
at_drop (v ∷ ws) (suc n) k w h = let same : suc n + k ≡ suc (n + k) = omega arith in ap (slice_get (v ∷ ws)) same ∙ at_drop ws n k w h

run_in_order : (ws : List (ArcStr Global)) (from to : ℕ) → AreInOrder ws → AreInOrder (words_within ws from to)
run_in_order ws from to order i a b here there =
    order (from + i) a b (at_take ws to (from + i) a (at_drop (take to ws) from i a here))
    (ap (slice_get ws) (omega arith) ∙ at_take ws to (from + (i + 1)) b (at_drop (take to ws) from (i + 1) b there))

place_of : (ws : List (ArcStr Global)) (s : List ℕ) → is_text_among ws s ≡ true → (k : ℕ) × (w : ArcStr Global) × (slice_get ws k ≡ Some w) × (s ≡ arc_str_bytes w)
place_of [] s h = cc
place_of (v ∷ ws) s h = elim (or_cases (bytes_eq s (arc_str_bytes v)) (is_text_among ws s) h) [
  | inl e ↦ (0, v, refl, (bytes_eq-Decides s (arc_str_bytes v)).0 e)
  | inr e ↦ let one = place_of ws s e in (suc one.0, one.1, one.2, one.3)
]

-- words in order are within the first and the last
word_within : (ws : List (ArcStr Global)) (s : List ℕ) → AreInOrder ws → is_text_among ws s ≡ true → is_within ws s ≡ true
word_within ws s order among =
    let one = place_of ws s among in
    both (not (is_less_than s (slice_get ws 0))) (not (is_greater_than s (slice_get ws (length ws - 1))))
    (first one.0 one.1 one.2 one.3 (slice_get ws 0) refl) (last one.0 one.1 one.2 one.3 (slice_get ws (length ws - 1)) refl)
  where
    first : (k : ℕ) (w : ArcStr Global) → slice_get ws k ≡ Some w → s ≡ arc_str_bytes w → (o : Option (ArcStr Global)) → slice_get ws 0 ≡ o → not (is_less_than s o) ≡ true
    first k w there is None e = refl
    first zero w there is (Some v) e = ap not (ap₂ is_less is (ap arc_str_bytes (same_Some v w (sym e ∙ there))) ∙ less_itself (arc_str_bytes w))
    first (suc k) w there is (Some v) e = ap not (ap (λ u. is_less u (arc_str_bytes v)) is ∙ less_back (arc_str_bytes v) (arc_str_bytes w) (ordered ws order 0 (suc k) v w (omega arith) e there))

    last : (k : ℕ) (w : ArcStr Global) → slice_get ws k ≡ Some w → s ≡ arc_str_bytes w → (o : Option (ArcStr Global)) → slice_get ws (length ws - 1) ≡ o → not (is_greater_than s o) ≡ true
    last k w there is None e = refl
    last k w there is (Some v) e = elim (below_next k (length ws - 1) (omega (arith, slice_get_within ws k w there))) [
      | inl before ↦ ap not (ap (is_less (arc_str_bytes v)) is ∙ less_back (arc_str_bytes w) (arc_str_bytes v) (ordered ws order k (length ws - 1) w v before there e))
      | inr at ↦ ap not (ap₂ is_less (ap arc_str_bytes (same_Some v w (sym e ∙ ap (slice_get ws) (sym at) ∙ there))) is ∙ less_itself (arc_str_bytes w))
    ]

pub word_of_run : (ws : List (ArcStr Global)) (from to : ℕ) (s : List ℕ) → AreInOrder ws → is_text_among (words_within ws from to) s ≡ true → is_word (words_within ws from to) (text s) ≡ true
word_of_run ws from to s order among = both (is_text_among (words_within ws from to) s) (is_within (words_within ws from to) s) among (word_within (words_within ws from to) s (run_in_order ws from to order) among)
