-- Cells cut in two.
use Rattle.std.proofs.Common.{◌≡◌, ◌∙◌, sym, ap, ap₂, refl, subst, length-set, ℕ, zero, suc, ◌-◌, ◌<◌, ◌≤◌, ◌⊎◌, inl, inr, ℤ, pos, List, [], ◌∷◌, length, take, drop, set, Bool, true, false, not, ◌&&◌, ◌||◌, if◌then◌else◌, Some, None, Option, arith}
use Rattle.std.specs.Arc.{arc_str_bytes}
use Rattle.std.specs.Prelude.{bytes_eq, int_le, ◌<ℤ◌, ◌≤ℤ◌, ◌-ℤ◌}
use Rattle.std.specs.List.{list_any, slice_get}
use Rattle.std.specs.declared.alloc.Global.{Global}
use Rattle.std.specs.declared.sync.ArcStr.{ArcStr}
use Rattle.std.proofs.lemmas.Bool.{and_right, cases_Bool}
use Rattle.std.proofs.lemmas.Int.{ints}
use Rattle.std.proofs.lemmas.Option.{same_Some}
use Rattle.feel_value.specs.Datum.{Datum, null, boolean, number, text, list, context}
use Rattle.dmn_analysis.specs.Cells.{AllInOrder, AreIn, AreInOrder, is_in, is_one_of, is_text_among, is_text_in, words_within}
use Rattle.dmn_analysis.specs.Cutting.{AreHalves, MakeUp, between_alone, kept_of, numbers_alone, other_kinds_of, with_from, with_low, with_others, words_alone}
use Rattle.dmn_analysis.specs.declared.cutting.Kinds.{Kinds}
use Rattle.dmn_analysis.specs.declared.cell.Cell.{Cell}
use Rattle.dmn_analysis.specs.declared.cell.Others.{Others}
use Rattle.dmn_analysis.specs.declared.cell.Others.TheVariants as others
use Rattle.dmn_analysis.specs.declared.cell.Words.{Words}
use Rattle.dmn_analysis.proofs.Places.{All-at, element}
use Rattle.dmn_analysis.proofs.TextOrder.{lies_parted}

-- ---- truth values

or_assoc : (a b c : Bool) → (a || (b || c)) ≡ ((a || b) || c)
or_assoc true b c = refl
or_assoc false b c = refl

or_false : (a : Bool) → a ≡ (a || false)
or_false true = refl
or_false false = refl

-- ---- words

-- the words up to a place, and those from it on
split_words : (f : ArcStr Global → Bool) (ws : List (ArcStr Global)) (from at to : ℕ) → from ≤ at → at ≤ to
    → list_any f (drop from (take to ws)) ≡ (list_any f (drop from (take at ws)) || list_any f (drop at (take to ws)))
split_words f [] zero zero zero h k = refl
split_words f [] zero zero (suc to) h k = refl
split_words f [] zero (suc at) zero h k = absurd (omega (arith, k))
split_words f [] zero (suc at) (suc to) h k = refl
split_words f [] (suc from) zero to h k = absurd (omega (arith, h))
split_words f [] (suc from) (suc at) zero h k = absurd (omega (arith, k))
split_words f [] (suc from) (suc at) (suc to) h k = refl
split_words f (w ∷ ws) zero zero zero h k = refl
split_words f (w ∷ ws) zero zero (suc to) h k = refl
split_words f (w ∷ ws) zero (suc at) zero h k = absurd (omega (arith, k))
split_words f (w ∷ ws) zero (suc at) (suc to) h k =
    ap (λ b. f w || b) (split_words f ws zero at to (omega arith) (omega (arith, k))) ∙ or_assoc (f w) (list_any f (take at ws)) (list_any f (drop at (take to ws)))
split_words f (w ∷ ws) (suc from) zero to h k = absurd (omega (arith, h))
split_words f (w ∷ ws) (suc from) (suc at) zero h k = absurd (omega (arith, k))
split_words f (w ∷ ws) (suc from) (suc at) (suc to) h k = split_words f ws from at to (omega (arith, h)) (omega (arith, k))

-- ---- numbers

-- a number below, or at it or above
split_numbers : (low high n z : ℤ) → low <ℤ n → n ≤ℤ high → (int_le low z && int_le z high) ≡ ((int_le low z && int_le z (n -ℤ pos 1)) || (int_le n z && int_le z high))
split_numbers low high n z h k = grind (arith, ints, h, k)

no_number : (z : ℤ) → (int_le (pos 1) z && int_le z (pos 0)) ≡ false
no_number z = grind (arith, ints)

numbers_parted : (low high z : ℤ) (b : Bool)
    → (int_le low z && int_le z high) ≡ ((int_le (if b then low else pos 1) z && int_le z (if b then high else pos 0)) || (int_le (if not b then low else pos 1) z && int_le z (if not b then high else pos 0)))
numbers_parted low high z true = or_false (int_le low z && int_le z high) ∙ ap (λ f. (int_le low z && int_le z high) || f) (sym (no_number z))
numbers_parted low high z false = ap (λ f. f || (int_le low z && int_le z high)) (sym (no_number z))

-- ---- kinds

part_of : (a b : Bool) → a ≡ ((a && b) || (a && not b))
part_of true true = refl
part_of true false = refl
part_of false true = refl
part_of false false = refl

no_words : (ws : List (ArcStr Global)) (s : List ℕ) → is_text_among (words_within ws 0 0) s ≡ false
no_words [] s = refl
no_words (w ∷ ws) s = refl

texts_bools : (w o n kw ko : Bool) → (w || (o && n)) ≡ (((if kw then w else false) || ((o && ko) && n)) || ((if not kw then w else false) || ((o && not ko) && n)))
texts_bools true true true true true = refl
texts_bools true true true true false = refl
texts_bools true true true false true = refl
texts_bools true true true false false = refl
texts_bools true true false true true = refl
texts_bools true true false true false = refl
texts_bools true true false false true = refl
texts_bools true true false false false = refl
texts_bools true false true true true = refl
texts_bools true false true true false = refl
texts_bools true false true false true = refl
texts_bools true false true false false = refl
texts_bools true false false true true = refl
texts_bools true false false true false = refl
texts_bools true false false false true = refl
texts_bools true false false false false = refl
texts_bools false true true true true = refl
texts_bools false true true true false = refl
texts_bools false true true false true = refl
texts_bools false true true false false = refl
texts_bools false true false true true = refl
texts_bools false true false true false = refl
texts_bools false true false false true = refl
texts_bools false true false false false = refl
texts_bools false false true true true = refl
texts_bools false false true true false = refl
texts_bools false false true false true = refl
texts_bools false false true false false = refl
texts_bools false false false true true = refl
texts_bools false false false true false = refl
texts_bools false false false false true = refl
texts_bools false false false false false = refl

kept_words : (ws : List (ArcStr Global)) (from to : ℕ) (s : List ℕ) (b : Bool)
    → (if b then is_text_among (words_within ws from to) s else false) ≡ is_text_among (words_within ws (if b then from else 0) (if b then to else 0)) s
kept_words ws from to s true = refl
kept_words ws from to s false = sym (no_words ws s)

both : (a : Bool) → (a && true) ≡ a
both true = refl
both false = refl

kept_others : (ws : List (ArcStr Global)) (o : Others) (s : List ℕ) (b : Bool) → (is_one_of ws o s && b) ≡ is_one_of ws (if b then o else others.None) s
kept_others ws o s true = both (is_one_of ws o s)
kept_others ws o s false = and_right (is_one_of ws o s) false refl

pub make_up_kinds : (c : Cell) (k : Kinds) → MakeUp c (kept_of c k) (kept_of c (other_kinds_of k))
make_up_kinds c k words null order = part_of c.null k.null
make_up_kinds c k words (boolean true) order = part_of c.yes k.yes
make_up_kinds c k words (boolean false) order = part_of c.no k.no
make_up_kinds c k words (number z) order = numbers_parted c.low c.high z k.numbers
make_up_kinds c k words (text s) order =
    let w = is_text_among (words_within words c.from c.to) s in
    let o = is_one_of words c.others s in
    let n = not (is_text_among words s) in
    texts_bools w o n k.words k.others
    ∙ ap₂ (λ v u. v || u) (half k.words k.others) (half (not k.words) (not k.others))
  where
    half : (kw ko : Bool)
        → ((if kw then is_text_among (words_within words c.from c.to) s else false) || ((is_one_of words c.others s && ko) && not (is_text_among words s)))
        ≡ (is_text_among (words_within words (if kw then c.from else 0) (if kw then c.to else 0)) s || (is_one_of words (if ko then c.others else others.None) s && not (is_text_among words s)))
    half kw ko = ap₂ (λ v u. v || (u && not (is_text_among words s))) (kept_words words c.from c.to s kw) (kept_others words c.others s ko)
make_up_kinds c k words (list ds) order = part_of c.parted k.parted
make_up_kinds c k words (context es) order = part_of c.parted k.parted

-- ---- at a number, or a word

both_off : (a : Bool) → (a || (false && a)) ≡ a
both_off true = refl
both_off false = refl

off : (w n : Bool) → w ≡ false → (w || (false && n)) ≡ false
off true n e = cc
off false n e = refl

pub make_up_numbers : (c : Cell) (n : ℤ) → c.low <ℤ n → n ≤ℤ c.high → MakeUp c (numbers_alone c.low (n -ℤ pos 1)) (with_low c n)
make_up_numbers c n h k words null order = refl
make_up_numbers c n h k words (boolean true) order = refl
make_up_numbers c n h k words (boolean false) order = refl
make_up_numbers c n h k words (number z) order = split_numbers c.low c.high n z h k
make_up_numbers c n h k words (text s) order = ap (λ b. b || is_text_in words c s) (sym (off (is_text_among (words_within words 0 0) s) (not (is_text_among words s)) (no_words words s)))
make_up_numbers c n h k words (list ds) order = refl
make_up_numbers c n h k words (context es) order = refl

words_bools : (a b o n : Bool) → ((a || b) || (o && n)) ≡ ((a || (false && n)) || (b || (o && n)))
words_bools true true true true = refl
words_bools true true true false = refl
words_bools true true false true = refl
words_bools true true false false = refl
words_bools true false true true = refl
words_bools true false true false = refl
words_bools true false false true = refl
words_bools true false false false = refl
words_bools false true true true = refl
words_bools false true true false = refl
words_bools false true false true = refl
words_bools false true false false = refl
words_bools false false true true = refl
words_bools false false true false = refl
words_bools false false false true = refl
words_bools false false false false = refl

pub make_up_words : (c : Cell) (at : ℕ) → c.from ≤ at → at ≤ c.to → MakeUp c (words_alone c.from at) (with_from c at)
make_up_words c at h k words null order = refl
make_up_words c at h k words (boolean true) order = refl
make_up_words c at h k words (boolean false) order = refl
make_up_words c at h k words (number z) order = ap (λ b. b || (int_le c.low z && int_le z c.high)) (sym (no_number z))
make_up_words c at h k words (text s) order =
    let o = is_one_of words c.others s in
    let n = not (is_text_among words s) in
    ap (λ b. b || (o && n)) (split_words (λ t. bytes_eq s (arc_str_bytes t)) words c.from at c.to h k)
    ∙ words_bools (is_text_among (words_within words c.from at) s) (is_text_among (words_within words at c.to) s) o n
make_up_words c at h k words (list ds) order = refl
make_up_words c at h k words (context es) order = refl

-- ---- between words

between_bools : (w a b n : Bool) → (w || ((a || b) && n)) ≡ ((false || (a && n)) || (w || (b && n)))
between_bools true true true true = refl
between_bools true true true false = refl
between_bools true true false true = refl
between_bools true true false false = refl
between_bools true false true true = refl
between_bools true false true false = refl
between_bools true false false true = refl
between_bools true false false false = refl
between_bools false true true true = refl
between_bools false true true false = refl
between_bools false true false true = refl
between_bools false true false false = refl
between_bools false false true true = refl
between_bools false false true false = refl
between_bools false false false true = refl
between_bools false false false false = refl

pub make_up_between : (c : Cell) (from to at : ℕ) → c.others ≡ others.Between from to → from < at → at ≤ to → MakeUp c (between_alone from (at - 1)) (with_others c (others.Between at to))
make_up_between c from to at is h k words null order = refl
make_up_between c from to at is h k words (boolean true) order = refl
make_up_between c from to at is h k words (boolean false) order = refl
make_up_between c from to at is h k words (number z) order = ap (λ b. b || (int_le c.low z && int_le z c.high)) (sym (no_number z))
make_up_between c from to at is h k words (text s) order =
    ap (λ o. w || (is_one_of words o s && n)) is
    ∙ ap (λ b. w || b) (elim (cases_Bool (is_text_among words s)) [
      | inl e ↦ nothing all e ∙ sym (nothing (low || high) e)
      | inr e ↦ ap (λ b. b && n) (lies_parted words from to at s order h k e)
    ])
    ∙ between_bools w low high n
    ∙ ap (λ b. (b || (low && n)) || (w || (high && n))) (sym (no_words words s))
  where
    w : Bool
    w = is_text_among (words_within words c.from c.to) s

    n : Bool
    n = not (is_text_among words s)

    all : Bool
    all = is_one_of words (others.Between from to) s

    low : Bool
    low = is_one_of words (others.Between from (at - 1)) s

    high : Bool
    high = is_one_of words (others.Between at to) s

    nothing : (b : Bool) → is_text_among words s ≡ true → (b && n) ≡ false
    nothing b e = and_right b n (ap not e)
make_up_between c from to at is h k words (list ds) order = refl
make_up_between c from to at is h k words (context es) order = refl

-- ---- cells, one a column

-- what stands at a place of a list of which one element was set
at_set : {X : Type 0} (xs : List X) (i k : ℕ) (x y : X) → slice_get (set xs i x) k ≡ Some y → ((k ≡ i) × (x ≡ y)) ⊎ (slice_get xs k ≡ Some y)
at_set [] i k x y h = cc
at_set (z ∷ xs) zero zero x y h = inl (refl, same_Some x y h)
at_set (z ∷ xs) zero (suc k) x y h = inr h
at_set (z ∷ xs) (suc i) zero x y h = inr h
at_set (z ∷ xs) (suc i) (suc k) x y h = elim (at_set xs i k x y h) [ inl p ↦ inl (ap suc p.0, p.1) | inr q ↦ inr q ]

set_at : {X : Type 0} (xs : List X) (i k : ℕ) (x y : X) → slice_get xs k ≡ Some y → ((k ≡ i) × (slice_get (set xs i x) k ≡ Some x)) ⊎ (slice_get (set xs i x) k ≡ Some y)
set_at [] i k x y h = cc
set_at (z ∷ xs) zero zero x y h = inl (refl, refl)
set_at (z ∷ xs) zero (suc k) x y h = inr h
set_at (z ∷ xs) (suc i) zero x y h = inr h
set_at (z ∷ xs) (suc i) (suc k) x y h = elim (set_at xs i k x y h) [ inl p ↦ inl (ap suc p.0, p.1) | inr q ↦ inr q ]

-- values in cells, of which one was set
put_in : (words : List Words) (cells : List Cell) (values : List Datum) (place : ℕ) (new : Cell)
    → ((ws : Words) (v : Datum) → slice_get words place ≡ Some ws → slice_get values place ≡ Some v → is_in ws.texts.items new v ≡ true) → AreIn words cells values → AreIn words (set cells place new) values
put_in words cells values place new here in_cells = λ k ws c v of there has.
    elim (at_set cells place k new c there) [
      | inl p ↦ subst (λ d. is_in ws.texts.items d v ≡ true) p.1 (here ws v (ap (slice_get words) (sym p.0) ∙ of) (ap (slice_get values) (sym p.0) ∙ has))
      | inr other ↦ in_cells k ws c v of other has
    ]

pub in_order : (words : List Words) → AllInOrder words → (k : ℕ) (ws : Words) → slice_get words k ≡ Some ws → AreInOrder ws.texts.items
in_order words order k ws of = All-at (λ (w : Words). AreInOrder w.texts.items) words k ws order of

-- values in cells of which one was set to a part of it
out_of : (words : List Words) (cells : List Cell) (values : List Datum) (place : ℕ) (old new : Cell) → slice_get cells place ≡ Some old
    → ((ws : List (ArcStr Global)) (v : Datum) → AreInOrder ws → is_in ws new v ≡ true → is_in ws old v ≡ true) → AllInOrder words → AreIn words (set cells place new) values → AreIn words cells values
out_of words cells values place old new at wider order in_new = λ k ws c v of there has.
    elim (set_at cells place k new c there) [
      | inl p ↦
          let same = same_Some old c (sym at ∙ ap (slice_get cells) (sym p.0) ∙ there) in
          subst (λ d. is_in ws.texts.items d v ≡ true) same (wider ws.texts.items v (in_order words order k ws of) (in_new k ws new v of p.1 has))
      | inr other ↦ in_new k ws c v of other has
    ]

left_of : (a b : Bool) → a ≡ true → (a || b) ≡ true
left_of true b e = refl
left_of false b e = cc

right_of : (a b : Bool) → b ≡ true → (a || b) ≡ true
right_of true b e = refl
right_of false b e = e

one_of : (a b : Bool) → (a || b) ≡ true → (a ≡ true) ⊎ (b ≡ true)
one_of true b e = inl refl
one_of false b e = inr e

pub halves_at : (cells : List Cell) (place : ℕ) (old lower upper : Cell) → place < length cells → slice_get cells place ≡ Some old → MakeUp old lower upper
    → AreHalves cells (set cells place lower) (set cells place upper)
halves_at cells place old lower upper within at make = record {
  lower_long = length-set cells place lower;
  upper_long = length-set cells place upper;
  parted = λ words values order long in_cells.
      let v = element values place (omega (arith, long, within)) in
      go words values order in_cells v.0 v.1 (slice_get words place) refl;
  lower_within = λ words values order in_new. out_of words cells values place old lower at (λ ws v o e. make ws v o ∙ left_of (is_in ws lower v) (is_in ws upper v) e) order in_new;
  upper_within = λ words values order in_new. out_of words cells values place old upper at (λ ws v o e. make ws v o ∙ right_of (is_in ws lower v) (is_in ws upper v) e) order in_new;
}
  where
    same_here : (words : List Words) (values : List Datum) (ws : Words) (v : Datum) (new : Cell) → slice_get words place ≡ Some ws → slice_get values place ≡ Some v → is_in ws.texts.items new v ≡ true
        → (ws' : Words) (v' : Datum) → slice_get words place ≡ Some ws' → slice_get values place ≡ Some v' → is_in ws'.texts.items new v' ≡ true
    same_here words values ws v new of has e ws' v' of' has' =
        ap₂ (λ (w : Words) d. is_in w.texts.items new d) (same_Some ws' ws (sym of' ∙ of)) (same_Some v' v (sym has' ∙ has)) ∙ e

    go : (words : List Words) (values : List Datum) → AllInOrder words → AreIn words cells values → (v : Datum) → slice_get values place ≡ Some v → (o : Option Words) → slice_get words place ≡ o
        → AreIn words (set cells place lower) values ⊎ AreIn words (set cells place upper) values
    go words values order in_cells v has None none = inl (put_in words cells values place lower (λ ws d of there. let e : None ≡ Some ws = sym none ∙ of in cc) in_cells)
    go words values order in_cells v has (Some ws) of =
        elim (one_of (is_in ws.texts.items lower v) (is_in ws.texts.items upper v) (sym (make ws.texts.items v (in_order words order place ws of)) ∙ in_cells place ws old v of at has)) [
          | inl e ↦ inl (put_in words cells values place lower (same_here words values ws v lower of has e) in_cells)
          | inr e ↦ inr (put_in words cells values place upper (same_here words values ws v upper of has e) in_cells)
        ]

-- words within others
pub words_inside : (ws : List (ArcStr Global)) (s : List ℕ) (from to from' to' : ℕ) → from' ≤ from → from ≤ to → to ≤ to' → is_text_among (words_within ws from to) s ≡ true → is_text_among (words_within ws from' to') s ≡ true
words_inside ws s from to from' to' h k l e =
    let f : ArcStr Global → Bool = λ t. bytes_eq s (arc_str_bytes t) in
    split_words f ws from' from to' h (omega (arith, k, l))
    ∙ right_of (list_any f (drop from' (take from ws))) (list_any f (drop from (take to' ws)))
    (split_words f ws from to to' k l ∙ left_of (list_any f (drop from (take to ws))) (list_any f (drop to (take to' ws))) e)
