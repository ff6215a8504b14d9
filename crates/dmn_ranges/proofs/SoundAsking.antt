-- What the analysis of a table rules out is not so.
use Rattle.std.proofs.Common.{◌≡◌, ◌∙◌, refl, sym, ap, subst, ℕ, zero, suc, ◌+◌, ◌<◌, ◌≤◌, ℤ, List, [], ◌∷◌, ◌++◌, length, get_or, map, drop, append_assoc, Bool, true, false, ◌&&◌, ◌||◌, Option, None, Some, inl, inr, ◌⊎◌, arith}
use Rattle.std.specs.Prelude.{bytes_eq}
use Rattle.std.specs.Arc.{arc_str_bytes}
use Rattle.std.specs.List.{list_all, list_any, slice_get}
use Rattle.std.specs.declared.alloc.Global.{Global}
use Rattle.std.specs.declared.sync.ArcStr.{ArcStr}
use Rattle.std.proofs.lemmas.List.{at_drop_more}
use Rattle.std.proofs.lemmas.Option.{same_Some}
use Rattle.feel_value.proofs.Booleans.{both_true}
use Rattle.feel_value.specs.Datum.{Datum, null, boolean, number, text, list, context}
use Rattle.feel_value.specs.Found.{◌>>=◌, each}
use Rattle.feel_value.specs.Limits.{in_range, is_value}
use Rattle.feel_text.proofs.Bindings.{bytes_eq-turned}
use Rattle.feel_text.specs.Meaning.{Bindings}
use Rattle.dmn_table.proofs.Each.{each_length}
use Rattle.dmn_table.specs.Hits.{does_hit, kept, hit_of}
use Rattle.dmn_table.specs.Priority.{Hit}
use Rattle.dmn_table.specs.Table.{Column, Rule, Table}
use Rattle.dmn_analysis.specs.Asked.{is_asked, is_asked_number, is_asked_text}
use Rattle.dmn_analysis.specs.Cells.{is_text_among}
use Rattle.dmn_analysis.specs.Claims.{AreInputs, AreAsked, HasHit, AlwaysHit, IsUniqueAmong}
use Rattle.dmn_analysis.specs.declared.asked.Asked.{Asked}
use Rattle.dmn_ranges.specs.Asking.{text_in, texts_in, numbers_asked, AskColumns, AllIn, SomeHits, NoTwoHit, OneHits, without, Narrows}
use Rattle.dmn_ranges.specs.Ranges.{text_of, is_word, within, keeps, lies_in}
use Rattle.dmn_ranges.specs.Steps.{are_numbers}
use Rattle.dmn_ranges.specs.declared.interval.Interval.{Interval}
use Rattle.dmn_ranges.specs.declared.outcomes.Outcomes.{Outcomes}
use Rattle.dmn_ranges.specs.declared.range.Range.{Range}
use Rattle.dmn_ranges.specs.declared.tally.Tally.{Tally}
use Rattle.dmn_ranges.specs.declared.texts.Word.{Word}
use Rattle.dmn_ranges.proofs.Joins.{or_left, or_right, and_both}
use Rattle.dmn_ranges.proofs.Sizes.{kept_value, number_ranged}
use Rattle.dmn_ranges.proofs.SoundTallies.{Tells, FoundTold, hits_among, outputs_of_hits}

-- ---- texts

by_bytes : (ts : List (ArcStr Global)) (s : List ℕ) → is_text_among ts s ≡ list_any (bytes_eq s) (map arc_str_bytes ts)
by_bytes [] s = refl
by_bytes (t ∷ ts) s = ap (λ b. bytes_eq s (arc_str_bytes t) || b) (by_bytes ts s)

words_any : (ws : List (Option Word)) (s : List ℕ) → list_any (is_word s) ws ≡ list_any (bytes_eq s) (texts_in ws)
words_any [] s = refl
words_any (None ∷ ws) s = words_any ws s
words_any (Some w ∷ ws) s = ap (λ b. b || list_any (is_word s) ws) (bytes_eq-turned (text_of w) s) ∙ ap (λ b. bytes_eq s (text_of w) || b) (words_any ws s)

pub among_texts : (ws : List (Option Word)) (ts : List (ArcStr Global)) (s : List ℕ) → map arc_str_bytes ts ≡ texts_in ws → list_any (is_word s) ws ≡ true → is_text_among ts s ≡ true
among_texts ws ts s same e = by_bytes ts s ∙ ap (list_any (bytes_eq s)) same ∙ sym (words_any ws s) ∙ e

map_append : {X Y : Type 0} (f : X → Y) (xs ys : List X) → map f (xs ++ ys) ≡ map f xs ++ map f ys
map_append f [] ys = refl
map_append f (x ∷ xs) ys = ap (λ zs. f x ∷ zs) (map_append f xs ys)

-- the text of a word more, if it is there
pub text_turn : (whole : List (List ℕ)) (old next : List (List ℕ)) (ws : List (Option Word)) (i : ℕ) → whole ≡ old ++ texts_in (drop i ws) → i < length ws → next ≡ old ++ text_in (get_or ws i None)
    → whole ≡ next ++ texts_in (drop (i + 1) ws)
text_turn whole old next ws i so_far more pushed =
    so_far ∙ at_drop_more (λ vs. old ++ texts_in vs) ws i None more
    ∙ sym (append_assoc old (text_in (get_or ws i None)) (texts_in (drop (i + 1) ws)))
    ∙ ap (λ zs. zs ++ texts_in (drop (i + 1) ws)) (sym pushed)

pub text_pushed : (old next : List (ArcStr Global)) (t : ArcStr Global) (s : List ℕ) → next ≡ old ++ t ∷ [] → arc_str_bytes t ≡ s → map arc_str_bytes next ≡ map arc_str_bytes old ++ s ∷ []
text_pushed old next t s pushed same = ap (λ (ts : List (ArcStr Global)). map arc_str_bytes ts) pushed ∙ map_append arc_str_bytes old (t ∷ []) ∙ ap (λ (u : List ℕ). map arc_str_bytes old ++ u ∷ []) same

-- ---- values

within_asked : (o : Option Interval) (z : ℤ) → within o z ≡ true → is_asked_number (numbers_asked o) z ≡ true
within_asked None z h = cc
within_asked (Some i) z h = h

pub range_told : (r : Range) (a : Asked) → a.null ≡ r.nulls → a.truths ≡ (r.trues || r.falses) → a.numbers ≡ numbers_asked r.numbers → ((s : List ℕ) → lies_in r (text s) ≡ true → is_asked_text a.texts s ≡ true) → a.parted ≡ (r.lists || r.contexts)
    → (v : Datum) → lies_in r v ≡ true → is_asked a v ≡ true
range_told r a null_is truths_is numbers_is texts_are parted_is null h = null_is ∙ h
range_told r a null_is truths_is numbers_is texts_are parted_is (boolean true) h = truths_is ∙ or_left r.trues r.falses h
range_told r a null_is truths_is numbers_is texts_are parted_is (boolean false) h = truths_is ∙ or_right r.trues r.falses h
range_told r a null_is truths_is numbers_is texts_are parted_is (number z) h = ap (λ n. is_asked_number n z) numbers_is ∙ within_asked r.numbers z h
range_told r a null_is truths_is numbers_is texts_are parted_is (text s) h = texts_are s h
range_told r a null_is truths_is numbers_is texts_are parted_is (list ds) h = parted_is ∙ or_left r.lists r.contexts (both_true r.lists (keeps r.size (list ds)) h).0
range_told r a null_is truths_is numbers_is texts_are parted_is (context es) h = parted_is ∙ or_right r.lists r.contexts (both_true r.contexts (keeps r.size (context es)) h).0

pub pushed_at : {X : Type 0} (xs : List X) (x y : X) (k : ℕ) → slice_get (xs ++ x ∷ []) k ≡ Some y → (slice_get xs k ≡ Some y) ⊎ ((k ≡ length xs) × (x ≡ y))
pushed_at [] x y zero e = inr (refl, same_Some x y e)
pushed_at [] x y (suc k) e = cc
pushed_at (z ∷ xs) x y zero e = inl e
pushed_at (z ∷ xs) x y (suc k) e = elim (pushed_at xs x y k e) [ inl p ↦ inl p | inr q ↦ inr (ap suc q.0, q.1) ]

pub none_among : (ts : List (ArcStr Global)) (s : List ℕ) → ts ≡ [] → is_text_among ts s ≡ true → false ≡ true
none_among ts s none h = let P : List (ArcStr Global) → Type 0 = λ us. is_text_among us s ≡ true in subst P none h

pub columns_none : (os : List Outcomes) (asked : List Asked) → asked ≡ [] → AskColumns os asked
columns_none os asked none k o a there here v h = let P : List Asked → Type 0 = λ xs. slice_get xs k ≡ Some a in absurd (nothing_there k a (subst P none here))
  where
    nothing_there : (i : ℕ) (b : Asked) → slice_get [] i ≡ Some b → ⊥
    nothing_there i b e = cc

-- one column more
pub columns_more : (os : List Outcomes) (old new : List Asked) (o : Outcomes) (a : Asked) → AskColumns os old → new ≡ old ++ a ∷ [] → slice_get os (length old) ≡ Some o → ((v : Datum) → lies_in o.range v ≡ true → is_asked a v ≡ true) → AskColumns os new
columns_more os old new o a before more here told k p b there asked v h =
    elim (pushed_at old a b k (ap (λ xs. slice_get xs k) (sym more) ∙ asked)) [
      | inl left ↦ before k p b there left v h
      | inr last ↦
          let same : p ≡ o = same_Some p o (sym there ∙ ap (slice_get os) last.0 ∙ here) in
          subst (λ (c : Asked). is_asked c v ≡ true) last.1 (told v (subst (λ (q : Outcomes). lies_in q.range v ≡ true) same h))
    ]

pub all_in_length : (os : List Outcomes) (vs : List Datum) → AllIn os vs → length vs ≡ length os
all_in_length [] [] all = refl
all_in_length [] (v ∷ vs) all = absurd all
all_in_length (o ∷ os) [] all = absurd all
all_in_length (o ∷ os) (v ∷ vs) all = ap suc (all_in_length os vs all.1)

-- a value's column
column_of : (os : List Outcomes) (vs : List Datum) → AllIn os vs → (k : ℕ) (v : Datum) → slice_get vs k ≡ Some v → (o : Outcomes) × (slice_get os k ≡ Some o) × (lies_in o.range v ≡ true)
column_of [] [] all k v there = cc
column_of [] (w ∷ vs) all k v there = absurd all
column_of (o ∷ os) [] all k v there = absurd all
column_of (o ∷ os) (w ∷ vs) all zero v there = (o, refl, subst (λ u. lies_in o.range u ≡ true) (same_Some w v there) all.0)
column_of (o ∷ os) (w ∷ vs) all (suc k) v there = column_of os vs all.1 k v there

are_asked : (os : List Outcomes) (asked : List Asked) (vs : List Datum) → AskColumns os asked → AllIn os vs → AreAsked asked vs
are_asked os asked vs told all k a v there value = let o = column_of os vs all k v value in told k o.0 a o.1 there v o.2

value_in : (r : Range) (v : Datum) → are_numbers r.numbers ≡ true → lies_in r v ≡ true → is_value v ≡ true
value_in r null n h = refl
value_in r (boolean b) n h = refl
value_in r (number z) n h = and_both (in_range z && true) true (and_both (in_range z) true (number_ranged r.numbers z h n) refl) refl
value_in r (text s) n h = refl
value_in r (list ds) n h = kept_value r.size (list ds) (both_true r.lists (keeps r.size (list ds)) h).1
value_in r (context es) n h = kept_value r.size (context es) (both_true r.contexts (keeps r.size (context es)) h).1

abbrev in_numbers : List Outcomes → Bool
in_numbers os = list_all (λ o. are_numbers o.range.numbers) os

are_values : (os : List Outcomes) (vs : List Datum) → in_numbers os ≡ true → AllIn os vs → (k : ℕ) (d : Datum) → k < length vs → is_value (get_or vs k d) ≡ true
are_values [] [] n all k d inside = absurd (omega (arith, inside))
are_values [] (v ∷ vs) n all k d inside = absurd all
are_values (o ∷ os) [] n all k d inside = absurd all
are_values (o ∷ os) (v ∷ vs) n all zero d inside = value_in o.range v (both_true (are_numbers o.range.numbers) (in_numbers os) n).0 all.0
are_values (o ∷ os) (v ∷ vs) n all (suc k) d inside = are_values os vs (both_true (are_numbers o.range.numbers) (in_numbers os) n).1 all.1 k d (omega (arith, inside))

are_inputs : (count : ℕ) (os : List Outcomes) (vs : List Datum) → length os ≡ count → list_all (λ o. are_numbers o.range.numbers) os ≡ true → AllIn os vs → AreInputs count vs
are_inputs count os vs long n all = record { one_each = all_in_length os vs all ∙ long; lawful = are_values os vs n all }

-- ---- what the analysis says

pub some_hits : (count : ℕ) (rules : List Rule) (os : List Outcomes) (asked : List Asked) → length os ≡ count → list_all (λ o. are_numbers o.range.numbers) os ≡ true → AskColumns os asked → AlwaysHit count rules asked → SomeHits rules os
some_hits count rules os asked long n told always m vs all = always m vs (are_inputs count os vs long n all) (are_asked os asked vs told all)

pub one_hits : (t : Table) (os : List Outcomes) (asked : List Asked) → length os ≡ length t.inputs → list_all (λ o. are_numbers o.range.numbers) os ≡ true → AskColumns os asked → IsUniqueAmong t asked → OneHits t.rules os
one_hits t os asked long n told unique m vs all i j r s before first second h k =
    unique m vs (are_inputs (length t.inputs) os vs long n all) (are_asked os asked vs told all) i j r s before first second h k

and_true : (b : Bool) → b ≡ (b && true)
and_true true = refl
and_true false = refl

true_false : true ≡ false → ⊥
true_false e = cc

-- nothing is ruled out
pub narrows_nothing : (rules : List Rule) (os : List Outcomes) (t : Tally) → Narrows rules os t t
narrows_nothing rules os t = record {
  none = true;
  several = true;
  is = ap (λ (b : Bool). record t { may_be_none = b }) (and_true t.may_be_none) ∙ ap (λ (b : Bool). record t { may_be_none = t.may_be_none && true; may_be_several = b }) (and_true t.may_be_several);
  some = λ e. absurd (true_false e);
  one = λ e. absurd (true_false e);
}

-- what the code says of both
pub narrows_by : (t : Table) (os : List Outcomes) (ps qs : List Asked) (whole found : Tally) (sure none several : Bool) → length os ≡ length t.inputs → sure ≡ in_numbers os → sure ≡ true → AskColumns os ps → qs ≡ ps
    → (none ≡ false → AlwaysHit (length t.inputs) t.rules ps) → (several ≡ false → IsUniqueAmong t qs) → found ≡ without whole none several → Narrows t.rules os whole found
narrows_by t os ps qs whole found sure none several long numbers told columns same always unique is = record {
  none = none;
  several = several;
  is = is;
  some = λ e. some_hits (length t.inputs) t.rules os ps long (sym numbers ∙ told) columns (always e);
  one = λ e. one_hits t os qs long (sym numbers ∙ told) (subst (AskColumns os) (sym same) columns) (unique e);
}

-- ---- how many hit

rest_of : (b : Bool) (o : Option (List Bool)) (ys : List Bool) → (o >>= λ zs. Some (b ∷ zs)) ≡ Some ys → (zs : List Bool) × (o ≡ Some zs) × (ys ≡ b ∷ zs)
rest_of b None ys e = cc
rest_of b (Some zs) ys e = (zs, refl, sym (same_Some (b ∷ zs) ys e))

answer_of : (a : Option Bool) (o : Option (List Bool)) (ys : List Bool) → (a >>= λ y. o >>= λ zs. Some (y ∷ zs)) ≡ Some ys → (b : Bool) × (a ≡ Some b) × ((o >>= λ zs. Some (b ∷ zs)) ≡ Some ys)
answer_of None o ys e = cc
answer_of (Some b) o ys e = (b, refl, e)

-- the answer of the first rule, and those of the others
first_answer : (m : Bindings) (vs : List Datum) (r : Rule) (rs : List Rule) (ys : List Bool) → each (does_hit m vs) (r ∷ rs) ≡ Some ys
    → (b : Bool) × (zs : List Bool) × (does_hit m vs r ≡ Some b) × (each (does_hit m vs) rs ≡ Some zs) × (ys ≡ b ∷ zs)
first_answer m vs r rs ys e =
    let a = answer_of (does_hit m vs r) (each (does_hit m vs) rs) ys e in
    let z = rest_of a.0 (each (does_hit m vs) rs) ys a.2 in
    (a.0, z.0, a.1, z.1, z.2)

more_kept : (b : Bool) (r : Rule) (rs : List Rule) (zs : List Bool) → length (kept rs zs) ≤ length (kept (r ∷ rs) (b ∷ zs))
more_kept true r rs zs = omega arith
more_kept false r rs zs = omega arith

hit_kept : (b : Bool) (r : Rule) (rs : List Rule) (zs : List Bool) → b ≡ true → 1 ≤ length (kept (r ∷ rs) (b ∷ zs))
hit_kept true r rs zs e = omega arith
hit_kept false r rs zs e = cc

some_kept : (m : Bindings) (vs : List Datum) (rs : List Rule) (ys : List Bool) (k : ℕ) (s : Rule) → each (does_hit m vs) rs ≡ Some ys → slice_get rs k ≡ Some s → does_hit m vs s ≡ Some true → 1 ≤ length (kept rs ys)
some_kept m vs [] ys k s e there hits = cc
some_kept m vs (r ∷ rs) ys zero s e there hits =
    let f = first_answer m vs r rs ys e in
    let P : List Bool → Type 0 = λ zs. 1 ≤ length (kept (r ∷ rs) zs) in
    let same : does_hit m vs r ≡ Some true = ap (does_hit m vs) (same_Some r s there) ∙ hits in
    subst P (sym f.4) (hit_kept f.0 r rs f.1 (same_Some f.0 true (sym f.2 ∙ same)))
some_kept m vs (r ∷ rs) ys (suc k) s e there hits =
    let f = first_answer m vs r rs ys e in
    let P : List Bool → Type 0 = λ zs. 1 ≤ length (kept (r ∷ rs) zs) in
    let rest = some_kept m vs rs f.1 k s f.3 there hits in
    subst P (sym f.4) (omega (arith, rest, more_kept f.0 r rs f.1))

none_by : (b : Bool) (r : Rule) (rs : List Rule) (zs : List Bool) → (b ≡ true → ⊥) → length (kept rs zs) ≤ 0 → length (kept (r ∷ rs) (b ∷ zs)) ≤ 0
none_by true r rs zs h k = absurd (h refl)
none_by false r rs zs h k = k

none_kept : (m : Bindings) (vs : List Datum) (rs : List Rule) (ys : List Bool) → each (does_hit m vs) rs ≡ Some ys → ((k : ℕ) (s : Rule) → slice_get rs k ≡ Some s → does_hit m vs s ≡ Some true → ⊥) → length (kept rs ys) ≤ 0
none_kept m vs [] ys e none = omega arith
none_kept m vs (r ∷ rs) ys e none =
    let f = first_answer m vs r rs ys e in
    let P : List Bool → Type 0 = λ zs. length (kept (r ∷ rs) zs) ≤ 0 in
    subst P (sym f.4) (none_by f.0 r rs f.1 (λ h. none 0 r refl (f.2 ∙ ap Some h)) (none_kept m vs rs f.1 f.3 (λ k s. none (suc k) s)))

few_by : (b : Bool) (r : Rule) (rs : List Rule) (zs : List Bool) → (b ≡ true → length (kept rs zs) ≤ 0) → length (kept rs zs) ≤ 1 → length (kept (r ∷ rs) (b ∷ zs)) ≤ 1
few_by true r rs zs h k = omega (arith, h refl)
few_by false r rs zs h k = k

few_kept : (m : Bindings) (vs : List Datum) (rs : List Rule) (ys : List Bool) → each (does_hit m vs) rs ≡ Some ys → NoTwoHit m vs rs → length (kept rs ys) ≤ 1
few_kept m vs [] ys e one = omega arith
few_kept m vs (r ∷ rs) ys e one =
    let f = first_answer m vs r rs ys e in
    let P : List Bool → Type 0 = λ zs. length (kept (r ∷ rs) zs) ≤ 1 in
    subst P (sym f.4)
    (few_by f.0 r rs f.1 (λ h. none_kept m vs rs f.1 f.3 (λ k s there hits. one 0 (suc k) r s (omega arith) refl there (f.2 ∙ ap Some h) hits))
    (few_kept m vs rs f.1 f.3 (λ i j p q before first second h k. one (suc i) (suc j) p q (omega (arith, before)) first second h k)))

-- ---- a tally without what is not so

none_told : (b none : Bool) → b ≡ true → (none ≡ false → 1 ≤ 0) → (b && none) ≡ true
none_told b true e h = and_both b true e refl
none_told b false e h = absurd (omega (arith, h refl))

two_told : (b several : Bool) (n : ℕ) → b ≡ true → (several ≡ false → suc (suc n) ≤ 1) → (b && several) ≡ true
two_told b true n e h = and_both b true e refl
two_told b false n e h = absurd (omega (arith, h refl))

tells_without : (t : Tally) (none several : Bool) (hs : List Hit) → Tells t (outputs_of_hits hs) → (none ≡ false → 1 ≤ length hs) → (several ≡ false → length hs ≤ 1) → Tells (without t none several) (outputs_of_hits hs)
tells_without t none several [] tells some one = record { outputs = refl; first = none_told t.may_be_none none tells.first some; some = refl; several = refl; total = tells.total }
tells_without t none several (h ∷ []) tells some one = record { outputs = tells.outputs; first = tells.first; some = tells.some; several = refl; total = tells.total }
tells_without t none several (h ∷ k ∷ hs) tells some one = record { outputs = tells.outputs; first = tells.first; some = tells.some; several = two_told t.may_be_several several (length hs) tells.several one; total = tells.total }

-- hits as there are
abbrev HaveHits : Bool → Bool → Option (List Hit) → Type 0
HaveHits none several None = Unit {0}
HaveHits none several (Some hs) = (none ≡ false → 1 ≤ length hs) × (several ≡ false → length hs ≤ 1)

found_without : (t : Tally) (none several : Bool) (found : Option (List Hit)) → FoundTold t (found >>= λ hs. Some (outputs_of_hits hs)) → HaveHits none several found → FoundTold (without t none several) (found >>= λ hs. Some (outputs_of_hits hs))
found_without t none several None told have = told
found_without t none several (Some hs) told have = tells_without t none several hs told have.0 have.1

hits_counted : (cs : List Column) (m : Bindings) (rs : List Rule) (none several : Bool) (found : Option (List Hit)) → each (hit_of cs m) rs ≡ found → (none ≡ false → 1 ≤ length rs) → (several ≡ false → length rs ≤ 1) → HaveHits none several found
hits_counted cs m rs none several None e some one = tt
hits_counted cs m rs none several (Some hs) e some one =
    let same = each_length (hit_of cs m) rs hs e in (λ h. omega (arith, some h, same), λ h. omega (arith, one h, same))

have_by : (m : Bindings) (vs : List Datum) (cs : List Column) (rs : List Rule) (none several : Bool) (ys : Option (List Bool)) → each (does_hit m vs) rs ≡ ys → (none ≡ false → HasHit m vs rs) → (several ≡ false → NoTwoHit m vs rs)
    → HaveHits none several (ys >>= λ zs. each (hit_of cs m) (kept rs zs))
have_by m vs cs rs none several None e some one = tt
have_by m vs cs rs none several (Some ys) e some one =
    hits_counted cs m (kept rs ys) none several (each (hit_of cs m) (kept rs ys)) refl
    (λ h. (let hit = some h in some_kept m vs rs ys hit.place hit.rule e hit.there hit.hits)) (λ h. few_kept m vs rs ys e (one h))

pub narrowed_told : (rules : List Rule) (cs : List Column) (os : List Outcomes) (m : Bindings) (vs : List Datum) (whole found : Tally) → Narrows rules os whole found → AllIn os vs
    → FoundTold whole (hits_among m vs cs rules >>= λ hs. Some (outputs_of_hits hs)) → FoundTold found (hits_among m vs cs rules >>= λ hs. Some (outputs_of_hits hs))
narrowed_told rules cs os m vs whole found narrows all told =
    let P : Tally → Type 0 = λ t. FoundTold t (hits_among m vs cs rules >>= λ hs. Some (outputs_of_hits hs)) in
    subst P (sym narrows.is)
    (found_without whole narrows.none narrows.several (hits_among m vs cs rules) told
    (have_by m vs cs rules narrows.none narrows.several (each (does_hit m vs) rules) refl (λ e. narrows.some e m vs all) (λ e. narrows.one e m vs all)))
