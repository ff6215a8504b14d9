-- Values of columns that are asked about, with all texts in UTF-8 in place of others.
use Rattle.std.proofs.Common.{◌≡◌, ◌∙◌, ◌<◌, ℕ, zero, suc, get_or, List, [], ◌∷◌, ◌++◌, drop, length, arith, true, Some, ◌⊎◌, inl, inr, refl, sym, ap, subst}
use Rattle.std.specs.List.{slice_get}
use Rattle.std.specs.Str.{is_utf8}
use Rattle.std.proofs.lemmas.Option.{same_Some}
use Rattle.feel_value.specs.Datum.{Datum, null, boolean, number, text, list, context}
use Rattle.dmn_analysis.specs.Asked.{is_asked, is_asked_text, is_in_utf8}
use Rattle.dmn_analysis.specs.declared.asked.Asked.{Asked}
use Rattle.dmn_analysis.specs.declared.asked.Texts.{Texts}
use Rattle.std.proofs.lemmas.Option.{slice_get-get_or}
use Rattle.dmn_ranges.specs.Asking.{AskColumns}
use Rattle.dmn_ranges.specs.declared.outcomes.Outcomes.{Outcomes}
use Rattle.desk_checking.specs.ComesView.{AreWiderAsked, AskUtf8Columns}

-- with other texts
pub other_texts : (a : Asked) (t : Texts) → ((s : List ℕ) → is_utf8 s ≡ true → is_asked_text a.texts s ≡ true → is_asked_text t s ≡ true) → (v : Datum) → is_in_utf8 v ≡ true → is_asked a v ≡ true
    → is_asked (record { null = a.null; truths = a.truths; numbers = a.numbers; texts = t; parted = a.parted }) v ≡ true
other_texts a t texts null utf8 h = h
other_texts a t texts (boolean b) utf8 h = h
other_texts a t texts (number z) utf8 h = h
other_texts a t texts (text s) utf8 h = texts s utf8 h
other_texts a t texts (list ds) utf8 h = h
other_texts a t texts (context es) utf8 h = h

-- ---- columns, one after another

pub pushed : (old : List Asked) (a b : Asked) (k : ℕ) → slice_get (old ++ a ∷ []) k ≡ Some b → (slice_get old k ≡ Some b) ⊎ ((k ≡ length old) × (a ≡ b))
pushed [] a b zero e = inr (refl, same_Some a b e)
pushed [] a b (suc k) e = absurd (cc)
pushed (x ∷ old) a b zero e = inl e
pushed (x ∷ old) a b (suc k) e = elim (pushed old a b k e) [ inl p ↦ inl p | inr q ↦ inr (ap suc q.0, q.1) ]

first_left : (all : List Asked) (k : ℕ) (x : Asked) (rest : List Asked) → drop k all ≡ x ∷ rest → slice_get all k ≡ Some x
first_left [] zero x rest e = absurd (cc)
first_left [] (suc k) x rest e = absurd (cc)
first_left (y ∷ all) zero x rest e = cc
first_left (y ∷ all) (suc k) x rest e = first_left all k x rest e

others_left : (all : List Asked) (k : ℕ) (x : Asked) (rest : List Asked) → drop k all ≡ x ∷ rest → drop (suc k) all ≡ rest
others_left [] zero x rest e = absurd (cc)
others_left [] (suc k) x rest e = absurd (cc)
others_left (y ∷ all) zero x rest e = cc
others_left (y ∷ all) (suc k) x rest e = others_left all k x rest e

length_more : (old : List Asked) (a : Asked) → length (old ++ a ∷ []) ≡ suc (length old)
length_more [] a = refl
length_more (x ∷ old) a = ap suc (length_more old a)

pub left_begin : (all rest within : List Asked) → within ≡ [] → rest ≡ all → drop (length within) all ≡ rest
left_begin all rest within none is = ap (λ (ws : List Asked). drop (length ws) all) none ∙ sym is

pub left_more : (all old new rest : List Asked) (x a : Asked) → drop (length old) all ≡ x ∷ rest → new ≡ old ++ a ∷ [] → drop (length new) all ≡ rest
left_more all old new rest x a before is = ap (λ (ws : List Asked). drop (length ws) all) is ∙ ap (λ n. drop n all) (length_more old a) ∙ others_left all (length old) x rest before

pub wider_begin : (all within : List Asked) → within ≡ [] → AreWiderAsked all within
wider_begin all within none k a there = let P : List Asked → Type 0 = λ ws. slice_get ws k ≡ Some a in absurd (nothing_at k a (subst P none there))
  where
    nothing_at : (i : ℕ) (b : Asked) → slice_get [] i ≡ Some b → ⊥
    nothing_at i b e = cc

pub wider_more : (all old new rest : List Asked) (x a : Asked) → AreWiderAsked all old → drop (length old) all ≡ x ∷ rest → new ≡ old ++ a ∷ [] → ((v : Datum) → is_in_utf8 v ≡ true → is_asked x v ≡ true → is_asked a v ≡ true) → AreWiderAsked all new
wider_more all old new rest x a before left is wide k b there =
    elim (pushed old a b k (ap (λ (ws : List Asked). slice_get ws k) (sym is) ∙ there)) [
      | inl p ↦ before k b p
      | inr q ↦ (x, ap (slice_get all) q.0 ∙ first_left all (length old) x rest left, λ v utf8 h. subst (λ (c : Asked). is_asked c v ≡ true) q.1 (wide v utf8 h))
    ]

-- what is told of columns is asked about
column_at : (os : List Outcomes) (k : ℕ) (asked : List Asked) (a : Asked) → length asked ≡ length os → slice_get asked k ≡ Some a → (o : Outcomes) × (slice_get os k ≡ Some o)
column_at [] k [] a same there = absurd (cc)
column_at [] k (b ∷ asked) a same there = absurd (cc)
column_at (o ∷ os) k [] a same there = absurd (cc)
column_at (o ∷ os) zero (b ∷ asked) a same there = (o, refl)
column_at (o ∷ os) (suc k) (b ∷ asked) a same there = let rest : length asked ≡ length os = omega (arith, same) in column_at os k asked a rest there

pub columns_within : (os : List Outcomes) (asked within : List Asked) → AskColumns os asked → length asked ≡ length os → AreWiderAsked asked within → AskUtf8Columns os within
columns_within os asked within asks same wider k a there =
    let w = wider k a there in
    let o = column_at os k asked w.0 same w.1 in
    (o.0, o.1, λ v utf8 h. w.2 v utf8 (asks k o.0 w.0 o.1 w.1 v h))

-- what stands at a place
pub at_get : {X : Type 0} (xs ys : List X) (i : ℕ) (x : X) → xs ≡ ys → i < length xs → x ≡ get_or xs i x → slice_get ys i ≡ Some x
at_get xs ys i x same less here = subst (λ zs. slice_get zs i ≡ Some x) same (slice_get-get_or xs i x less ∙ ap Some (sym here))
