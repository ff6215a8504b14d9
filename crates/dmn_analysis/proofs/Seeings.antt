-- The constants of tests, one test after another.
use Rattle.std.proofs.Common.{◌≡◌, ◌∙◌, ◌+◌, ◌<◌, ◌≤◌, ℕ, ℤ, pos, negsuc, List, [], ◌∷◌, ◌++◌, Bool, true, false, ◌||◌, append_assoc, append-nil, length, map, drop, get_or, refl, sym, ap, cond, if◌then◌else◌}
use Rattle.std.specs.List.{flat_map, list_any}
use Rattle.std.proofs.lemmas.Grind.{flat_map-append}
use Rattle.std.proofs.lemmas.List.{at_drop_all, at_drop_more}
use Rattle.std.proofs.lemmas.List.Folds.{list_any-append}
use Rattle.feel_value.specs.Datum.{Datum, null, boolean, number, text, list, context}
use Rattle.feel_value.specs.declared.feel.Outcome.TheVariants.{Is}
use Rattle.feel_text.specs.Constants.{expr_of_constant, expr_of_number}
use Rattle.feel_text.specs.Expr.{Expr}
use Rattle.feel_text.specs.Meaning.{Bindings, den}
use Rattle.feel_text.specs.Tests.{Bound, Test, Compares, Equals, Interval}
use Rattle.feel_text.specs.View.{view, views}
use Rattle.feel_text.specs.declared.expr.Tree.{Tree}
use Rattle.dmn_analysis.specs.Constant.{bare, is_sum}
use Rattle.dmn_analysis.specs.Kinds.{Kinds, bounds_in, exprs_in, is_list, is_null, is_text, is_truth, kinds_of, listed, text_in, without_parentheses}
use Rattle.dmn_analysis.specs.Seeing.{is_null_value, is_whole_value, kinds_among, kinds_in, with_kinds}

-- ---- literals

not_null : (d : Datum) → Is null ≡ Is d → is_null_value d ≡ false → ⊥
not_null null e h = cc
not_null (boolean b) e h = cc
not_null (number z) e h = cc
not_null (text s) e h = cc
not_null (list ds) e h = cc
not_null (context es) e h = cc

pub null_of : (d : Datum) → ((m : Bindings) → den (expr_of_constant d) m ≡ Is d) → is_null_value d ≡ is_null (expr_of_constant d)
null_of null h = refl
null_of (boolean b) h = refl
null_of (number (pos n)) h = refl
null_of (number (negsuc n)) h = absurd (not_null (number (negsuc n)) (h []) refl)
null_of (text s) h = refl
null_of (list ds) h = absurd (not_null (list ds) (h []) refl)
null_of (context es) h = absurd (not_null (context es) (h []) refl)

pub whole_of : (d : Datum) → ((m : Bindings) → den (expr_of_constant d) m ≡ Is d) → is_whole_value d ≡ is_sum (expr_of_constant d)
whole_of null h = refl
whole_of (boolean b) h = refl
whole_of (number (pos n)) h = refl
whole_of (number (negsuc n)) h = absurd (not_null (number (negsuc n)) (h []) refl)
whole_of (text s) h = refl
whole_of (list ds) h = refl
whole_of (context es) h = refl

-- ---- kinds

or_assoc : (a b c : Bool) → ((a || b) || c) ≡ (a || (b || c))
or_assoc true b c = refl
or_assoc false b c = refl

or_none : (a : Bool) → (a || false) ≡ a
or_none true = refl
or_none false = refl

abbrev kinds_with : (n t m l : Bool) (w : List (List ℕ)) (o : Bool) → Kinds
kinds_with n t m l w o = record { null = n; truths = t; numbers = m; lists = l; words = w; by_order = o }

alike : (a b : Kinds) → a.null ≡ b.null → a.truths ≡ b.truths → a.numbers ≡ b.numbers → a.lists ≡ b.lists → a.words ≡ b.words → a.by_order ≡ b.by_order → a ≡ b
alike a b nulls truths numbers lists words order =
    ap (λ (v : Bool). kinds_with v a.truths a.numbers a.lists a.words a.by_order) nulls
    ∙ ap (λ (v : Bool). kinds_with b.null v a.numbers a.lists a.words a.by_order) truths
    ∙ ap (λ (v : Bool). kinds_with b.null b.truths v a.lists a.words a.by_order) numbers
    ∙ ap (λ (v : Bool). kinds_with b.null b.truths b.numbers v a.words a.by_order) lists
    ∙ ap (λ (v : List (List ℕ)). kinds_with b.null b.truths b.numbers b.lists v a.by_order) words
    ∙ ap (λ (v : Bool). kinds_with b.null b.truths b.numbers b.lists b.words v) order

pub assoc : (a b c : Kinds) → with_kinds (with_kinds a b) c ≡ with_kinds a (with_kinds b c)
assoc a b c =
    alike (with_kinds (with_kinds a b) c) (with_kinds a (with_kinds b c)) (or_assoc a.null b.null c.null) (or_assoc a.truths b.truths c.truths) (or_assoc a.numbers b.numbers c.numbers)
    (or_assoc a.lists b.lists c.lists) (append_assoc a.words b.words c.words) (or_assoc a.by_order b.by_order c.by_order)

none_more : (k : Kinds) → with_kinds k (kinds_of []) ≡ k
none_more k = alike (with_kinds k (kinds_of [])) k (or_none k.null) (or_none k.truths) (or_none k.numbers) (or_none k.lists) (append-nil k.words) (or_none k.by_order)

any_of : (p : Expr → Bool) (f : Test → List Expr) (ts us : List Test) → (list_any p (flat_map f ts) || list_any p (flat_map f us)) ≡ list_any p (flat_map f (ts ++ us))
any_of p f ts us = sym (ap (list_any p) (flat_map-append f ts us) ∙ list_any-append p (flat_map f ts) (flat_map f us))

words_in_both : (ts us : List Test) → flat_map text_in (flat_map exprs_in ts) ++ flat_map text_in (flat_map exprs_in us) ≡ flat_map text_in (flat_map exprs_in (ts ++ us))
words_in_both ts us = sym (ap (flat_map text_in) (flat_map-append exprs_in ts us) ∙ flat_map-append text_in (flat_map exprs_in ts) (flat_map exprs_in us))

pub kinds_append : (ts us : List Test) → with_kinds (kinds_of ts) (kinds_of us) ≡ kinds_of (ts ++ us)
kinds_append ts us =
    alike (with_kinds (kinds_of ts) (kinds_of us)) (kinds_of (ts ++ us)) (any_of is_null exprs_in ts us) (any_of is_truth exprs_in ts us) (any_of is_sum exprs_in ts us)
    (any_of is_list exprs_in ts us) (words_in_both ts us) (any_of is_text bounds_in ts us)

two_ends : (c d : Bool) (a b : Expr) → with_kinds (kinds_in true (bare a)) (kinds_in true (bare b)) ≡ kinds_of (Interval c a b d ∷ [])
two_ends c d a b =
    let low = bare a in
    let high = bare b in
    alike (with_kinds (kinds_in true low) (kinds_in true high)) (kinds_of (Interval c a b d ∷ []))
    (ap (λ b. is_null low || b) (sym (or_none (is_null high)))) (ap (λ b. is_truth low || b) (sym (or_none (is_truth high)))) (ap (λ b. is_sum low || b) (sym (or_none (is_sum high))))
    (ap (λ b. is_list low || b) (sym (or_none (is_list high)))) (ap (λ ws. text_in low ++ ws) (sym (append-nil (text_in high)))) (ap (λ b. is_text low || b) (sym (or_none (is_text high))))

pub interval : (k k1 k2 : Kinds) (c d : Bool) (low high : Expr) → k1 ≡ with_kinds k (kinds_in true (bare low)) → k2 ≡ with_kinds k1 (kinds_in true (bare high)) → k2 ≡ with_kinds k (kinds_of (Interval c low high d ∷ []))
interval k k1 k2 c d low high first second =
    second ∙ ap (λ j. with_kinds j (kinds_in true (bare high))) first ∙ assoc k (kinds_in true (bare low)) (kinds_in true (bare high)) ∙ ap (with_kinds k) (two_ends c d low high)

one_among : (e : Expr) → kinds_among (e ∷ []) ≡ kinds_in false e
one_among e = alike (kinds_among (e ∷ [])) (kinds_in false e) (or_none (is_null e)) (or_none (is_truth e)) (or_none (is_sum e)) (or_none (is_list e)) (append-nil (text_in e)) refl

pub seen_one : (k : Kinds) (e : Expr) → with_kinds k (kinds_in false e) ≡ with_kinds k (kinds_among (e ∷ []))
seen_one k e = ap (with_kinds k) (sym (one_among e))

pub compared : (bound : Bound) (e : Expr) → kinds_in true (bare e) ≡ kinds_of (Compares bound e ∷ [])
compared bound e =
    alike (kinds_in true (bare e)) (kinds_of (Compares bound e ∷ [])) (sym (or_none (is_null (bare e)))) (sym (or_none (is_truth (bare e)))) (sym (or_none (is_sum (bare e)))) (sym (or_none (is_list (bare e))))
    (sym (append-nil (text_in (bare e)))) (sym (or_none (is_text (bare e))))

pub asked : (e : Expr) → kinds_among (listed (bare e)) ≡ kinds_of (Equals e ∷ [])
asked e =
    let es = listed (bare e) in
    let more = sym (append-nil es) in
    alike (kinds_among es) (kinds_of (Equals e ∷ [])) (ap (list_any is_null) more) (ap (list_any is_truth) more) (ap (list_any is_sum) more) (ap (list_any is_list) more) (ap (flat_map text_in) more) refl

number_listed : (z : ℤ) → listed (expr_of_number z) ≡ expr_of_number z ∷ []
number_listed (pos n) = refl
number_listed (negsuc n) = refl

pub literal_listed : (d : Datum) → listed (expr_of_constant d) ≡ expr_of_constant d ∷ []
literal_listed null = refl
literal_listed (boolean b) = refl
literal_listed (number z) = number_listed z
literal_listed (text s) = refl
literal_listed (list ds) = refl
literal_listed (context es) = refl

-- ---- one member after another

abbrev pub member_kinds : List Tree → Kinds
member_kinds xs = kinds_among (without_parentheses (views xs))

pub member_turn : (xs : List Tree) (i : ℕ) (x : Tree) (k k1 whole : Kinds) → with_kinds k (member_kinds (drop i xs)) ≡ whole → x ≡ get_or xs i x → i < length xs
    → k1 ≡ with_kinds k (kinds_in false (bare (view x))) → with_kinds k1 (member_kinds (drop (i + 1) xs)) ≡ whole
member_turn xs i x k k1 whole before here more after =
    ap (λ j. with_kinds j (member_kinds (drop (i + 1) xs))) after
    ∙ assoc k (kinds_in false (bare (view x))) (member_kinds (drop (i + 1) xs))
    ∙ ap (λ y. with_kinds k (member_kinds (y ∷ drop (i + 1) xs))) here
    ∙ sym (at_drop_more (λ ys. with_kinds k (member_kinds ys)) xs i x more)
    ∙ before

pub member_done : (xs : List Tree) (i : ℕ) (k whole : Kinds) → length xs ≤ i → with_kinds k (member_kinds (drop i xs)) ≡ whole → k ≡ whole
member_done xs i k whole last before = sym (none_more k) ∙ sym (at_drop_all (λ ys. with_kinds k (member_kinds ys)) xs i last) ∙ before

-- ---- one after another

-- one turn of a loop over what tests stand in
pub turn : {X : Type 0} (f : List X → List Test) (head : X → List Test) → ((x : X) (xs : List X) → f (x ∷ xs) ≡ head x ++ f xs) → (xs : List X) (i : ℕ) (x : X) (k k1 whole : Kinds)
    → with_kinds k (kinds_of (f (drop i xs))) ≡ whole → x ≡ get_or xs i x → i < length xs → k1 ≡ with_kinds k (kinds_of (head x)) → with_kinds k1 (kinds_of (f (drop (i + 1) xs))) ≡ whole
turn f head one xs i x k k1 whole before here more after =
    ap (λ j. with_kinds j (kinds_of (f (drop (i + 1) xs)))) after
    ∙ assoc k (kinds_of (head x)) (kinds_of (f (drop (i + 1) xs)))
    ∙ ap (with_kinds k) (kinds_append (head x) (f (drop (i + 1) xs)) ∙ ap kinds_of (sym (one x (drop (i + 1) xs))))
    ∙ ap (λ y. with_kinds k (kinds_of (f (y ∷ drop (i + 1) xs)))) here
    ∙ sym (at_drop_more (λ ys. with_kinds k (kinds_of (f ys))) xs i x more)
    ∙ before

-- behind the last
pub done : {X : Type 0} (f : List X → List Test) → f [] ≡ [] → (xs : List X) (i : ℕ) (k whole : Kinds) → length xs ≤ i → with_kinds k (kinds_of (f (drop i xs))) ≡ whole → k ≡ whole
done f none xs i k whole last before =
    sym (none_more k) ∙ ap (λ ts. with_kinds k (kinds_of ts)) (sym none) ∙ sym (at_drop_all (λ ys. with_kinds k (kinds_of (f ys))) xs i last) ∙ before
