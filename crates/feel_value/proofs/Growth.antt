-- A list and a context that take one part more: whether they still keep the limits, and their size.
use Rattle.std.proofs.Common.{◌≡◌, ℕ, ◌+◌, max, Bool, true, false, ◌&&◌, nat_le, List, [], ◌∷◌, ◌++◌, map, refl, sym, ap, ap₂, ◌∙◌, arith}
use Rattle.std.proofs.lemmas.Bool.Decides.{nat_tests}
use Rattle.feel_value.specs.Datum.{Datum, list, context, items_of, entries_of}
use Rattle.feel_value.specs.Limits.{nodes, items_nodes, entries_nodes, depth, items_depth, entries_depth, numbers_in_range, items_in_range, entries_in_range, keeps_limits, is_value, names_distinct, names_differ, items_distinct, entries_distinct}
use Rattle.feel_value.specs.Sizes.{IsGrown, IsList, IsContext}
use Rattle.feel_value.specs.View.{entries_view}
use Rattle.feel_value.specs.declared.size.Size.{Size}
use Rattle.feel_value.proofs.Booleans.{both_true, and_true}
use Rattle.feel_value.proofs.Entries.{Entry, named, entries_view-named}

abbrev pub Pairs : Type 0
Pairs = List (List ℕ × Datum)

-- one part more, word by word
and_assoc : (a b c : Bool) → (a && (b && c)) ≡ ((a && b) && c)
and_assoc true b c = refl
and_assoc false b c = refl

plus_assoc : (a b c : ℕ) → a + (b + c) ≡ a + b + c
plus_assoc a b c = omega arith

plus_none : (a : ℕ) → a + 0 ≡ 0 + a
plus_none a = omega arith

max_assoc : (a b c : ℕ) → max a (max b c) ≡ max (max a b) c
max_assoc a b c = omega arith

max_none : (a : ℕ) → max a 0 ≡ max 0 a
max_none a = omega arith

pub more_nodes : (ds : List Datum) (d : Datum) → items_nodes (items_of (ds ++ d ∷ [])) ≡ items_nodes (items_of ds) + nodes d
more_nodes [] d = plus_none (nodes d)
more_nodes (x ∷ xs) d = ap (λ n. nodes x + n) (more_nodes xs d) ∙ plus_assoc (nodes x) (items_nodes (items_of xs)) (nodes d)

pub more_depth : (ds : List Datum) (d : Datum) → items_depth (items_of (ds ++ d ∷ [])) ≡ max (items_depth (items_of ds)) (depth d)
more_depth [] d = max_none (depth d)
more_depth (x ∷ xs) d = ap (λ n. max (depth x) n) (more_depth xs d) ∙ max_assoc (depth x) (items_depth (items_of xs)) (depth d)

pub more_range : (ds : List Datum) (d : Datum) → items_in_range (items_of (ds ++ d ∷ [])) ≡ (items_in_range (items_of ds) && numbers_in_range d)
more_range [] d = and_true (numbers_in_range d)
more_range (x ∷ xs) d = ap (λ b. numbers_in_range x && b) (more_range xs d) ∙ and_assoc (numbers_in_range x) (items_in_range (items_of xs)) (numbers_in_range d)

pub more_distinct : (ds : List Datum) (d : Datum) → items_distinct (items_of (ds ++ d ∷ [])) ≡ (items_distinct (items_of ds) && names_distinct d)
more_distinct [] d = and_true (names_distinct d)
more_distinct (x ∷ xs) d = ap (λ b. names_distinct x && b) (more_distinct xs d) ∙ and_assoc (names_distinct x) (items_distinct (items_of xs)) (names_distinct d)

pub more_entry_nodes : (es : Pairs) (n : List ℕ) (d : Datum) → entries_nodes (entries_of (es ++ (n, d) ∷ [])) ≡ entries_nodes (entries_of es) + nodes d
more_entry_nodes [] n d = plus_none (nodes d)
more_entry_nodes (x ∷ xs) n d = ap (λ k. nodes x.1 + k) (more_entry_nodes xs n d) ∙ plus_assoc (nodes x.1) (entries_nodes (entries_of xs)) (nodes d)

pub more_entry_depth : (es : Pairs) (n : List ℕ) (d : Datum) → entries_depth (entries_of (es ++ (n, d) ∷ [])) ≡ max (entries_depth (entries_of es)) (depth d)
more_entry_depth [] n d = max_none (depth d)
more_entry_depth (x ∷ xs) n d = ap (λ k. max (depth x.1) k) (more_entry_depth xs n d) ∙ max_assoc (depth x.1) (entries_depth (entries_of xs)) (depth d)

pub more_entry_range : (es : Pairs) (n : List ℕ) (d : Datum) → entries_in_range (entries_of (es ++ (n, d) ∷ [])) ≡ (entries_in_range (entries_of es) && numbers_in_range d)
more_entry_range [] n d = and_true (numbers_in_range d)
more_entry_range (x ∷ xs) n d = ap (λ b. numbers_in_range x.1 && b) (more_entry_range xs n d) ∙ and_assoc (numbers_in_range x.1) (entries_in_range (entries_of xs)) (numbers_in_range d)

pub more_entry_distinct : (es : Pairs) (n : List ℕ) (d : Datum) → entries_distinct (entries_of (es ++ (n, d) ∷ [])) ≡ (entries_distinct (entries_of es) && names_distinct d)
more_entry_distinct [] n d = and_true (names_distinct d)
more_entry_distinct (x ∷ xs) n d = ap (λ b. names_distinct x.1 && b) (more_entry_distinct xs n d) ∙ and_assoc (names_distinct x.1) (entries_distinct (entries_of xs)) (names_distinct d)

-- The limits of a whole with parts of that range, depth and nodes.
abbrev kept : Bool → ℕ → ℕ → Bool
kept r x m = r && (nat_le (1 + x) 100 && nat_le (1 + m) 10000)

-- They hold of one part more where that part leaves them.
kept_more : (r1 r2 : Bool) (x y m n : ℕ) → kept r1 x m ≡ true → r2 ≡ true → (nat_le (1 + y) 100 && nat_le (1 + m + n) 10000) ≡ kept (r1 && r2) (max x y) (m + n)
kept_more true true x y m n h g = grind (arith, nat_tests)
kept_more true false x y m n h g = cc
kept_more false r2 x y m n h g = cc

in_range : (d : Datum) → is_value d ≡ true → numbers_in_range d ≡ true
in_range d v = (both_true (numbers_in_range d) _ (both_true (keeps_limits d) (names_distinct d) v).0).0

distinct : (d : Datum) → is_value d ≡ true → names_distinct d ≡ true
distinct d v = (both_true (keeps_limits d) (names_distinct d) v).1

size_more : (s t : Size) (d : Datum) (x m : ℕ) → s ≡ record { nodes = 1 + m; levels = 1 + x } → IsGrown s d t → t ≡ record { nodes = 1 + (m + nodes d); levels = 1 + max x (depth d) }
size_more s t d x m h e = grind (arith, h, e)

-- a list
list_limits : (ds : List Datum) (d : Datum) → keeps_limits (list (items_of (ds ++ d ∷ []))) ≡ kept (items_in_range (items_of ds) && numbers_in_range d) (max (items_depth (items_of ds)) (depth d)) (items_nodes (items_of ds) + nodes d)
list_limits ds d = λ i. kept (more_range ds d i) (more_depth ds d i) (more_nodes ds d i)

pub list_kept : (ds : List Datum) (d : Datum) (s : Size) → IsList ds s → is_value d ≡ true
    → (nat_le (1 + depth d) 100 && nat_le (s.nodes + nodes d) 10000) ≡ is_value (list (items_of (ds ++ d ∷ [])))
list_kept ds d s h v =
    let xs = items_of ds in
    let ys = items_of (ds ++ d ∷ []) in
    let p = both_true (keeps_limits (list xs)) (items_distinct xs) h.0 in
    let differ : items_distinct ys ≡ true = more_distinct ds d ∙ ap₂ (λ a b. a && b) p.1 (distinct d v) in
    ap (λ z. nat_le (1 + depth d) 100 && nat_le (z.nodes + nodes d) 10000) h.1
    ∙ kept_more (items_in_range xs) (numbers_in_range d) (items_depth xs) (depth d) (items_nodes xs) (nodes d) p.0 (in_range d v)
    ∙ sym (list_limits ds d) ∙ sym (ap (λ b. keeps_limits (list ys) && b) differ ∙ and_true (keeps_limits (list ys)))

pub list_grown : (ds : List Datum) (d : Datum) (s t : Size) → IsList ds s → is_value (list (items_of (ds ++ d ∷ []))) ≡ true → IsGrown s d t → IsList (ds ++ d ∷ []) t
list_grown ds d s t h w g =
    let whole = size_more s t d (items_depth (items_of ds)) (items_nodes (items_of ds)) h.1 g in
    (w, whole ∙ ap₂ (λ m x. record { nodes = 1 + m; levels = 1 + x }) (sym (more_nodes ds d)) (sym (more_depth ds d)))

-- a context
context_limits : (es : Pairs) (n : List ℕ) (d : Datum)
    → keeps_limits (context (entries_of (es ++ (n, d) ∷ []))) ≡ kept (entries_in_range (entries_of es) && numbers_in_range d) (max (entries_depth (entries_of es)) (depth d)) (entries_nodes (entries_of es) + nodes d)
context_limits es n d = λ i. kept (more_entry_range es n d i) (more_entry_depth es n d i) (more_entry_nodes es n d i)

pub context_kept : (es : Pairs) (n : List ℕ) (d : Datum) (s : Size) → IsContext es s → is_value d ≡ true
    → (nat_le (1 + depth d) 100 && nat_le (s.nodes + nodes d) 10000) ≡ keeps_limits (context (entries_of (es ++ (n, d) ∷ [])))
context_kept es n d s h v =
    let xs = entries_of es in
    ap (λ z. nat_le (1 + depth d) 100 && nat_le (z.nodes + nodes d) 10000) h.1.1
    ∙ kept_more (entries_in_range xs) (numbers_in_range d) (entries_depth xs) (depth d) (entries_nodes xs) (nodes d) h.0 (in_range d v)
    ∙ sym (context_limits es n d)

pub context_grown : (es : Pairs) (n : List ℕ) (d : Datum) (s t : Size) → IsContext es s → is_value d ≡ true → keeps_limits (context (entries_of (es ++ (n, d) ∷ []))) ≡ true → IsGrown s d t
    → IsContext (es ++ (n, d) ∷ []) t
context_grown es n d s t h v w g =
    let xs = entries_of es in
    let whole = size_more s t d (entries_depth xs) (entries_nodes xs) h.1.1 g in
    let differ = more_entry_distinct es n d ∙ ap₂ (λ a b. a && b) h.1.0 (distinct d v) in
    (w, (differ, whole ∙ ap₂ (λ m x. record { nodes = 1 + m; levels = 1 + x }) (sym (more_entry_nodes es n d)) (sym (more_entry_depth es n d))))

by_names : (es : Pairs) (s : Size) → IsContext es s → is_value (context (entries_of es)) ≡ names_differ (entries_of es)
by_names es s h = ap₂ (λ a b. a && (names_differ (entries_of es) && b)) h.0 h.1.0 ∙ and_true (names_differ (entries_of es))

pub viewed_kept : (xs : List Entry) (es : Pairs) (s : Size) → map named xs ≡ es → IsContext (map named xs) s → keeps_limits (context (entries_of es)) ≡ true
viewed_kept xs es s e h = ap (λ ps. keeps_limits (context (entries_of ps))) (sym e) ∙ h.0

-- a context that keeps the limits is a value where its names differ
pub viewed_value : (xs : List Entry) (es : Pairs) (s : Size) → map named xs ≡ es → IsContext (map named xs) s → is_value (context (entries_of es)) ≡ names_differ (entries_view xs)
viewed_value xs es s e h = ap (λ ps. is_value (context (entries_of ps))) (sym e) ∙ by_names (map named xs) s h ∙ ap names_differ (sym (entries_view-named xs))
