-- What is told of functions of written lists holds of their values.
use Rattle.std.proofs.Common.{◌≡◌, ◌∙◌, refl, sym, ap, subst, ℕ, suc, ℤ, pos, List, [], ◌∷◌, length, Bool, true, false, Option, None, Some, unwrap_or, if◌then◌else◌}
use Rattle.std.specs.Prelude.{⊤}
use Rattle.feel_value.specs.Datum.{Datum, null, boolean, number, text, list, context, Items, no_items, item, members_of}
use Rattle.feel_value.specs.Limits.{is_value}
use Rattle.feel_value.specs.Outcome.{held}
use Rattle.feel_value.specs.declared.feel.Outcome.{Outcome}
use Rattle.feel_value.specs.declared.feel.Outcome.TheVariants.{Is, Limit}
use Rattle.feel_text.specs.Expr.{Expr, Exprs, none, more}
use Rattle.feel_text.specs.Expr as expr
use Rattle.feel_text.specs.Meaning.{Bindings, call_of, dens, den, fold_of, folded, list_held, member_before, with_value}
use Rattle.feel_text.specs.View.{views}
use Rattle.feel_text.specs.declared.expr.Function.{Function}
use Rattle.feel_text.specs.declared.expr.Function.TheVariants as function
use Rattle.feel_text.specs.declared.expr.Tree.{Tree}
use Rattle.dmn_ranges.specs.Numbers.{held_if, widened_if}
use Rattle.dmn_ranges.specs.Ranges.{Scope, covers}
use Rattle.dmn_ranges.specs.Steps.{first_member, is_other, limited, list_call, list_of, list_outcomes, member_count, members_folded, members_parts, no_parts, numbers_given, of_members, of_no_members, outcomes, with_member, with_part}
use Rattle.dmn_ranges.specs.declared.folded.Folded.{Folded}
use Rattle.dmn_ranges.specs.declared.outcomes.Outcomes.{Outcomes}
use Rattle.dmn_ranges.specs.declared.parts.Parts.{Parts}
use Rattle.dmn_ranges.specs.declared.span.Span.{Span}
use Rattle.dmn_ranges.proofs.Forms.{limited_covers, met_covers, natural_covers, null_covers}
use Rattle.dmn_ranges.proofs.Joins.{or_left, or_right, other_in}
use Rattle.dmn_ranges.proofs.Spans.{folded_has, made, span_met, widened_has, within_span}

-- ---- the members so far

-- What a function makes of the first members: a number where all are numbers.
abbrev pub Made : Type 0
Made = Option ℤ

abbrev pub first_made : Datum → Made
first_made (number x) = Some x
first_made d = None

abbrev pub next_made : Function → Made → Datum → Made
next_made f None d = None
next_made f (Some x) (number y) = Some (made f x y)
next_made f (Some x) d = None

abbrev pub made_along : Function → Made → Items → Made
made_along f a no_items = a
made_along f a (item d ds) = made_along f (next_made f a d) ds

-- what is told of the first members holds of what is made of them
abbrev pub Told : Folded → Made → Type 0
Told g None = g.others ≡ true
Told g (Some x) = within_span g.numbers x ≡ true

pub first_told : (o : Outcomes) (d : Datum) → covers o (Is d) ≡ true → Told (first_member o) (first_made d)
first_told o (number x) h = widened_has o.range.numbers x h
first_told o null h = other_in o.range null h refl
first_told o (boolean b) h = other_in o.range (boolean b) h refl
first_told o (text s) h = other_in o.range (text s) h refl
first_told o (list ds) h = other_in o.range (list ds) h refl
first_told o (context es) h = other_in o.range (context es) h refl

pub next_told : (f : Function) (g : Folded) (o : Outcomes) (a : Made) (d : Datum) → Told g a → covers o (Is d) ≡ true → Told (with_member f (Some g) o) (next_made f a d)
next_told f g o None d k h = or_left g.others (is_other o.range) k
next_told f g o (Some x) (number y) k h = folded_has f g.numbers (widened_if o.range.numbers) x y k (widened_has o.range.numbers y h)
next_told f g o (Some x) null k h = or_right g.others (is_other o.range) (other_in o.range null h refl)
next_told f g o (Some x) (boolean b) k h = or_right g.others (is_other o.range) (other_in o.range (boolean b) h refl)
next_told f g o (Some x) (text s) k h = or_right g.others (is_other o.range) (other_in o.range (text s) h refl)
next_told f g o (Some x) (list ds) k h = or_right g.others (is_other o.range) (other_in o.range (list ds) h refl)
next_told f g o (Some x) (context es) k h = or_right g.others (is_other o.range) (other_in o.range (context es) h refl)

-- what is told of all members, if they are values, holds of what is made of these and those before them
abbrev pub FoldTold : Function → Folded → Made → Option Items → Type 0
FoldTold f t a None = ⊤
FoldTold f t a (Some ds) = Told t (made_along f a ds)

pub fold_before : (f : Function) (t : Folded) (o : Outcomes) (a : Made) (q : Outcome) (rest : Option Items) → covers o q ≡ true → ((d : Datum) → covers o (Is d) ≡ true → FoldTold f t (next_made f a d) rest) → FoldTold f t a (member_before q rest)
fold_before f t o a (Is d) (Some ds) h k = k d h
fold_before f t o a (Is d) None h k = tt
fold_before f t o a Limit rest h k = tt

abbrev pub ListTold : Function → Folded → Option Items → Type 0
ListTold f t None = ⊤
ListTold f t (Some no_items) = ⊥
ListTold f t (Some (item d ds)) = Told t (made_along f (first_made d) ds)

pub list_before : (f : Function) (t : Folded) (o : Outcomes) (q : Outcome) (rest : Option Items) → covers o q ≡ true → ((d : Datum) → covers o (Is d) ≡ true → FoldTold f t (first_made d) rest) → ListTold f t (member_before q rest)
list_before f t o (Is d) (Some ds) h k = k d h
list_before f t o (Is d) None h k = tt
list_before f t o Limit rest h k = tt

-- ---- how many they are

abbrev pub AreCounted : ℕ → Option Items → Type 0
AreCounted n None = ⊤
AreCounted n (Some ds) = length (members_of ds) ≡ n

count_before : (n : ℕ) (q : Outcome) (rest : Option Items) → AreCounted n rest → AreCounted (suc n) (member_before q rest)
count_before n (Is d) (Some ds) h = ap suc h
count_before n (Is d) None h = tt
count_before n Limit rest h = tt

pub members_counted : (es : Exprs) (m : Bindings) → AreCounted (member_count es) (dens es m)
members_counted none m = refl
members_counted (more e es) m = count_before (member_count es) (den e m) (dens es m) (members_counted es m)

-- ---- what a function gives

abbrev value_made : Made → Datum
value_made None = null
value_made (Some x) = number x

none_made : (f : Function) (ds : Items) → made_along f None ds ≡ None
none_made f no_items = refl
none_made f (item d ds) = none_made f ds

null_made : (f : Function) (ds : Items) → null ≡ value_made (made_along f None ds)
null_made f ds = sym (ap value_made (none_made f ds))

folded_is : (f : Function) (x : ℤ) (ds : Items) → folded (made f) x ds ≡ value_made (made_along f (Some x) ds)
folded_is f x no_items = refl
folded_is f x (item (number y) ds) = folded_is f (made f x y) ds
folded_is f x (item null ds) = null_made f ds
folded_is f x (item (boolean b) ds) = null_made f ds
folded_is f x (item (text s) ds) = null_made f ds
folded_is f x (item (list es) ds) = null_made f ds
folded_is f x (item (context es) ds) = null_made f ds

fold_is : (f : Function) (d : Datum) (ds : Items) → fold_of (made f) (list (item d ds)) ≡ value_made (made_along f (first_made d) ds)
fold_is f (number x) ds = folded_is f x ds
fold_is f null ds = null_made f ds
fold_is f (boolean b) ds = null_made f ds
fold_is f (text s) ds = null_made f ds
fold_is f (list es) ds = null_made f ds
fold_is f (context es) ds = null_made f ds

numbers_told : (n : Bool) (s : Option Span) (x : ℤ) → within_span s x ≡ true → covers (numbers_given n (held_if s)) (held (number x)) ≡ true
numbers_told n None x h = cc
numbers_told n (Some s) x h = met_covers n _ x (span_met s x h)

made_told : (t : Folded) (a : Made) → Told t a → covers (numbers_given t.others (held_if t.numbers)) (held (value_made a)) ≡ true
made_told t None h = null_covers t.others (held_if t.numbers) h
made_told t (Some x) h = numbers_told t.others t.numbers x h

fold_told : (f : Function) (t : Folded) (d : Datum) (ds : Items) → Told t (made_along f (first_made d) ds) → covers (numbers_given t.others (held_if t.numbers)) (held (fold_of (made f) (list (item d ds)))) ≡ true
fold_told f t d ds h = subst (λ v. covers (numbers_given t.others (held_if t.numbers)) (held v) ≡ true) (sym (fold_is f d ds)) (made_told t (made_along f (first_made d) ds) h)

-- what is told of a function holds of these members, if they are values
abbrev pub CoversCall : Function → Outcomes → Option Items → Type 0
CoversCall f r None = ⊤
CoversCall f r (Some ds) = covers r (held (call_of f (list ds))) ≡ true

members_cover : (f : Function) (n : ℕ) (t : Folded) (q : Option Items) → ListTold f t q → AreCounted n q → CoversCall f (of_members f n t) q
members_cover f n t None h k = tt
members_cover function.Abs n t (Some ds) h k = refl
members_cover function.Count n t (Some ds) h k = subst (λ c. covers (of_members function.Count n t) (held (number (pos c))) ≡ true) (sym k) (natural_covers n)
members_cover function.Sum n t (Some no_items) h k = absurd h
members_cover function.Sum n t (Some (item d ds)) h k = fold_told function.Sum t d ds h
members_cover function.Min n t (Some no_items) h k = absurd h
members_cover function.Min n t (Some (item d ds)) h k = fold_told function.Min t d ds h
members_cover function.Max n t (Some no_items) h k = absurd h
members_cover function.Max n t (Some (item d ds)) h k = fold_told function.Max t d ds h

call_by : (f : Function) (o r : Outcomes) (d : Datum) (t : Bool) → covers o (if t then Is d else Limit) ≡ true → covers r (held (call_of f d)) ≡ true → covers (limited o.limit r) (with_value (if t then Is d else Limit) (λ v. held (call_of f v))) ≡ true
call_by f o r d true h k = limited_covers o.limit r (held (call_of f d)) k
call_by f o r d false h k = or_left o.limit r.limit h

call_covers : (f : Function) (o r : Outcomes) (q : Option Items) → covers o (list_held q) ≡ true → CoversCall f r q → covers (limited o.limit r) (with_value (list_held q) (λ d. held (call_of f d))) ≡ true
call_covers f o r None h k = or_left o.limit r.limit h
call_covers f o r (Some ds) h k = call_by f o r (list ds) (is_value (list ds)) h k

-- what is known of these members, and those behind them
abbrev pub folded_along : Function → Folded → Exprs → Scope → Folded
folded_along f g none xs = g
folded_along f g (more e es) xs = folded_along f (with_member f (Some g) (outcomes e xs)) es xs

along_is : (f : Function) (g : Folded) (es : Exprs) (xs : Scope) → members_folded f (Some g) es xs ≡ Some (folded_along f g es xs)
along_is f g none xs = refl
along_is f g (more e es) xs = along_is f (with_member f (Some g) (outcomes e xs)) es xs

parts_along : (f : Function) (g : Folded) (es : Exprs) (xs : Scope) → (folded_along f g es xs).parts ≡ members_parts g.parts es xs
parts_along f g none xs = refl
parts_along f g (more e es) xs = parts_along f (with_member f (Some g) (outcomes e xs)) es xs

-- of one member and more
pub list_covers : (f : Function) (o : Outcomes) (es : Exprs) (xs : Scope) (n : ℕ) (q : Option Items)
    → covers (list_of (members_parts (with_part no_parts o) es xs)) (list_held q) ≡ true → ListTold f (folded_along f (first_member o) es xs) q → AreCounted n q
    → covers (list_outcomes f n (members_folded f (Some (first_member o)) es xs)) (with_value (list_held q) (λ d. held (call_of f d))) ≡ true
list_covers f o es xs n q h told count =
    let t : Folded = folded_along f (first_member o) es xs in
    subst (λ (g : Option Folded). covers (list_outcomes f n g) (with_value (list_held q) (λ d. held (call_of f d))) ≡ true) (sym (along_is f (first_member o) es xs))
    (call_covers f (list_of t.parts) (of_members f n t) q (subst (λ (p : Parts). covers (list_of p) (list_held q) ≡ true) (sym (parts_along f (first_member o) es xs)) h) (members_cover f n t q told count))

-- of none
pub none_covers : (f : Function) → covers (of_no_members f) (held (call_of f (list no_items))) ≡ true
none_covers function.Abs = refl
none_covers function.Count = natural_covers 0
none_covers function.Sum = refl
none_covers function.Min = refl
none_covers function.Max = refl

-- where a function is told of written lists, and where it isn't
abbrev pub CoversIf : Option Outcomes → Outcome → Type 0
CoversIf None p = ⊤
CoversIf (Some o) p = covers o p ≡ true

pub told_or : (k : Option Outcomes) (o : Outcomes) (p : Outcome) → CoversIf k p → covers o p ≡ true → covers (unwrap_or k o) p ≡ true
told_or None o p h g = g
told_or (Some r) o p h g = h

-- ---- the code

pub count_is : (xs : List Tree) → member_count (views xs) ≡ length xs
count_is [] = refl
count_is (x ∷ xs) = ap suc (count_is xs)

pub list_is : (f : Function) (xs : Scope) (es : List Tree) (n : ℕ) (g : Option Folded) (o : Outcomes) → n ≡ length es → g ≡ members_folded f None (views es) xs → o ≡ list_outcomes f n g
    → Some o ≡ Some (list_outcomes f (member_count (views es)) (members_folded f None (views es) xs))
list_is f xs es n g o count told same =
    ap Some (same ∙ ap (λ k. list_outcomes f k g) (count ∙ sym (count_is es)) ∙ ap (λ (h : Option Folded). list_outcomes f (member_count (views es)) h) told)

-- a list, or one in parentheses; and maybe no list in parentheses
abbrev pub is_written : Expr → Bool
is_written (expr.Group e) = true
is_written (expr.Members es) = true
is_written e = false

pub other_call : (f : Function) (e : Expr) (xs : Scope) → is_written e ≡ false → None ≡ list_call f e xs
other_call f (expr.Group e) xs h = cc
other_call f (expr.Members es) xs h = cc
other_call f e xs h = refl
