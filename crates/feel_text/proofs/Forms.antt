-- What is read of a form, from what is read of its parts.
use Rattle.std.proofs.Common.{◌≡◌, ◌≤◌, ◌+◌, ℕ, Bool, max, List, Option, None, Some, refl, ap, ◌∙◌, if◌then◌else◌}
use Rattle.std.proofs.lemmas.Bool.{le-leb}
use Rattle.feel_text.specs.declared.line.Line.{Line}
use Rattle.feel_text.specs.declared.line.Line.TheVariants as line
use Rattle.feel_text.specs.declared.fault.ReadFault.{ReadFault}
use Rattle.feel_text.specs.declared.fault.ReadFault.TheVariants.{Syntax, Memory}
use Rattle.feel_text.specs.Token.{Token}
use Rattle.feel_text.specs.Expr as expr
use Rattle.feel_text.specs.Expr.{Expr}
use Rattle.feel_text.specs.Gives.{Fails}
use Rattle.feel_text.specs.Parts.{then_at, else_at, high_at, branches_at, bounds_at, high_part_at}
use Rattle.feel_text.specs.Reading.{Read, Reader, after_then, after_else, after_and, after_comma, closed_at, conditional_at, between_at, modulo_at, read_at}
use Rattle.feel_value.specs.Found.{◌>>=◌}
use Rattle.feel_text.specs.TestReading.{after_dots, high_end_at, interval_at, low_end_of}
use Rattle.feel_text.specs.Tests.{Test, Interval, most_depth}

bind_bind : {A B C : Type 0} (o : Option A) (f : A → Option B) (g : B → Option C) → (o >>= λ a. f a >>= g) ≡ (o >>= f >>= g)
bind_bind None f g = refl
bind_bind (Some a) f g = refl

bind_same : {A B : Type 0} (o : Option A) (f g : A → Option B) → ((a : A) → f a ≡ g a) → (o >>= f) ≡ (o >>= g)
bind_same None f g same = refl
bind_same (Some a) f g same = same a

made : {B C D : Type 0} (p : Option B) (m : B → C) (g : C → Option D) → (p >>= λ y. g (m y)) ≡ ((p >>= λ y. Some (m y)) >>= g)
made None m g = refl
made (Some y) m g = refl

-- two parts that are read as a pair
paired : {A B C D : Type 0} (o : Option A) (p : A → Option B) (m : A → B → C) (g : C → Option D) → (o >>= λ x. p x >>= λ y. g (m x y)) ≡ ((o >>= λ x. p x >>= λ y. Some (m x y)) >>= g)
paired None p m g = refl
paired (Some x) p m g = made (p x) (m x) g

-- the two expressions of a pair, and the depth of the deeper one
abbrev pair_of : Expr × ℕ × List Token → Expr × ℕ × List Token → Expr × Expr × ℕ × List Token
pair_of x y = (x.0, y.0, max x.1 y.1, y.2)

-- ---- conditionals

-- what is read after the second branch, after the first one and after the test
abbrev after_no : Expr → ℕ → Expr → ℕ → Expr × ℕ × List Token → Read
after_no a i b j x = Some (expr.If a b x.0, 1 + max i (max j x.1), x.2)

abbrev after_yes : (Line → Reader) → Expr → ℕ → Expr × ℕ × List Token → Read
after_yes inner a i x = after_else x.2 >>= λ us. inner line.Whole us >>= after_no a i x.0 x.1

abbrev after_test : (Line → Reader) → Expr × ℕ × List Token → Read
after_test inner x = after_then x.2 >>= λ us. inner line.Whole us >>= after_yes inner x.0 x.1

-- and after both branches
abbrev after_branches : Expr → ℕ → Expr × Expr × ℕ × List Token → Read
after_branches a i p = Some (expr.If a p.0 p.1, 1 + max i p.2, p.3)

by_branches : (inner : Line → Reader) (us : List Token) (a : Expr) (i : ℕ) → after_test inner (a, i, us) ≡ (branches_at inner us >>= after_branches a i)
unfolding branches_at
by_branches inner us a i =
    bind_bind (after_then us) (inner line.Whole) (after_yes inner a i)
    ∙ bind_same (then_at inner us) (after_yes inner a i) (λ x. else_at inner x.2 >>= after_no a i x.0 x.1) (λ x. bind_bind (after_else x.2) (inner line.Whole) (after_no a i x.0 x.1))
    ∙ paired (then_at inner us) (λ x. else_at inner x.2) pair_of (after_branches a i)

by_test : (inner : Line → Reader) (ts us : List Token) (a : Expr) (i : ℕ) → inner line.Whole ts ≡ Some (a, i, us) → conditional_at inner ts ≡ (branches_at inner us >>= after_branches a i)
unfolding conditional_at
by_test inner ts us a i test = ap (λ o. o >>= after_test inner) test ∙ by_branches inner us a i

pub conditional_found : (inner : Line → Reader) (ts us ws : List Token) (a b e : Expr) (i j : ℕ)
    → inner line.Whole ts ≡ Some (a, i, us) → branches_at inner us ≡ Some (b, e, j, ws) → conditional_at inner ts ≡ Some (expr.If a b e, 1 + max i j, ws)
conditional_found inner ts us ws a b e i j test branches = by_test inner ts us a i test ∙ ap (λ o. o >>= after_branches a i) branches

pub branches_fail : (f : ReadFault) (inner : Line → Reader) (ts us : List Token) (a : Expr) (i : ℕ) → inner line.Whole ts ≡ Some (a, i, us) → Fails f (branches_at inner us) → Fails f (conditional_at inner ts)
branches_fail Memory inner ts us a i test fails = tt
branches_fail Syntax inner ts us a i test fails = by_test inner ts us a i test ∙ ap (λ o. o >>= after_branches a i) fails

-- ---- between

-- what is read after the high bound, and after the low one
abbrev after_high : Expr → ℕ → Expr → ℕ → Expr × ℕ × List Token → Read
after_high e d a i x = Some (expr.Between e a x.0, 1 + max d (max i x.1), x.2)

abbrev after_low : (Line → Reader) → Expr → ℕ → Expr × ℕ × List Token → Read
after_low inner e d x = after_and x.2 >>= λ us. inner line.Sum us >>= after_high e d x.0 x.1

-- and after both bounds
abbrev after_bounds : Expr → ℕ → Expr × Expr × ℕ × List Token → Read
after_bounds e d p = Some (expr.Between e p.0 p.1, 1 + max d p.2, p.3)

by_bounds : (inner : Line → Reader) (n : ℕ) (e : Expr) (d : ℕ) (ts : List Token) → d ≤ n → between_at inner n e d ts ≡ (bounds_at inner ts >>= after_bounds e d)
unfolding between_at bounds_at
by_bounds inner n e d ts shallow =
    ap (λ t. if t then (inner line.Sum ts >>= after_low inner e d) else None) (le-leb d n shallow)
    ∙ bind_same (inner line.Sum ts) (after_low inner e d) (λ x. high_at inner x.2 >>= after_high e d x.0 x.1) (λ x. bind_bind (after_and x.2) (inner line.Sum) (after_high e d x.0 x.1))
    ∙ paired (inner line.Sum ts) (λ x. high_at inner x.2) pair_of (after_bounds e d)

pub between_found : (inner : Line → Reader) (n : ℕ) (e : Expr) (d : ℕ) (ts vs : List Token) (a b : Expr) (i : ℕ)
    → d ≤ n → bounds_at inner ts ≡ Some (a, b, i, vs) → between_at inner n e d ts ≡ Some (expr.Between e a b, 1 + max d i, vs)
between_found inner n e d ts vs a b i shallow bounds = by_bounds inner n e d ts shallow ∙ ap (λ o. o >>= after_bounds e d) bounds

pub bounds_fail : (f : ReadFault) (inner : Line → Reader) (n : ℕ) (e : Expr) (d : ℕ) (ts : List Token) → d ≤ n → Fails f (bounds_at inner ts) → Fails f (between_at inner n e d ts)
bounds_fail Memory inner n e d ts shallow fails = tt
bounds_fail Syntax inner n e d ts shallow fails = by_bounds inner n e d ts shallow ∙ ap (λ o. o >>= after_bounds e d) fails

-- ---- the arguments of `modulo`

pub modulo_found : (inner : Line → Reader) (ts us vs ws : List Token) (a b : Expr) (i j : ℕ)
    → inner line.Whole ts ≡ Some (a, i, us) → after_comma us ≡ Some vs → closed_at inner vs ≡ Some (b, j, ws)
    → modulo_at inner ts ≡ Some (expr.Modulo a b, 1 + max i j, ws)
unfolding modulo_at
modulo_found inner ts us vs ws a b i j left comma right = rw (left, comma, right) refl

-- ---- intervals

-- what is read after the high end
abbrev after_end : Bool → Expr → Expr × Bool × List Token → Option (Test × List Token)
after_end closed low p = Some (Interval closed low p.0 p.1, p.2)

abbrev high_of : Expr × ℕ × List Token → Bool × List Token → Expr × Bool × List Token
high_of x y = (x.0, y.0, y.1)

abbrev high_read : List Token → Option (Expr × Bool × List Token)
high_read vs = read_at most_depth line.Sum vs >>= λ x. high_end_at x.2 >>= λ y. Some (high_of x y)

by_high : (closed : Bool) (low : Expr) (us : List Token)
    → (after_dots us >>= λ vs. read_at most_depth line.Sum vs >>= λ x. high_end_at x.2 >>= λ y. after_end closed low (high_of x y)) ≡ (high_part_at us >>= after_end closed low)
unfolding high_part_at
by_high closed low us =
    bind_same (after_dots us) (λ vs. read_at most_depth line.Sum vs >>= λ x. high_end_at x.2 >>= λ y. after_end closed low (high_of x y)) (λ vs. high_read vs >>= after_end closed low)
    (λ vs. paired (read_at most_depth line.Sum vs) (λ x. high_end_at x.2) high_of (after_end closed low))
    ∙ bind_bind (after_dots us) high_read (after_end closed low)

by_low : (t : Token) (closed : Bool) (ts us : List Token) (low : Expr) (d : ℕ) → low_end_of t ≡ Some closed → read_at most_depth line.Sum ts ≡ Some (low, d, us) → interval_at t ts ≡ (high_part_at us >>= after_end closed low)
unfolding interval_at
by_low t closed ts us low d opens read = rw (opens, read) (by_high closed low us)

pub interval_found : (t : Token) (closed end : Bool) (ts us vs : List Token) (low high : Expr) (d : ℕ)
    → low_end_of t ≡ Some closed → read_at most_depth line.Sum ts ≡ Some (low, d, us) → high_part_at us ≡ Some (high, end, vs) → interval_at t ts ≡ Some (Interval closed low high end, vs)
interval_found t closed end ts us vs low high d opens read ends = by_low t closed ts us low d opens read ∙ ap (λ o. o >>= after_end closed low) ends

pub high_fails : (f : ReadFault) (t : Token) (closed : Bool) (ts us : List Token) (low : Expr) (d : ℕ)
    → low_end_of t ≡ Some closed → read_at most_depth line.Sum ts ≡ Some (low, d, us) → Fails f (high_part_at us) → Fails f (interval_at t ts)
high_fails Memory t closed ts us low d opens read fails = tt
high_fails Syntax t closed ts us low d opens read fails = by_low t closed ts us low d opens read ∙ ap (λ o. o >>= after_end closed low) fails
