-- A chain's steps one after the other, as a loop reads them.
use Rattle.std.proofs.Common.{◌≡◌, ◌≤◌, ◌<◌, ◌+◌, ◌-◌, ℕ, suc, max, Bool, true, false, List, [], ◌∷◌, Option, Some, None, refl, sym, ◌∙◌, arith, if◌then◌else◌}
use Rattle.std.specs.Prelude.{nat_le}
use Rattle.feel_text.specs.declared.expr.Operator.{Operator}
use Rattle.feel_text.specs.declared.line.Line.{Line}
use Rattle.feel_text.specs.declared.fault.ReadFault.{ReadFault}
use Rattle.feel_text.specs.declared.fault.ReadFault.TheVariants.{Syntax, Memory}
use Rattle.feel_text.specs.Token.{Token}
use Rattle.feel_text.specs.Expr as expr
use Rattle.feel_text.specs.Expr.{Expr}
use Rattle.feel_text.specs.Grammar.{tighter}
use Rattle.feel_text.specs.Gives.{Fails}
use Rattle.feel_text.specs.Reading.{Read, Reader, choose, operator_at, steps_at}
use Rattle.feel_value.specs.Found.{◌>>=◌}
use Rattle.feel_text.specs.Parts.{first_operator, step_at}

-- one step more is left than will be left
left_over : (n i : ℕ) → i < n + 1 → n + 1 - i ≡ suc (n + 1 - (i + 1))
left_over n i lt = omega arith

-- a step with its test of depth, before what comes after it
step_or : (shallow : Bool) (r : Read) (f : Expr × ℕ × List Token → Expr × ℕ × List Token) (g : Expr → ℕ → Reader)
    → (if shallow then (r >>= λ x. g (f x).0 (f x).1 (f x).2) else None) ≡ ((if shallow then (r >>= λ x. Some (f x)) else None) >>= λ x. g x.0 x.1 x.2)
step_or false r f g = refl
step_or true None f g = refl
step_or true (Some x) f g = refl

by_operator : (k n : ℕ) (inner : Line → Reader) (l : Line) (e : Expr) (d : ℕ) (t : Token) (ts : List Token) (o : Option Operator)
    → choose o (Some (e, d, t ∷ ts)) (λ op. if nat_le d n then (inner (tighter l) ts >>= λ x. steps_at k inner n l (expr.Binary op e x.0) (1 + max d x.1) x.2) else None)
    ≡ choose {A = Operator × List Token} (o >>= λ op. Some (op, ts)) (Some (e, d, t ∷ ts)) (λ p. step_at p.0 (inner (tighter l)) n e d p.1 >>= λ x. steps_at k inner n l x.0 x.1 x.2)
unfolding step_at
by_operator k n inner l e d t ts None = refl
by_operator k n inner l e d t ts (Some op) = step_or (nat_le d n) (inner (tighter l) ts) (λ x. (expr.Binary op e x.0, 1 + max d x.1, x.2)) (steps_at k inner n l)

one_step : (k n : ℕ) (inner : Line → Reader) (l : Line) (e : Expr) (d : ℕ) (ts : List Token)
    → steps_at (suc k) inner n l e d ts ≡ choose {A = Operator × List Token} (first_operator l ts) (Some (e, d, ts)) (λ p. step_at p.0 (inner (tighter l)) n e d p.1 >>= λ x. steps_at k inner n l x.0 x.1 x.2)
unfolding steps_at first_operator
one_step k n inner l e d [] = refl
one_step k n inner l e d (t ∷ ts) = by_operator k n inner l e d t ts (operator_at l t)

pub ends_other : (n i : ℕ) (inner : Line → Reader) (l : Line) (e : Expr) (d : ℕ) (ts : List Token) (total : Read) → i < n + 1 → first_operator l ts ≡ None
    → steps_at (n + 1 - i) inner n l e d ts ≡ total → total ≡ Some (e, d, ts)
ends_other n i inner l e d ts total lt other so_far =
    let one : steps_at (n + 1 - i) inner n l e d ts ≡ Some (e, d, ts) = rw (left_over n i lt, one_step, other) refl in
    sym so_far ∙ one

pub ends_fault : (f : ReadFault) (n i : ℕ) (inner : Line → Reader) (l : Line) (e : Expr) (d : ℕ) (ts us : List Token) (op : Operator) (total : Read) → i < n + 1 → first_operator l ts ≡ Some (op, us)
    → Fails f (step_at op (inner (tighter l)) n e d us) → steps_at (n + 1 - i) inner n l e d ts ≡ total → Fails f total
ends_fault Memory n i inner l e d ts us op total lt first fails so_far = tt
ends_fault Syntax n i inner l e d ts us op total lt first fails so_far =
    let one : steps_at (n + 1 - i) inner n l e d ts ≡ None = rw (left_over n i lt, one_step, first, fails) refl in
    sym so_far ∙ one

pub goes_on : (n i : ℕ) (inner : Line → Reader) (l : Line) (e : Expr) (d : ℕ) (ts us : List Token) (op : Operator) (b : Expr) (c : ℕ) (vs : List Token) (total : Read) → i < n + 1 → first_operator l ts ≡ Some (op, us)
    → step_at op (inner (tighter l)) n e d us ≡ Some (b, c, vs) → steps_at (n + 1 - i) inner n l e d ts ≡ total
    → steps_at (n + 1 - (i + 1)) inner n l b c vs ≡ total
goes_on n i inner l e d ts us op b c vs total lt first step so_far =
    let one : steps_at (n + 1 - i) inner n l e d ts ≡ steps_at (n + 1 - (i + 1)) inner n l b c vs = rw (left_over n i lt, one_step, first, step) refl in
    sym one ∙ so_far

pub ends_last : (n i : ℕ) (inner : Line → Reader) (l : Line) (e : Expr) (d : ℕ) (ts : List Token) (total : Read) → n + 1 ≤ i → steps_at (n + 1 - i) inner n l e d ts ≡ total → total ≡ None
unfolding steps_at
ends_last n i inner l e d ts total le so_far =
    let k : n + 1 - i ≡ 0 = omega arith in
    let one : steps_at (n + 1 - i) inner n l e d ts ≡ None = rw k refl in
    sym so_far ∙ one
