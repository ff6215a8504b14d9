-- The members of a list one after the other, as a loop reads them.
use Rattle.std.proofs.Common.{◌≡◌, ◌≤◌, ◌<◌, ◌+◌, ◌-◌, ℕ, suc, max, List, [], ◌∷◌, ◌++◌, map, Some, None, refl, sym, ap, ◌∙◌, arith}
use Rattle.feel_text.specs.declared.token.Sign.TheVariants as sign
use Rattle.feel_text.specs.declared.line.Line.{Line}
use Rattle.feel_text.specs.declared.line.Line.TheVariants as line
use Rattle.feel_text.specs.declared.expr.Tree as code
use Rattle.feel_text.specs.declared.fault.ReadFault.{ReadFault}
use Rattle.feel_text.specs.declared.fault.ReadFault.TheVariants.{Syntax, Memory}
use Rattle.feel_text.specs.Token.{Token, Symbol}
use Rattle.feel_text.specs.Expr.{Expr, Exprs, none, more}
use Rattle.feel_text.specs.View.{view, exprs_of}
use Rattle.feel_text.specs.Gives.{Fails}
use Rattle.feel_text.specs.Reading.{Reader, ReadMore, choose, after_bracket, after_comma, members_at, joined, before_more}
use Rattle.feel_value.specs.Found.{◌>>=◌}

-- a further member, and those after it
abbrev further : ℕ → (Line → Reader) → List Token → ReadMore
further k inner us = inner line.Whole us >>= λ x. (members_at k inner x.2 >>= λ xs. Some (more x.0 xs.0, max x.1 xs.1, xs.2))

members_step : (k : ℕ) (inner : Line → Reader) (ts : List Token) → members_at (suc k) inner ts ≡ choose (after_bracket ts) (choose (after_comma ts) None (further k inner)) (λ us. Some (none, 0, us))
unfolding members_at
members_step k inner (Symbol sign.CloseBracket ∷ ts) = refl
members_step k inner (Symbol sign.Comma ∷ ts) = refl
members_step k inner ts = refl

before_none : (es : Exprs) → before_more es none ≡ es
before_none none = refl
before_none (more e es) = ap (λ (fs : Exprs). more e fs) (before_none es)

before_before : (es fs gs : Exprs) → before_more (before_more es fs) gs ≡ before_more es (before_more fs gs)
before_before none fs gs = refl
before_before (more e es) fs gs = ap (λ (hs : Exprs). more e hs) (before_before es fs gs)

-- a member pushed on a list
pub push_seen : (xs : List code.Tree) (x : code.Tree) → exprs_of (map view (xs ++ x ∷ [])) ≡ before_more (exprs_of (map view xs)) (more (view x) none)
push_seen [] x = refl
push_seen (y ∷ xs) x = ap (λ (fs : Exprs). more (view y) fs) (push_seen xs x)

left_over : (n i : ℕ) → i < n → n - i ≡ suc (n - (i + 1))
left_over n i lt = omega arith

pub ends_bracket : (n i : ℕ) (inner : Line → Reader) (es : Exprs) (d : ℕ) (ts us : List Token) (total : ReadMore) → i < n → after_bracket ts ≡ Some us
    → joined es d (members_at (n - i) inner ts) ≡ total → total ≡ Some (es, d, us)
ends_bracket n i inner es d ts us total lt bracket so_far =
    let one : members_at (n - i) inner ts ≡ Some (none, 0, us) = rw (left_over n i lt, members_step, bracket) refl in
    let deep : max d 0 ≡ d = omega arith in
    let all : joined es d (members_at (n - i) inner ts) ≡ Some (es, d, us) = rw (one, before_none, deep) refl in
    sym so_far ∙ all

pub ends_comma : (f : ReadFault) (n i : ℕ) (inner : Line → Reader) (es : Exprs) (d : ℕ) (ts : List Token) (total : ReadMore) → i < n → after_bracket ts ≡ None → Fails f (after_comma ts)
    → joined es d (members_at (n - i) inner ts) ≡ total → Fails f total
ends_comma Memory n i inner es d ts total lt bracket comma so_far = tt
ends_comma Syntax n i inner es d ts total lt bracket comma so_far =
    let one : members_at (n - i) inner ts ≡ None = rw (left_over n i lt, members_step, bracket, comma) refl in
    let all : joined es d (members_at (n - i) inner ts) ≡ None = rw one refl in
    sym so_far ∙ all

pub ends_fault : (f : ReadFault) (n i : ℕ) (inner : Line → Reader) (es : Exprs) (d : ℕ) (ts us : List Token) (total : ReadMore) → i < n → after_bracket ts ≡ None → after_comma ts ≡ Some us → Fails f (inner line.Whole us)
    → joined es d (members_at (n - i) inner ts) ≡ total → Fails f total
ends_fault Memory n i inner es d ts us total lt bracket comma fails so_far = tt
ends_fault Syntax n i inner es d ts us total lt bracket comma fails so_far =
    let one : members_at (n - i) inner ts ≡ None = rw (left_over n i lt, members_step, bracket, comma, fails) refl in
    let all : joined es d (members_at (n - i) inner ts) ≡ None = rw one refl in
    sym so_far ∙ all

rejoined : (es : Exprs) (d : ℕ) (e : Expr) (c : ℕ) (r : ReadMore) → joined es d (r >>= λ xs. Some (more e xs.0, max c xs.1, xs.2)) ≡ joined (before_more es (more e none)) (max d c) r
rejoined es d e c None = refl
rejoined es d e c (Some (fs, b, ts)) =
    let deep : max d (max c b) ≡ max (max d c) b = omega arith in
    rw (deep, before_before es (more e none) fs) refl

pub goes_on : (n i : ℕ) (inner : Line → Reader) (es : Exprs) (d : ℕ) (ts us vs : List Token) (e : Expr) (c : ℕ) (total : ReadMore) → i < n → after_bracket ts ≡ None → after_comma ts ≡ Some us → inner line.Whole us ≡ Some (e, c, vs)
    → joined es d (members_at (n - i) inner ts) ≡ total → joined (before_more es (more e none)) (max d c) (members_at (n - (i + 1)) inner vs) ≡ total
goes_on n i inner es d ts us vs e c total lt bracket comma member so_far =
    let one : members_at (n - i) inner ts ≡ (members_at (n - (i + 1)) inner vs >>= λ xs. Some (more e xs.0, max c xs.1, xs.2)) = rw (left_over n i lt, members_step, bracket, comma, member) refl in
    let all : joined es d (members_at (n - i) inner ts) ≡ joined (before_more es (more e none)) (max d c) (members_at (n - (i + 1)) inner vs) = ap (λ (r : ReadMore). joined es d r) one ∙ rejoined es d e c (members_at (n - (i + 1)) inner vs) in
    sym all ∙ so_far

pub ends_last : (n i : ℕ) (inner : Line → Reader) (es : Exprs) (d : ℕ) (ts : List Token) (total : ReadMore) → n ≤ i → joined es d (members_at (n - i) inner ts) ≡ total → total ≡ None
unfolding members_at
ends_last n i inner es d ts total le so_far =
    let k : n - i ≡ 0 = omega arith in
    let all : joined es d (members_at (n - i) inner ts) ≡ None = rw k refl in
    sym so_far ∙ all
