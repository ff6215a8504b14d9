-- Unary tests that the tokens spell are read.
use Rattle.std.proofs.Common.{◌≡◌, ◌≤◌, ◌<◌, ℕ, zero, suc, Bool, true, false, List, [], ◌∷◌, ◌++◌, length, Some, None, refl, sym, ap, subst, ◌∙◌, append_assoc, length-append, arith}
use Rattle.std.proofs.lemmas.List.{append-nil}
use Rattle.feel_text.specs.declared.token.Word.TheVariants as word
use Rattle.feel_text.specs.declared.token.Sign.{Sign}
use Rattle.feel_text.specs.declared.token.Sign.TheVariants as sign
use Rattle.feel_text.specs.declared.line.Line.{Line}
use Rattle.feel_text.specs.declared.line.Line.TheVariants as line
use Rattle.feel_text.specs.Token.{Token, Name, Keyword, Symbol}
use Rattle.feel_text.specs.Expr as expr
use Rattle.feel_text.specs.Expr.{Expr, Exprs, none, more, depth}
use Rattle.feel_text.specs.Grammar.{Reads, token_of}
use Rattle.feel_text.specs.Reading.{after_comma, read_at}
use Rattle.feel_value.specs.Found.{◌>>=◌}
use Rattle.feel_text.specs.Tests.{Bound, Below, AtMost, Above, AtLeast, Test, Compares, Interval, Equals, Tests, Any, OneOf, NoneOf, ReadsTest, ReadsList, ReadsNot, ReadsTests, ReadsSum, ReadsExpr, Opens, Closes, bound_sign}
use Rattle.feel_text.specs.Tests as rule
use Rattle.feel_text.specs.TestReading.{bound_of, low_end_of, high_end_of, high_end_at, interval_at, compares_at, plain_at, test_at, list_at, one_of_at, none_of_at, after_not, is_dash}
use Rattle.feel_text.proofs.Spelling.{spelling}
use Rattle.feel_text.proofs.Found.{closing}
use Rattle.feel_text.proofs.Complete.{Stops, stops_up, first, begins, begins_more, read_again}
use Rattle.feel_text.proofs.Rules.{is_spelled}
use Rattle.feel_text.proofs.Dots.{interval_unread}

-- ---- an expression of a test

-- what is spelled on a line within the limit is read
read_part : (l : Line) (ts rest : List Token) (e : Expr) → Reads l ts e → depth e ≤ 64 → Stops l rest → read_at 64 l (ts ++ rest) ≡ Some (e, depth e, rest)
read_part l ts rest e r d stop =
    let p = is_spelled l ts e r in
    ap (λ (w : List Token). read_at 64 l (w ++ rest)) p.text ∙ read_again 64 l e rest p.stands d stop

-- no comparison begins an expression
no_bound : (e : Expr) → bound_of (first e) ≡ None
no_bound expr.Null = refl
no_bound (expr.Boolean true) = refl
no_bound (expr.Boolean false) = refl
no_bound (expr.Number n) = refl
no_bound (expr.Text bytes) = refl
no_bound (expr.Name name) = refl
no_bound (expr.Group e) = refl
no_bound (expr.Members es) = refl
no_bound (expr.Call f e) = refl
no_bound (expr.Modulo a b) = refl
no_bound (expr.Not e) = refl
no_bound (expr.Negate e) = refl
no_bound (expr.Path e name) = no_bound e
no_bound (expr.Binary op a b) = no_bound a
no_bound (expr.Between e low high) = no_bound e
no_bound (expr.If test a b) = refl

plain_again : (t : Token) (ts rest : List Token) (e : Expr) (d : ℕ) → read_at 64 line.Whole (t ∷ ts) ≡ Some (e, d, rest) → plain_at t ts ≡ Some (Equals e, rest)
unfolding plain_at
plain_again t ts rest e d read = rw read refl

test_plain : (t : Token) (ts : List Token) → bound_of t ≡ None → test_at (t ∷ ts) ≡ plain_at t ts
unfolding test_at
test_plain t ts nothing = rw nothing refl

first_plain : (t : Token) (ts us rest : List Token) (e : Expr) (d : ℕ) → us ≡ t ∷ ts → bound_of t ≡ None → read_at 64 line.Whole us ≡ Some (e, d, rest) → test_at us ≡ Some (Equals e, rest)
first_plain t ts us rest e d is nothing read =
    ap test_at is ∙ test_plain t ts nothing ∙ plain_again t ts rest e d (ap (λ (w : List Token). read_at 64 line.Whole w) (sym is) ∙ read)

equals_again : (ts rest : List Token) (e : Expr) → ReadsExpr ts e → Stops line.Whole rest → test_at (ts ++ rest) ≡ Some (Equals e, rest)
equals_again ts rest e r stop =
    let p = is_spelled line.Whole ts e r.0 in
    let b = begins_more (first e) (spelling e) rest (begins e) in
    first_plain (first e) b.0 (ts ++ rest) rest e (depth e) (ap (λ (w : List Token). w ++ rest) p.text ∙ b.1) (no_bound e) (read_part line.Whole ts rest e r.0 r.1 stop)

-- ---- comparisons

stops_sum : (rest : List Token) → Stops line.Whole rest → Stops line.Sum rest
stops_sum rest stop = stops_up line.Whole line.Sum rest (omega arith) stop

compares_read : (bound : Bound) (ts rest : List Token) (e : Expr) (d : ℕ) → read_at 64 line.Sum ts ≡ Some (e, d, rest) → compares_at bound ts ≡ Some (Compares bound e, rest)
unfolding compares_at
compares_read bound ts rest e d read = rw read refl

test_compares : (bound : Bound) (ts : List Token) → test_at (Symbol (bound_sign bound) ∷ ts) ≡ compares_at bound ts
unfolding test_at
test_compares Below ts = refl
test_compares AtMost ts = refl
test_compares Above ts = refl
test_compares AtLeast ts = refl

compares_again : (bound : Bound) (ts rest : List Token) (e : Expr) → ReadsSum ts e → Stops line.Whole rest → test_at ((Symbol (bound_sign bound) ∷ ts) ++ rest) ≡ Some (Compares bound e, rest)
compares_again bound ts rest e r stop =
    test_compares bound (ts ++ rest) ∙ compares_read bound (ts ++ rest) rest e (depth e) (read_part line.Sum ts rest e r.0 r.1 (stops_sum rest stop))

-- ---- intervals

low_again : (s : Sign) (closed : Bool) → Opens s closed → low_end_of (Symbol s) ≡ Some closed
low_again s closed rule.closed_low = refl
low_again s closed rule.open_low = refl
low_again s closed rule.turned_low = refl

low_no_bound : (s : Sign) (closed : Bool) → Opens s closed → bound_of (Symbol s) ≡ None
low_no_bound s closed rule.closed_low = refl
low_no_bound s closed rule.open_low = refl
low_no_bound s closed rule.turned_low = refl

high_end_of_sign : (s : Sign) (closed : Bool) → Closes s closed → high_end_of (Symbol s) ≡ Some closed
high_end_of_sign s closed rule.closed_high = refl
high_end_of_sign s closed rule.open_high = refl
high_end_of_sign s closed rule.turned_high = refl

high_again : (s : Sign) (closed : Bool) (rest : List Token) → Closes s closed → high_end_at (Symbol s ∷ rest) ≡ Some (closed, rest)
unfolding high_end_at
high_again s closed rest c = rw (high_end_of_sign s closed c) refl

-- nothing goes on with a sum at the sign that ends an interval
stops_end : (s : Sign) (closed : Bool) (rest : List Token) → Closes s closed → Stops line.Sum (Symbol s ∷ rest)
stops_end s closed rest rule.closed_high = omega arith
stops_end s closed rest rule.open_high = omega arith
stops_end s closed rest rule.turned_high = omega arith

interval_read : (t : Token) (closed end : Bool) (ts us vs rest : List Token) (low high : Expr) (c d : ℕ) → low_end_of t ≡ Some closed → read_at 64 line.Sum ts ≡ Some (low, c, Symbol sign.DotDot ∷ us)
    → read_at 64 line.Sum us ≡ Some (high, d, vs) → high_end_at vs ≡ Some (end, rest) → interval_at t ts ≡ Some (Interval closed low high end, rest)
unfolding interval_at
interval_read t closed end ts us vs rest low high c d a b e f = rw (a, b, e, f) refl

plain_interval : (t : Token) (ts : List Token) → read_at 64 line.Whole (t ∷ ts) ≡ None → plain_at t ts ≡ interval_at t ts
unfolding plain_at
plain_interval t ts nothing = rw nothing refl

interval_again : (s e : Sign) (closed end : Bool) (ts us rest : List Token) (low high : Expr) → Opens s closed → Closes e end → ReadsSum ts low → ReadsSum us high
    → test_at ((Symbol s ∷ (ts ++ Symbol sign.DotDot ∷ (us ++ Symbol e ∷ []))) ++ rest) ≡ Some (Interval closed low high end, rest)
interval_again s e closed end ts us rest low high o c p q =
    let inside : (ts ++ Symbol sign.DotDot ∷ (us ++ Symbol e ∷ [])) ++ rest ≡ ts ++ Symbol sign.DotDot ∷ (us ++ Symbol e ∷ rest) =
    append_assoc ts (Symbol sign.DotDot ∷ (us ++ Symbol e ∷ [])) rest ∙ ap (λ (w : List Token). ts ++ Symbol sign.DotDot ∷ w) (closing us rest (Symbol e)) in
    let all = us ++ Symbol e ∷ rest in
    let spelled = is_spelled line.Sum ts low p.0 in
    let unread : read_at 64 line.Whole (Symbol s ∷ (ts ++ Symbol sign.DotDot ∷ all)) ≡ None =
    ap (λ (w : List Token). read_at 64 line.Whole (Symbol s ∷ (w ++ Symbol sign.DotDot ∷ all))) spelled.text ∙ interval_unread s closed low all o in
    ap (λ (w : List Token). test_at (Symbol s ∷ w)) inside
    ∙ test_plain (Symbol s) (ts ++ Symbol sign.DotDot ∷ all) (low_no_bound s closed o)
    ∙ plain_interval (Symbol s) (ts ++ Symbol sign.DotDot ∷ all) unread
    ∙ interval_read (Symbol s) closed end (ts ++ Symbol sign.DotDot ∷ all) all (Symbol e ∷ rest) rest low high (depth low) (depth high) (low_again s closed o)
    (read_part line.Sum ts (Symbol sign.DotDot ∷ all) low p.0 p.1 (omega arith)) (read_part line.Sum us (Symbol e ∷ rest) high q.0 q.1 (stops_end e end rest c)) (high_again e end rest c)

-- A test is read, where nothing after it goes on with it.
test_again : (ts rest : List Token) (t : Test) → ReadsTest ts t → Stops line.Whole rest → test_at (ts ++ rest) ≡ Some (t, rest)
test_again ts rest t (rule.compares bound us e r) stop = compares_again bound us rest e r stop
test_again ts rest t (rule.interval s e closed end us vs low high o c p q) stop = interval_again s e closed end us vs rest low high o c p q
test_again ts rest t (rule.equals us e r) stop = equals_again us rest e r stop

-- ---- lists of tests

has_tokens : (e : Expr) → 0 < length (spelling e)
has_tokens e = let b = begins e in let n = ap length b.1 in omega arith

test_tokens : (ts : List Token) (t : Test) → ReadsTest ts t → 0 < length ts
test_tokens ts t (rule.compares bound us e r) = omega arith
test_tokens ts t (rule.interval s e closed end us vs low high o c p q) = omega arith
test_tokens ts t (rule.equals us e r) =
    let p = is_spelled line.Whole us e r.0 in
    let n = ap length p.text in
    omega (arith, has_tokens e)

list_last : (k : ℕ) (ts rest : List Token) (t : Test) → test_at ts ≡ Some (t, rest) → after_comma rest ≡ None → list_at (suc k) ts ≡ Some (t ∷ [], rest)
unfolding list_at
list_last k ts rest t test last = rw (test, last) refl

list_next : (k : ℕ) (ts us rest : List Token) (t : Test) (tests : List Test) → test_at ts ≡ Some (t, Symbol sign.Comma ∷ us) → list_at k us ≡ Some (tests, rest) → list_at (suc k) ts ≡ Some (t ∷ tests, rest)
unfolding list_at
list_next k ts us rest t tests test later = rw (test, later) refl

pub list_again : (k : ℕ) (ts rest : List Token) (tests : List Test) → ReadsList ts tests → Stops line.Whole rest → after_comma rest ≡ None → length ts ≤ k → list_at k (ts ++ rest) ≡ Some (tests, rest)
list_again zero ts rest tests (rule.last_test us t r) stop last le = absurd (omega (arith, test_tokens us t r))
list_again (suc k) ts rest tests (rule.last_test us t r) stop last le = list_last k (us ++ rest) rest t (test_again us rest t r stop) last
list_again zero ts rest tests (rule.next_test us vs t later r rs) stop last le = absurd (omega (arith, test_tokens us t r, length-append us (Symbol sign.Comma ∷ vs)))
list_again (suc k) ts rest tests (rule.next_test us vs t later r rs) stop last le =
    let fits : length vs ≤ k = omega (arith, length-append us (Symbol sign.Comma ∷ vs)) in
    ap (λ (w : List Token). list_at (suc k) w) (append_assoc us (Symbol sign.Comma ∷ vs) rest)
    ∙ list_next k (us ++ Symbol sign.Comma ∷ (vs ++ rest)) (vs ++ rest) rest t later (test_again us (Symbol sign.Comma ∷ (vs ++ rest)) t r (omega arith)) (list_again k vs rest later rs stop last fits)

-- ---- whole tests

one_of_read : (ts : List Token) (tests : List Test) → list_at (length ts) ts ≡ Some (tests, []) → one_of_at ts ≡ Some (OneOf tests)
unfolding one_of_at
one_of_read ts tests list = rw list refl

pub one_of_again : (ts : List Token) (tests : List Test) → ReadsList ts tests → one_of_at ts ≡ Some (OneOf tests)
one_of_again ts tests r =
    let list = list_again (length ts) ts [] tests r tt refl (omega arith) in
    one_of_read ts tests (subst (λ (w : List Token). list_at (length ts) w ≡ Some (tests, [])) (append-nil ts) list)

none_of_read : (us : List Token) (tests : List Test) → list_at (length us) us ≡ Some (tests, Symbol sign.CloseParen ∷ []) → none_of_at us ≡ Some (NoneOf tests)
unfolding none_of_at
none_of_read us tests list = rw list refl

pub not_again : (ts : List Token) (tests : List Test) → ReadsNot ts tests → (after_not ts >>= none_of_at) ≡ Some (NoneOf tests)
not_again ts tests r =
    let us = r.0 in
    let fits : length us ≤ length (us ++ Symbol sign.CloseParen ∷ []) = omega (arith, length-append us (Symbol sign.CloseParen ∷ [])) in
    ap (λ (w : List Token). after_not w >>= none_of_at) r.2
    ∙ none_of_read (us ++ Symbol sign.CloseParen ∷ []) tests (list_again (length (us ++ Symbol sign.CloseParen ∷ [])) us (Symbol sign.CloseParen ∷ []) tests r.1 (omega arith) refl fits)

-- ---- a single `-` is no list of tests

abbrev IsMinus : Token → Type 0
IsMinus (Symbol sign.Minus) = Unit {0}
IsMinus t = ⊥

long : (xs ys : List Token) (t : Token) → xs ++ ys ≡ t ∷ [] → 0 < length xs → 0 < length ys → ⊥
long xs ys t e p q = let n = ap length e in omega (arith, length-append xs ys)

-- the minus of a negation has something after it
lone_minus : (e : Expr) → spelling e ≡ Symbol sign.Minus ∷ [] → ⊥
lone_minus expr.Null h = absurd cc
lone_minus (expr.Boolean b) h = absurd cc
lone_minus (expr.Number n) h = absurd cc
lone_minus (expr.Text bytes) h = absurd cc
lone_minus (expr.Name name) h = absurd cc
lone_minus (expr.Group e) h = absurd cc
lone_minus (expr.Members none) h = absurd cc
lone_minus (expr.Members (more e es)) h = absurd cc
lone_minus (expr.Call f e) h = absurd cc
lone_minus (expr.Modulo a b) h = absurd cc
lone_minus (expr.Not e) h = absurd cc
lone_minus (expr.Negate e) h = let n = ap length h in omega (arith, has_tokens e)
lone_minus (expr.Path e name) h = long (spelling e) (Symbol sign.Dot ∷ Name name ∷ []) (Symbol sign.Minus) h (has_tokens e) (omega arith)
lone_minus (expr.Binary op a b) h = long (spelling a) (token_of op ∷ spelling b) (Symbol sign.Minus) h (has_tokens a) (omega arith)
lone_minus (expr.Between e low high) h = long (spelling e) (Keyword word.Between ∷ (spelling low ++ Keyword word.And ∷ spelling high)) (Symbol sign.Minus) h (has_tokens e) (omega arith)
lone_minus (expr.If test a b) h = absurd cc

bound_no_minus : (bound : Bound) → Symbol (bound_sign bound) ≡ Symbol sign.Minus → ⊥
bound_no_minus Below e = absurd cc
bound_no_minus AtMost e = absurd cc
bound_no_minus Above e = absurd cc
bound_no_minus AtLeast e = absurd cc

low_no_minus : (s : Sign) (closed : Bool) → Opens s closed → Symbol s ≡ Symbol sign.Minus → ⊥
low_no_minus s closed rule.closed_low e = absurd cc
low_no_minus s closed rule.open_low e = absurd cc
low_no_minus s closed rule.turned_low e = absurd cc

same_first : (t u : Token) (ts us : List Token) → (t ∷ ts) ≡ (u ∷ us) → t ≡ u
same_first t u ts us e = cc

test_no_minus : (ts : List Token) (t : Test) → ReadsTest ts t → ts ≡ Symbol sign.Minus ∷ [] → ⊥
test_no_minus ts t (rule.compares bound us e r) is = bound_no_minus bound (same_first (Symbol (bound_sign bound)) (Symbol sign.Minus) us [] is)
test_no_minus ts t (rule.interval s e closed end us vs low high o c p q) is =
    low_no_minus s closed o (same_first (Symbol s) (Symbol sign.Minus) (us ++ Symbol sign.DotDot ∷ (vs ++ Symbol e ∷ [])) [] is)
test_no_minus ts t (rule.equals us e r) is = lone_minus e (sym (is_spelled line.Whole us e r.0).text ∙ is)

list_no_minus : (ts : List Token) (tests : List Test) → ReadsList ts tests → ts ≡ Symbol sign.Minus ∷ [] → ⊥
list_no_minus ts tests (rule.last_test us t r) is = test_no_minus us t r is
list_no_minus ts tests (rule.next_test us vs t later r rs) is = long us (Symbol sign.Comma ∷ vs) (Symbol sign.Minus) is (test_tokens us t r) (omega arith)

-- what the tokens are where they are a single `-`
pub dash_is : (ts : List Token) → is_dash ts ≡ true → ts ≡ Symbol sign.Minus ∷ []
dash_is [] e = absurd cc
dash_is (Symbol sign.Minus ∷ []) e = refl
dash_is ts e = absurd cc

no_dash_by : (ts : List Token) (b : Bool) → is_dash ts ≡ b → (ts ≡ Symbol sign.Minus ∷ [] → ⊥) → is_dash ts ≡ false
no_dash_by ts true e h = absurd (h (dash_is ts e))
no_dash_by ts false e h = e

pub no_dash : (ts : List Token) (tests : List Test) → ReadsList ts tests → is_dash ts ≡ false
no_dash ts tests r = no_dash_by ts (is_dash ts) refl (λ is. list_no_minus ts tests r is)
