-- What is spelled is read, where nothing after it goes on with it.
use Rattle.std.proofs.Common.{◌≡◌, ◌≤◌, ◌<◌, ◌+◌, ℕ, zero, suc, max, true, false, List, [], ◌∷◌, ◌++◌, length, Some, None, refl, sym, ap, subst, ◌∙◌, append_assoc, arith}
use Rattle.std.specs.Prelude.{codes}
use Rattle.std.proofs.Common.{inl, inr}
use Rattle.std.proofs.lemmas.Bool.{le-leb, cases_lt}
use Rattle.feel_text.proofs.Found.{IsChain, chains, closing, comparison_left}
use Rattle.feel_text.specs.declared.token.Word.TheVariants as word
use Rattle.feel_text.specs.declared.token.Sign.TheVariants as sign
use Rattle.feel_text.specs.declared.expr.Operator.{Operator}
use Rattle.feel_text.specs.declared.expr.Operator.TheVariants as operator
use Rattle.feel_text.specs.declared.expr.Function.{Function}
use Rattle.feel_text.specs.declared.expr.Function.TheVariants as function
use Rattle.feel_text.specs.Token.{Token, Number, Text, Name, Keyword, Symbol}
use Rattle.feel_text.specs.Expr as expr
use Rattle.feel_text.specs.Expr.{Expr, Exprs, none, more, depth, deepest}
use Rattle.feel_text.specs.declared.line.Line.{Line}
use Rattle.feel_text.specs.declared.line.Line.TheVariants as line
use Rattle.feel_text.specs.Grammar.{rank, line_of, left_of, right_of, token_of, name_of, constant_of, in_parens, tighter}
use Rattle.feel_text.specs.Reading.{Reader, operator_at, function_of, closed_at, members_at, listed_at, list_at, modulo_at, call_at, named_at, negated_at, group_at, primary_at, paths_at, path_at, negation_at, steps_at, chain_at, between_at, compared_by, compared_at, comparison_at, conditional_at, whole_at, line_at, read_at, product_at, sum_at, compare_at, conjunction_at, disjunction_at}
use Rattle.feel_text.proofs.Spelling.{spelling, others, home, Parts, AllParts, Stands}
use Rattle.std.proofs.Common.{length-append}

-- How tightly a token goes on with what stands before it: the rank of its line, and 0 where it doesn't.
abbrev pub strength : Token → ℕ
strength (Keyword word.Or) = 1
strength (Keyword word.And) = 2
strength (Keyword word.Between) = 3
strength (Symbol sign.Equal) = 3
strength (Symbol sign.NotEqual) = 3
strength (Symbol sign.Less) = 3
strength (Symbol sign.LessEqual) = 3
strength (Symbol sign.Greater) = 3
strength (Symbol sign.GreaterEqual) = 3
strength (Symbol sign.Plus) = 4
strength (Symbol sign.Minus) = 4
strength (Symbol sign.Star) = 5
strength (Symbol sign.Dot) = 7
strength (Symbol sign.OpenParen) = 8
strength t = 0

-- the tokens don't go on with an expression that was read on this line
abbrev pub Stops : Line → List Token → Type 0
Stops l [] = Unit {0}
Stops l (t ∷ ts) = strength t < max 1 (rank l)

pub stops_up : (l k : Line) (ts : List Token) → rank l ≤ rank k → Stops l ts → Stops k ts
stops_up l k [] le h = tt
stops_up l k (t ∷ ts) le h = omega arith

abbrev pub Completes : ℕ → Line → Reader → Type 0
Completes n l r = (e : Expr) (rest : List Token) → Stands l e → depth e ≤ n → Stops l rest → r (spelling e ++ rest) ≡ Some (e, depth e, rest)

abbrev pub Complete : ℕ → (Line → Reader) → Type 0
Complete n inner = (l : Line) → Completes n l (inner l)

stands : (e : Expr) → Parts e → Stands line.Whole e
stands e p = record { within = omega arith; parts = p }

depth_positive : (e : Expr) → 1 ≤ depth e
depth_positive expr.Null = omega arith
depth_positive (expr.Boolean b) = omega arith
depth_positive (expr.Number n) = omega arith
depth_positive (expr.Text bytes) = omega arith
depth_positive (expr.Name name) = omega arith
depth_positive (expr.Group e) = omega arith
depth_positive (expr.Members es) = omega arith
depth_positive (expr.Call f e) = omega arith
depth_positive (expr.Modulo a b) = omega arith
depth_positive (expr.Not e) = omega arith
depth_positive (expr.Negate e) = omega arith
depth_positive (expr.Path e name) = omega arith
depth_positive (expr.Binary op a b) = omega arith
depth_positive (expr.Between e low high) = omega arith
depth_positive (expr.If test a b) = omega arith

-- ---- the first token

abbrev pub first : Expr → Token
first expr.Null = Keyword word.Null
first (expr.Boolean b) = Keyword (constant_of b)
first (expr.Number n) = Number n
first (expr.Text bytes) = Text bytes
first (expr.Name name) = Name name
first (expr.Group e) = Symbol sign.OpenParen
first (expr.Members es) = Symbol sign.OpenBracket
first (expr.Call f e) = Name (name_of f)
first (expr.Modulo a b) = Name (codes "modulo")
first (expr.Not e) = Keyword word.Not
first (expr.Negate e) = Symbol sign.Minus
first (expr.Path e name) = first e
first (expr.Binary op a b) = first a
first (expr.Between e low high) = first e
first (expr.If test a b) = Keyword word.If

abbrev pub Begins : Token → List Token → Type 0
Begins t ts = (us : List Token) × (ts ≡ t ∷ us)

pub begins_more : (t : Token) (ts us : List Token) → Begins t ts → Begins t (ts ++ us)
begins_more t ts us b = (b.0 ++ us, ap (λ (w : List Token). w ++ us) b.1)

pub begins : (e : Expr) → Begins (first e) (spelling e)
begins expr.Null = ([], refl)
begins (expr.Boolean b) = ([], refl)
begins (expr.Number n) = ([], refl)
begins (expr.Text bytes) = ([], refl)
begins (expr.Name name) = ([], refl)
begins (expr.Group e) = (_, refl)
begins (expr.Members none) = (_, refl)
begins (expr.Members (more e es)) = (_, refl)
begins (expr.Call f e) = (_, refl)
begins (expr.Modulo a b) = (_, refl)
begins (expr.Not e) = (_, refl)
begins (expr.Negate e) = (_, refl)
begins (expr.Path e name) = begins_more (first e) (spelling e) _ (begins e)
begins (expr.Binary op a b) = begins_more (first a) (spelling a) _ (begins a)
begins (expr.Between e low high) = begins_more (first e) (spelling e) _ (begins e)
begins (expr.If test a b) = (_, refl)

abbrev IsNoBracket : Token → Type 0
IsNoBracket (Symbol sign.CloseBracket) = ⊥
IsNoBracket t = Unit {0}

abbrev IsNoMinus : Token → Type 0
IsNoMinus (Symbol sign.Minus) = ⊥
IsNoMinus t = Unit {0}

abbrev IsNoIf : Token → Type 0
IsNoIf (Keyword word.If) = ⊥
IsNoIf t = Unit {0}

no_bracket : (e : Expr) → IsNoBracket (first e)
no_bracket expr.Null = tt
no_bracket (expr.Boolean true) = tt
no_bracket (expr.Boolean false) = tt
no_bracket (expr.Number n) = tt
no_bracket (expr.Text bytes) = tt
no_bracket (expr.Name name) = tt
no_bracket (expr.Group e) = tt
no_bracket (expr.Members es) = tt
no_bracket (expr.Call f e) = tt
no_bracket (expr.Modulo a b) = tt
no_bracket (expr.Not e) = tt
no_bracket (expr.Negate e) = tt
no_bracket (expr.Path e name) = no_bracket e
no_bracket (expr.Binary op a b) = no_bracket a
no_bracket (expr.Between e low high) = no_bracket e
no_bracket (expr.If test a b) = tt

operator_below : (op : Operator) → rank (line_of op) ≤ 5
operator_below operator.Or = omega arith
operator_below operator.And = omega arith
operator_below operator.Equal = omega arith
operator_below operator.NotEqual = omega arith
operator_below operator.Less = omega arith
operator_below operator.LessEqual = omega arith
operator_below operator.Greater = omega arith
operator_below operator.GreaterEqual = omega arith
operator_below operator.Add = omega arith
operator_below operator.Subtract = omega arith
operator_below operator.Multiply = omega arith

left_above : (op : Operator) → 1 ≤ rank (left_of op)
left_above operator.Or = omega arith
left_above operator.And = omega arith
left_above operator.Equal = omega arith
left_above operator.NotEqual = omega arith
left_above operator.Less = omega arith
left_above operator.LessEqual = omega arith
left_above operator.Greater = omega arith
left_above operator.GreaterEqual = omega arith
left_above operator.Add = omega arith
left_above operator.Subtract = omega arith
left_above operator.Multiply = omega arith

no_minus : (e : Expr) → 7 ≤ rank (home e) → Parts e → IsNoMinus (first e)
no_minus expr.Null h p = tt
no_minus (expr.Boolean true) h p = tt
no_minus (expr.Boolean false) h p = tt
no_minus (expr.Number n) h p = tt
no_minus (expr.Text bytes) h p = tt
no_minus (expr.Name name) h p = tt
no_minus (expr.Group e) h p = tt
no_minus (expr.Members es) h p = tt
no_minus (expr.Call f e) h p = tt
no_minus (expr.Modulo a b) h p = tt
no_minus (expr.Not e) h p = tt
no_minus (expr.Negate e) h p = absurd (omega arith)
no_minus (expr.Path e name) h p = no_minus e p.0 p.1
no_minus (expr.Binary op a b) h p = absurd (omega (arith, operator_below op))
no_minus (expr.Between e low high) h p = absurd (omega arith)
no_minus (expr.If test a b) h p = absurd (omega arith)

no_if : (e : Expr) → 1 ≤ rank (home e) → Parts e → IsNoIf (first e)
no_if expr.Null h p = tt
no_if (expr.Boolean true) h p = tt
no_if (expr.Boolean false) h p = tt
no_if (expr.Number n) h p = tt
no_if (expr.Text bytes) h p = tt
no_if (expr.Name name) h p = tt
no_if (expr.Group e) h p = tt
no_if (expr.Members es) h p = tt
no_if (expr.Call f e) h p = tt
no_if (expr.Modulo a b) h p = tt
no_if (expr.Not e) h p = tt
no_if (expr.Negate e) h p = tt
no_if (expr.Path e name) h p = no_if e (let w = p.0 in omega arith) p.1
no_if (expr.Binary op a b) h p = no_if a (let w = p.0 in omega (arith, left_above op)) p.1
no_if (expr.Between e low high) h p = no_if e (let w = p.0 in omega arith) p.1
no_if (expr.If test a b) h p = absurd (omega arith)

-- ---- what a default reads

list_other : (inner : Line → Reader) (t : Token) (ts : List Token) → IsNoBracket t → list_at inner (t ∷ ts) ≡ listed_at inner (t ∷ ts)
unfolding list_at
list_other inner (Symbol sign.CloseBracket) ts h = absurd h
list_other inner t ts h = refl

list_first : (inner : Line → Reader) (e : Expr) (rest : List Token) → list_at inner (spelling e ++ rest) ≡ listed_at inner (spelling e ++ rest)
list_first inner e rest =
    let b = begins_more (first e) (spelling e) rest (begins e) in
    subst (λ (w : List Token). list_at inner w ≡ listed_at inner w) (sym b.1) (list_other inner (first e) b.0 (no_bracket e))

negation_other : (inner : Line → Reader) (n : ℕ) (t : Token) (ts : List Token) → IsNoMinus t → negation_at inner n (t ∷ ts) ≡ path_at inner n (t ∷ ts)
unfolding negation_at
negation_other inner n (Symbol sign.Minus) ts h = absurd h
negation_other inner n t ts h = refl

negation_path : (inner : Line → Reader) (n : ℕ) (e : Expr) (rest : List Token) → Stands line.Path e → negation_at inner n (spelling e ++ rest) ≡ path_at inner n (spelling e ++ rest)
negation_path inner n e rest s =
    let b = begins_more (first e) (spelling e) rest (begins e) in
    subst (λ (w : List Token). negation_at inner n w ≡ path_at inner n w) (sym b.1) (negation_other inner n (first e) b.0 (no_minus e s.within s.parts))

whole_other : (outer : Reader) (inner : Line → Reader) (t : Token) (ts : List Token) → IsNoIf t → whole_at outer inner (t ∷ ts) ≡ outer (t ∷ ts)
unfolding whole_at
whole_other outer inner (Keyword word.If) ts h = absurd h
whole_other outer inner t ts h = refl

whole_tighter : (outer : Reader) (inner : Line → Reader) (e : Expr) (rest : List Token) → Stands line.Disjunction e → whole_at outer inner (spelling e ++ rest) ≡ outer (spelling e ++ rest)
whole_tighter outer inner e rest s =
    let b = begins_more (first e) (spelling e) rest (begins e) in
    subst (λ (w : List Token). whole_at outer inner w ≡ outer w) (sym b.1) (whole_other outer inner (first e) b.0 (no_if e s.within s.parts))

-- ---- primaries

closed_again : (n : ℕ) (inner : Line → Reader) → Complete n inner → (e : Expr) (rest : List Token) → Parts e → depth e ≤ n
    → closed_at inner (spelling e ++ Symbol sign.CloseParen ∷ rest) ≡ Some (e, depth e, rest)
unfolding closed_at
closed_again n inner h e rest p d =
    rw (h line.Whole e (Symbol sign.CloseParen ∷ rest) (stands e p) d (omega arith)) refl

stops_more : (es : Exprs) (rest : List Token) → Stops line.Whole (others es ++ Symbol sign.CloseBracket ∷ rest)
stops_more none rest = omega arith
stops_more (more e es) rest = omega arith

members_again : (k n : ℕ) (inner : Line → Reader) → Complete n inner → (es : Exprs) (rest : List Token) → AllParts es → deepest es ≤ n
    → length (others es ++ Symbol sign.CloseBracket ∷ rest) ≤ k → members_at k inner (others es ++ Symbol sign.CloseBracket ∷ rest) ≡ Some (es, deepest es, rest)
unfolding members_at
members_again zero n inner h none rest p d le = absurd (omega arith)
members_again (suc k) n inner h none rest p d le = refl
members_again zero n inner h (more e es) rest p d le = absurd (omega arith)
members_again (suc k) n inner h (more e es) rest p d le =
    let apart = append_assoc (spelling e) (others es) (Symbol sign.CloseBracket ∷ rest) in
    let here = h line.Whole e (others es ++ Symbol sign.CloseBracket ∷ rest) (stands e p.0) (omega arith) (stops_more es rest) in
    let there = members_again k n inner h es rest p.1 (omega arith) (omega (arith, ap length apart, length-append (spelling e) (others es ++ Symbol sign.CloseBracket ∷ rest))) in
    rw (apart, here, there) refl

listed_again : (n : ℕ) (inner : Line → Reader) → Complete n inner → (e : Expr) (es : Exprs) (rest : List Token) → Parts e → AllParts es → depth e ≤ n → deepest es ≤ n
    → listed_at inner (spelling e ++ (others es ++ Symbol sign.CloseBracket ∷ rest)) ≡ Some (expr.Members (more e es), 1 + max (depth e) (deepest es), rest)
unfolding listed_at
listed_again n inner h e es rest p q d c =
    let here = h line.Whole e (others es ++ Symbol sign.CloseBracket ∷ rest) (stands e p) d (stops_more es rest) in
    let there = members_again (length (others es ++ Symbol sign.CloseBracket ∷ rest)) n inner h es rest q c (omega arith) in
    rw (here, there) refl

function_of-name_of : (f : Function) → function_of (name_of f) ≡ Some f
function_of-name_of function.Abs = refl
function_of-name_of function.Sum = refl
function_of-name_of function.Min = refl
function_of-name_of function.Max = refl
function_of-name_of function.Count = refl

call_again : (n : ℕ) (inner : Line → Reader) → Complete n inner → (f : Function) (e : Expr) (rest : List Token) → Parts e → depth e ≤ n
    → named_at (name_of f) inner (Symbol sign.OpenParen ∷ (spelling e ++ Symbol sign.CloseParen ∷ rest)) ≡ Some (expr.Call f e, 1 + depth e, rest)
unfolding named_at call_at
call_again n inner h function.Abs e rest p d = rw (closed_again n inner h e rest p d) refl
call_again n inner h function.Sum e rest p d = rw (closed_again n inner h e rest p d) refl
call_again n inner h function.Min e rest p d = rw (closed_again n inner h e rest p d) refl
call_again n inner h function.Max e rest p d = rw (closed_again n inner h e rest p d) refl
call_again n inner h function.Count e rest p d = rw (closed_again n inner h e rest p d) refl

modulo_again : (n : ℕ) (inner : Line → Reader) → Complete n inner → (a b : Expr) (rest : List Token) → Parts a → Parts b → depth a ≤ n → depth b ≤ n
    → named_at (codes "modulo") inner (Symbol sign.OpenParen ∷ (spelling a ++ Symbol sign.Comma ∷ (spelling b ++ Symbol sign.CloseParen ∷ rest))) ≡ Some (expr.Modulo a b, 1 + max (depth a) (depth b), rest)
unfolding named_at modulo_at
modulo_again n inner h a b rest p q c d =
    rw (h line.Whole a (Symbol sign.Comma ∷ (spelling b ++ Symbol sign.CloseParen ∷ rest)) (stands a p) c (omega arith), closed_again n inner h b rest q d) refl

name_again : (name : List ℕ) (inner : Line → Reader) (ts : List Token) → Stops line.Primary ts → named_at name inner ts ≡ Some (expr.Name name, 1, ts)
unfolding named_at
name_again name inner [] h = refl
name_again name inner (Symbol sign.OpenParen ∷ ts) h = absurd (omega arith)
name_again name inner ts h = refl

regroup : (s rest : List Token) → (in_parens s) ++ rest ≡ Symbol sign.OpenParen ∷ (s ++ Symbol sign.CloseParen ∷ rest)
regroup s rest = ap (λ (w : List Token). Symbol sign.OpenParen ∷ w) (closing s rest (Symbol sign.CloseParen))

primary_again : (n : ℕ) (inner : Line → Reader) → Complete n inner → Completes (suc n) line.Primary (primary_at inner)
unfolding primary_at negated_at group_at list_at
primary_again n inner h expr.Null rest s d stop = refl
primary_again n inner h (expr.Boolean true) rest s d stop = refl
primary_again n inner h (expr.Boolean false) rest s d stop = refl
primary_again n inner h (expr.Number k) rest s d stop = refl
primary_again n inner h (expr.Text bytes) rest s d stop = refl
primary_again n inner h (expr.Name name) rest s d stop = name_again name inner rest stop
primary_again n inner h (expr.Group e) rest s d stop =
    rw (closing (spelling e) rest (Symbol sign.CloseParen), closed_again n inner h e rest s.parts (omega arith)) refl
primary_again n inner h (expr.Members none) rest s d stop = refl
primary_again n inner h (expr.Members (more e es)) rest s d stop =
    let apart = append_assoc (spelling e) (others es ++ Symbol sign.CloseBracket ∷ []) rest in
    let bpart = closing (others es) rest (Symbol sign.CloseBracket) in
    let f = list_first inner e (others es ++ Symbol sign.CloseBracket ∷ rest) in
    rw (apart, bpart) (f ∙ listed_again n inner h e es rest s.parts.0 s.parts.1 (omega arith) (omega arith))
primary_again n inner h (expr.Call f e) rest s d stop =
    rw (closing (spelling e) rest (Symbol sign.CloseParen)) (call_again n inner h f e rest s.parts (omega arith))
primary_again n inner h (expr.Modulo a b) rest s d stop =
    let apart = closing (spelling a ++ Symbol sign.Comma ∷ spelling b) rest (Symbol sign.CloseParen) in
    let bpart = append_assoc (spelling a) (Symbol sign.Comma ∷ spelling b) (Symbol sign.CloseParen ∷ rest) in
    rw (apart, bpart) (modulo_again n inner h a b rest s.parts.0 s.parts.1 (omega arith) (omega arith))
primary_again n inner h (expr.Not e) rest s d stop =
    rw (closing (spelling e) rest (Symbol sign.CloseParen), closed_again n inner h e rest s.parts (omega arith)) refl
primary_again n inner h (expr.Negate e) rest s d stop = let w = s.within in absurd (omega arith)
primary_again n inner h (expr.Path e name) rest s d stop = let w = s.within in absurd (omega arith)
primary_again n inner h (expr.Binary op a b) rest s d stop = let w = s.within in absurd (omega (arith, operator_below op))
primary_again n inner h (expr.Between e low high) rest s d stop = let w = s.within in absurd (omega arith)
primary_again n inner h (expr.If test a b) rest s d stop = let w = s.within in absurd (omega arith)

-- ---- paths

paths_stop : (k n : ℕ) (e : Expr) (d : ℕ) (ts : List Token) → Stops line.Path ts → paths_at (suc k) n e d ts ≡ Some (e, d, ts)
unfolding paths_at
paths_stop k n e d [] h = refl
paths_stop k n e d (Symbol sign.Dot ∷ ts) h = absurd (omega arith)
paths_stop k n e d ts h = refl

-- after the expression, k steps are left, as many as its depth allows
abbrev PathSpine : ℕ → (Line → Reader) → Expr → List Token → Type 0
PathSpine n inner e ts = (k : ℕ) × (suc (suc n) ≤ k + depth e) × (path_at inner n (spelling e ++ ts) ≡ paths_at k n e (depth e) ts)

path_begin : (n : ℕ) (inner : Line → Reader) → Complete n inner → (e : Expr) (ts : List Token) → Stands line.Primary e → depth e ≤ suc n → Stops line.Primary ts → PathSpine n inner e ts
unfolding path_at
path_begin n inner h e ts s d stop =
    (suc n, omega (arith, depth_positive e), rw (primary_again n inner h e ts s d stop) refl)

path_step : (k n : ℕ) (inner : Line → Reader) (e : Expr) (name : List ℕ) (ts : List Token) → depth e ≤ n → suc (suc n) ≤ k + depth e
    → path_at inner n (spelling e ++ Symbol sign.Dot ∷ Name name ∷ ts) ≡ paths_at k n e (depth e) (Symbol sign.Dot ∷ Name name ∷ ts) → PathSpine n inner (expr.Path e name) ts
unfolding paths_at
path_step zero n inner e name ts d room so_far = absurd (omega arith)
path_step (suc k) n inner e name ts d room so_far =
    let yes' = le-leb (depth e) n d in
    (k, omega arith, rw (append_assoc (spelling e) (Symbol sign.Dot ∷ Name name ∷ []) ts) (so_far ∙ rw yes' refl))

path_spine : (n : ℕ) (inner : Line → Reader) → Complete n inner → (e : Expr) (ts : List Token) → Stands line.Path e → depth e ≤ suc n → Stops line.Primary ts → PathSpine n inner e ts
path_spine n inner h (expr.Path e name) ts s d stop =
    let p = path_spine n inner h e (Symbol sign.Dot ∷ Name name ∷ ts) (record { within = s.parts.0; parts = s.parts.1 }) (omega arith) (omega arith) in
    path_step p.0 n inner e name ts (omega arith) p.1 p.2
path_spine n inner h (expr.Binary op a b) ts s d stop = let w = s.within in absurd (omega (arith, operator_below op))
path_spine n inner h (expr.Negate e) ts s d stop = let w = s.within in absurd (omega arith)
path_spine n inner h (expr.Between e low high) ts s d stop = let w = s.within in absurd (omega arith)
path_spine n inner h (expr.If test a b) ts s d stop = let w = s.within in absurd (omega arith)
path_spine n inner h e ts s d stop = path_begin n inner h e ts (record { within = omega arith; parts = s.parts }) d stop

path_end : (k n : ℕ) (inner : Line → Reader) (e : Expr) (ts : List Token) → depth e ≤ suc n → Stops line.Path ts → suc (suc n) ≤ k + depth e
    → path_at inner n (spelling e ++ ts) ≡ paths_at k n e (depth e) ts → path_at inner n (spelling e ++ ts) ≡ Some (e, depth e, ts)
path_end zero n inner e ts d stop room so_far = absurd (omega arith)
path_end (suc k) n inner e ts d stop room so_far = so_far ∙ paths_stop k n e (depth e) ts stop

path_again : (n : ℕ) (inner : Line → Reader) → Complete n inner → Completes (suc n) line.Path (path_at inner n)
path_again n inner h e rest s d stop =
    let p = path_spine n inner h e rest s d (stops_up line.Path line.Primary rest (omega arith) stop) in
    path_end p.0 n inner e rest d stop p.1 p.2

-- ---- negations

negation_again : (n : ℕ) (inner : Line → Reader) → Complete n inner → Completes (suc n) line.Negation (negation_at inner n)
unfolding negation_at
negation_again n inner h (expr.Negate e) rest s d stop =
    rw (h line.Negation e rest (record { within = s.parts.0; parts = s.parts.1 }) (omega arith) stop) refl
negation_again n inner h (expr.Binary op a b) rest s d stop = let w = s.within in absurd (omega (arith, operator_below op))
negation_again n inner h (expr.Between e low high) rest s d stop = let w = s.within in absurd (omega arith)
negation_again n inner h (expr.If test a b) rest s d stop = let w = s.within in absurd (omega arith)
negation_again n inner h e rest s d stop =
    let t : Stands line.Path e = record { within = omega arith; parts = s.parts } in
    negation_path inner n e rest t ∙ path_again n inner h e rest t d (stops_up line.Negation line.Path rest (omega arith) stop)

-- ---- chains

abbrev IsNoBinary : Expr → Type 0
IsNoBinary (expr.Binary op a b) = ⊥
IsNoBinary e = Unit {0}

record Chain (l : Line) : Type 0 where
  left : IsChain l
  up : rank (tighter l) ≡ suc (rank l)
  positive : 1 ≤ rank l
  others : (e : Expr) → IsNoBinary e → rank l ≤ rank (home e) → rank (tighter l) ≤ rank (home e)
  known : (op : Operator) → line_of op ≡ l → operator_at l (token_of op) ≡ Some op
  unknown : (t : Token) → strength t < rank l → operator_at l t ≡ None

token_strength : (op : Operator) → strength (token_of op) ≡ rank (line_of op)
token_strength operator.Or = refl
token_strength operator.And = refl
token_strength operator.Equal = refl
token_strength operator.NotEqual = refl
token_strength operator.Less = refl
token_strength operator.LessEqual = refl
token_strength operator.Greater = refl
token_strength operator.GreaterEqual = refl
token_strength operator.Add = refl
token_strength operator.Subtract = refl
token_strength operator.Multiply = refl

unrank : ℕ → Line
unrank zero = line.Whole
unrank (suc zero) = line.Disjunction
unrank (suc (suc zero)) = line.Conjunction
unrank (suc (suc (suc zero))) = line.Comparison
unrank (suc (suc (suc (suc zero)))) = line.Sum
unrank (suc (suc (suc (suc (suc zero))))) = line.Product
unrank (suc (suc (suc (suc (suc (suc zero)))))) = line.Negation
unrank (suc (suc (suc (suc (suc (suc (suc zero))))))) = line.Path
unrank (suc (suc (suc (suc (suc (suc (suc (suc n)))))))) = line.Primary

unrank-rank : (l : Line) → unrank (rank l) ≡ l
unfolding unrank
unrank-rank line.Whole = refl
unrank-rank line.Disjunction = refl
unrank-rank line.Conjunction = refl
unrank-rank line.Comparison = refl
unrank-rank line.Sum = refl
unrank-rank line.Product = refl
unrank-rank line.Negation = refl
unrank-rank line.Path = refl
unrank-rank line.Primary = refl

same_line : (l k : Line) → rank l ≡ rank k → l ≡ k
same_line l k e = sym (unrank-rank l) ∙ ap unrank e ∙ unrank-rank k

-- a reader of the operands of a chain
abbrev Operands : ℕ → Line → Reader → Type 0
Operands n l first = Completes (suc n) (tighter l) first

abbrev Spine : ℕ → (Line → Reader) → Line → Reader → Expr → List Token → Type 0
Spine n inner l outer e ts = (k : ℕ) × (suc (suc n) ≤ k + depth e) × (chain_at outer inner n l (spelling e ++ ts) ≡ steps_at k inner n l e (depth e) ts)

chain_begin : (n : ℕ) (inner : Line → Reader) (l : Line) (outer : Reader) → Operands n l outer → (e : Expr) (ts : List Token)
    → Stands (tighter l) e → depth e ≤ suc n → Stops (tighter l) ts → Spine n inner l outer e ts
unfolding chain_at
chain_begin n inner l outer f e ts s d stop =
    (suc n, omega (arith, depth_positive e), rw (f e ts s d stop) refl)

chain_step : (k n : ℕ) (inner : Line → Reader) → Complete n inner → (l : Line) → Chain l → (outer : Reader) (op : Operator) (a b : Expr) (ts : List Token)
    → line_of op ≡ l → Stands (tighter l) b → depth a ≤ n → depth b ≤ n → Stops (tighter l) ts → suc (suc n) ≤ k + depth a
    → chain_at outer inner n l (spelling a ++ token_of op ∷ (spelling b ++ ts)) ≡ steps_at k inner n l a (depth a) (token_of op ∷ (spelling b ++ ts))
    → Spine n inner l outer (expr.Binary op a b) ts
unfolding steps_at
chain_step zero n inner h l chain outer op a b ts own s da db stop room so_far = absurd (omega arith)
chain_step (suc k) n inner h l chain outer op a b ts own s da db stop room so_far =
    let test = le-leb (depth a) n da in
    let known = chain.known op own in
    let right = h (tighter l) b ts s db stop in
    (k, omega arith, rw (append_assoc (spelling a) (token_of op ∷ spelling b) ts) (so_far ∙ rw (known, test, right) refl))

chain_binary : (n : ℕ) (inner : Line → Reader) → Complete n inner → (l : Line) → Chain l → (outer : Reader) → Operands n l outer → (op : Operator) (a b : Expr) (ts : List Token)
    → Stands l (expr.Binary op a b) → depth (expr.Binary op a b) ≤ suc n → Stops (tighter l) ts
    → (Stands l a → depth a ≤ suc n → Stops (tighter l) (token_of op ∷ (spelling b ++ ts)) → Spine n inner l outer a (token_of op ∷ (spelling b ++ ts)))
    → Spine n inner l outer (expr.Binary op a b) ts
chain_binary n inner h l chain outer f op a b ts s d stop again =
    elim (cases_lt (rank l) (rank (line_of op))) [
      | inl lt ↦ chain_begin n inner l outer f (expr.Binary op a b) ts (record { within = let u = chain.up in omega arith; parts = s.parts }) d stop
      | inr le ↦
          let w = s.within in
          let own : line_of op ≡ l = same_line (line_of op) l (omega arith) in
          let left : Stands l a = record { within = rw (← chain.left op own) s.parts.0; parts = s.parts.1 } in
          let right : Stands (tighter l) b = record { within = rw (← own) s.parts.2; parts = s.parts.3 } in
          let u = chain.up in
          let p = again left (omega arith) (omega (arith, token_strength op)) in
          chain_step p.0 n inner h l chain outer op a b ts own right (omega arith) (omega arith) stop p.1 p.2
    ]

chain_spine : (n : ℕ) (inner : Line → Reader) → Complete n inner → (l : Line) → Chain l → (outer : Reader) → Operands n l outer → (e : Expr) (ts : List Token)
    → Stands l e → depth e ≤ suc n → Stops (tighter l) ts → Spine n inner l outer e ts
chain_spine n inner h l chain outer f (expr.Binary op a b) ts s d stop =
    chain_binary n inner h l chain outer f op a b ts s d stop (λ t c stop'. chain_spine n inner h l chain outer f a (token_of op ∷ (spelling b ++ ts)) t c stop')
chain_spine n inner h l chain outer f e ts s d stop = chain_begin n inner l outer f e ts (record { within = chain.others e tt s.within; parts = s.parts }) d stop

steps_stop : (k n : ℕ) (inner : Line → Reader) (l : Line) → Chain l → (e : Expr) (d : ℕ) (ts : List Token) → Stops l ts → steps_at (suc k) inner n l e d ts ≡ Some (e, d, ts)
unfolding steps_at
steps_stop k n inner l chain e d [] stop = refl
steps_stop k n inner l chain e d (t ∷ ts) stop =
    let p = chain.positive in rw (chain.unknown t (omega arith)) refl

chain_end : (k n : ℕ) (inner : Line → Reader) (l : Line) → Chain l → (outer : Reader) (e : Expr) (ts : List Token) → depth e ≤ suc n → Stops l ts → suc (suc n) ≤ k + depth e
    → chain_at outer inner n l (spelling e ++ ts) ≡ steps_at k inner n l e (depth e) ts → chain_at outer inner n l (spelling e ++ ts) ≡ Some (e, depth e, ts)
chain_end zero n inner l chain outer e ts d stop room so_far = absurd (omega arith)
chain_end (suc k) n inner l chain outer e ts d stop room so_far = so_far ∙ steps_stop k n inner l chain e (depth e) ts stop

chain_again : (n : ℕ) (inner : Line → Reader) → Complete n inner → (l : Line) → Chain l → (outer : Reader) → Operands n l outer → Completes (suc n) l (chain_at outer inner n l)
chain_again n inner h l chain outer f e rest s d stop =
    let u = chain.up in
    let p = chain_spine n inner h l chain outer f e rest s d (stops_up l (tighter l) rest (omega arith) stop) in
    chain_end p.0 n inner l chain outer e rest d stop p.1 p.2

others_disjunction : (e : Expr) → IsNoBinary e → rank line.Disjunction ≤ rank (home e) → rank (tighter line.Disjunction) ≤ rank (home e)
others_disjunction (expr.Binary op a b) h le = absurd h
others_disjunction e h le = omega arith

known_disjunction : (op : Operator) → line_of op ≡ line.Disjunction → operator_at line.Disjunction (token_of op) ≡ Some op
known_disjunction operator.Or e = refl
known_disjunction op e = absurd cc

unknown_disjunction : (t : Token) → strength t < rank line.Disjunction → operator_at line.Disjunction t ≡ None
unknown_disjunction (Keyword word.Or) lt = absurd (omega arith)
unknown_disjunction t lt = refl

others_conjunction : (e : Expr) → IsNoBinary e → rank line.Conjunction ≤ rank (home e) → rank (tighter line.Conjunction) ≤ rank (home e)
others_conjunction (expr.Binary op a b) h le = absurd h
others_conjunction e h le = omega arith

known_conjunction : (op : Operator) → line_of op ≡ line.Conjunction → operator_at line.Conjunction (token_of op) ≡ Some op
known_conjunction operator.And e = refl
known_conjunction op e = absurd cc

unknown_conjunction : (t : Token) → strength t < rank line.Conjunction → operator_at line.Conjunction t ≡ None
unknown_conjunction (Keyword word.And) lt = absurd (omega arith)
unknown_conjunction t lt = refl

others_sum : (e : Expr) → IsNoBinary e → rank line.Sum ≤ rank (home e) → rank (tighter line.Sum) ≤ rank (home e)
others_sum (expr.Binary op a b) h le = absurd h
others_sum e h le = omega arith

known_sum : (op : Operator) → line_of op ≡ line.Sum → operator_at line.Sum (token_of op) ≡ Some op
known_sum operator.Add e = refl
known_sum operator.Subtract e = refl
known_sum op e = absurd cc

unknown_sum : (t : Token) → strength t < rank line.Sum → operator_at line.Sum t ≡ None
unknown_sum (Symbol sign.Plus) lt = absurd (omega arith)
unknown_sum (Symbol sign.Minus) lt = absurd (omega arith)
unknown_sum t lt = refl

others_product : (e : Expr) → IsNoBinary e → rank line.Product ≤ rank (home e) → rank (tighter line.Product) ≤ rank (home e)
others_product (expr.Binary op a b) h le = absurd h
others_product e h le = omega arith

known_product : (op : Operator) → line_of op ≡ line.Product → operator_at line.Product (token_of op) ≡ Some op
known_product operator.Multiply e = refl
known_product op e = absurd cc

unknown_product : (t : Token) → strength t < rank line.Product → operator_at line.Product t ≡ None
unknown_product (Symbol sign.Star) lt = absurd (omega arith)
unknown_product t lt = refl

chain_disjunction : Chain line.Disjunction
chain_disjunction = record { left = chains.0; up = refl; positive = omega arith; others = others_disjunction; known = known_disjunction; unknown = unknown_disjunction }

chain_conjunction : Chain line.Conjunction
chain_conjunction = record { left = chains.1; up = refl; positive = omega arith; others = others_conjunction; known = known_conjunction; unknown = unknown_conjunction }

chain_sum : Chain line.Sum
chain_sum = record { left = chains.2; up = refl; positive = omega arith; others = others_sum; known = known_sum; unknown = unknown_sum }

chain_product : Chain line.Product
chain_product = record { left = chains.3; up = refl; positive = omega arith; others = others_product; known = known_product; unknown = unknown_product }

-- ---- comparisons

comparison_known : (op : Operator) → line_of op ≡ line.Comparison → operator_at line.Comparison (token_of op) ≡ Some op
comparison_known operator.Equal e = refl
comparison_known operator.NotEqual e = refl
comparison_known operator.Less e = refl
comparison_known operator.LessEqual e = refl
comparison_known operator.Greater e = refl
comparison_known operator.GreaterEqual e = refl
comparison_known op e = absurd cc

compared_again : (n : ℕ) (inner : Line → Reader) → Complete n inner → (op : Operator) (a b : Expr) (ts : List Token) → line_of op ≡ line.Comparison
    → Stands line.Sum b → depth a ≤ n → depth b ≤ n → Stops line.Sum ts
    → compared_at inner n a (depth a) (token_of op ∷ (spelling b ++ ts)) ≡ Some (expr.Binary op a b, 1 + max (depth a) (depth b), ts)
unfolding compared_at compared_by
compared_again n inner h operator.Or a b ts own s da db stop = absurd cc
compared_again n inner h operator.And a b ts own s da db stop = absurd cc
compared_again n inner h operator.Add a b ts own s da db stop = absurd cc
compared_again n inner h operator.Subtract a b ts own s da db stop = absurd cc
compared_again n inner h operator.Multiply a b ts own s da db stop = absurd cc
compared_again n inner h operator.Equal a b ts own s da db stop = rw (le-leb (depth a) n da, h line.Sum b ts s db stop) refl
compared_again n inner h operator.NotEqual a b ts own s da db stop = rw (le-leb (depth a) n da, h line.Sum b ts s db stop) refl
compared_again n inner h operator.Less a b ts own s da db stop = rw (le-leb (depth a) n da, h line.Sum b ts s db stop) refl
compared_again n inner h operator.LessEqual a b ts own s da db stop = rw (le-leb (depth a) n da, h line.Sum b ts s db stop) refl
compared_again n inner h operator.Greater a b ts own s da db stop = rw (le-leb (depth a) n da, h line.Sum b ts s db stop) refl
compared_again n inner h operator.GreaterEqual a b ts own s da db stop = rw (le-leb (depth a) n da, h line.Sum b ts s db stop) refl

between_again : (n : ℕ) (inner : Line → Reader) → Complete n inner → (e low high : Expr) (ts : List Token)
    → Stands line.Sum low → Stands line.Sum high → depth e ≤ n → depth low ≤ n → depth high ≤ n → Stops line.Sum ts
    → compared_at inner n e (depth e) (Keyword word.Between ∷ (spelling low ++ Keyword word.And ∷ (spelling high ++ ts))) ≡ Some (expr.Between e low high, 1 + max (depth e) (max (depth low) (depth high)), ts)
unfolding compared_at between_at
between_again n inner h e low high ts s t d c b stop =
    rw (le-leb (depth e) n d, h line.Sum low (Keyword word.And ∷ (spelling high ++ ts)) s c (omega arith), h line.Sum high ts t b stop) refl

compared_stop : (n : ℕ) (inner : Line → Reader) (e : Expr) (d : ℕ) (ts : List Token) → Stops line.Comparison ts → compared_at inner n e d ts ≡ Some (e, d, ts)
unfolding compared_at
compared_stop n inner e d [] stop = refl
compared_stop n inner e d (Keyword word.Between ∷ ts) stop = absurd (omega arith)
compared_stop n inner e d (Symbol sign.Equal ∷ ts) stop = absurd (omega arith)
compared_stop n inner e d (Symbol sign.NotEqual ∷ ts) stop = absurd (omega arith)
compared_stop n inner e d (Symbol sign.Less ∷ ts) stop = absurd (omega arith)
compared_stop n inner e d (Symbol sign.LessEqual ∷ ts) stop = absurd (omega arith)
compared_stop n inner e d (Symbol sign.Greater ∷ ts) stop = absurd (omega arith)
compared_stop n inner e d (Symbol sign.GreaterEqual ∷ ts) stop = absurd (omega arith)
compared_stop n inner e d (t ∷ ts) stop = refl

comparison_sum : (n : ℕ) (inner : Line → Reader) (outer : Reader) → Completes (suc n) line.Sum outer → (e : Expr) (ts : List Token)
    → Stands line.Sum e → depth e ≤ suc n → Stops line.Sum ts → comparison_at outer inner n (spelling e ++ ts) ≡ compared_at inner n e (depth e) ts
unfolding comparison_at
comparison_sum n inner outer f e ts s d stop = rw (f e ts s d stop) refl

comparison_binary : (n : ℕ) (inner : Line → Reader) → Complete n inner → (outer : Reader) → Completes (suc n) line.Sum outer → (op : Operator) (a b : Expr) (ts : List Token)
    → Stands line.Comparison (expr.Binary op a b) → depth (expr.Binary op a b) ≤ suc n → Stops line.Comparison ts
    → comparison_at outer inner n (spelling (expr.Binary op a b) ++ ts) ≡ Some (expr.Binary op a b, depth (expr.Binary op a b), ts)
comparison_binary n inner h outer f op a b ts s d stop =
    elim (cases_lt 3 (rank (line_of op))) [
      | inl lt ↦ comparison_sum n inner outer f (expr.Binary op a b) ts (record { within = omega arith; parts = s.parts }) d (stops_up line.Comparison line.Sum ts (omega arith) stop)
          ∙ compared_stop n inner (expr.Binary op a b) _ ts stop
      | inr le ↦
          let w = s.within in
          let own : line_of op ≡ line.Comparison = same_line (line_of op) line.Comparison (omega arith) in
          let q : rank (left_of op) ≤ rank (home a) = s.parts.0 in
          let four : rank (left_of op) ≡ 4 = ap rank (comparison_left op own) in
          let left : Stands line.Sum a = record { within = omega arith; parts = s.parts.1 } in
          let r : rank (right_of op) ≤ rank (home b) = s.parts.2 in
          let four' : rank (right_of op) ≡ 4 = ap (λ (l : Line). rank (tighter l)) own in
          let right : Stands line.Sum b = record { within = omega arith; parts = s.parts.3 } in
          rw (append_assoc (spelling a) (token_of op ∷ spelling b) ts)
          (comparison_sum n inner outer f a (token_of op ∷ (spelling b ++ ts)) left (omega arith) (omega (arith, token_strength op))
          ∙ compared_again n inner h op a b ts own right (omega arith) (omega arith) (stops_up line.Comparison line.Sum ts (omega arith) stop))
    ]

comparison_other : (n : ℕ) (inner : Line → Reader) (outer : Reader) → Completes (suc n) line.Sum outer → (e : Expr) (ts : List Token)
    → Stands line.Sum e → depth e ≤ suc n → Stops line.Comparison ts → comparison_at outer inner n (spelling e ++ ts) ≡ Some (e, depth e, ts)
comparison_other n inner outer f e ts s d stop =
    comparison_sum n inner outer f e ts s d (stops_up line.Comparison line.Sum ts (omega arith) stop) ∙ compared_stop n inner e (depth e) ts stop

comparison_again : (n : ℕ) (inner : Line → Reader) → Complete n inner → (outer : Reader) → Completes (suc n) line.Sum outer → Completes (suc n) line.Comparison (comparison_at outer inner n)
comparison_again n inner h outer f (expr.Binary op a b) rest s d stop = comparison_binary n inner h outer f op a b rest s d stop
comparison_again n inner h outer f (expr.Between e low high) rest s d stop =
    let p = s.parts in
    let apart = append_assoc (spelling e) (Keyword word.Between ∷ (spelling low ++ Keyword word.And ∷ spelling high)) rest in
    let bpart = append_assoc (spelling low) (Keyword word.And ∷ spelling high) rest in
    rw (apart, bpart)
    (comparison_sum n inner outer f e _ (record { within = p.0; parts = p.1 }) (omega arith) (omega arith)
    ∙ between_again n inner h e low high rest (record { within = p.2; parts = p.3 }) (record { within = p.4; parts = p.5 }) (omega arith) (omega arith) (omega arith)
    (stops_up line.Comparison line.Sum rest (omega arith) stop))
comparison_again n inner h outer f (expr.If test a b) rest s d stop = let w = s.within in absurd (omega arith)
comparison_again n inner h outer f e rest s d stop = comparison_other n inner outer f e rest (record { within = omega arith; parts = s.parts }) d stop

-- ---- conditionals

conditional_again : (n : ℕ) (inner : Line → Reader) → Complete n inner → (a b c : Expr) (rest : List Token) → Parts a → Parts b → Parts c → depth a ≤ n → depth b ≤ n → depth c ≤ n → Stops line.Whole rest
    → conditional_at inner (spelling a ++ Keyword word.Then ∷ (spelling b ++ Keyword word.Else ∷ (spelling c ++ rest))) ≡ Some (expr.If a b c, 1 + max (depth a) (max (depth b) (depth c)), rest)
unfolding conditional_at
conditional_again n inner h a b c rest p q r da db dc stop =
    rw (
      h line.Whole a (Keyword word.Then ∷ (spelling b ++ Keyword word.Else ∷ (spelling c ++ rest))) (stands a p) da (omega arith),
      h line.Whole b (Keyword word.Else ∷ (spelling c ++ rest)) (stands b q) db (omega arith),
      h line.Whole c rest (stands c r) dc stop,
    ) refl

whole_other_again : (n : ℕ) (inner : Line → Reader) (outer : Reader) → Completes (suc n) line.Disjunction outer → (e : Expr) (rest : List Token)
    → Stands line.Disjunction e → depth e ≤ suc n → Stops line.Whole rest → whole_at outer inner (spelling e ++ rest) ≡ Some (e, depth e, rest)
whole_other_again n inner outer f e rest s d stop =
    whole_tighter outer inner e rest s ∙ f e rest s d (stops_up line.Whole line.Disjunction rest (omega arith) stop)

operator_above : (op : Operator) → 1 ≤ rank (line_of op)
operator_above operator.Or = omega arith
operator_above operator.And = omega arith
operator_above operator.Equal = omega arith
operator_above operator.NotEqual = omega arith
operator_above operator.Less = omega arith
operator_above operator.LessEqual = omega arith
operator_above operator.Greater = omega arith
operator_above operator.GreaterEqual = omega arith
operator_above operator.Add = omega arith
operator_above operator.Subtract = omega arith
operator_above operator.Multiply = omega arith

whole_again : (n : ℕ) (inner : Line → Reader) → Complete n inner → (outer : Reader) → Completes (suc n) line.Disjunction outer → Completes (suc n) line.Whole (whole_at outer inner)
unfolding whole_at
whole_again n inner h outer f (expr.If a b c) rest s d stop =
    let p = s.parts in
    let apart = append_assoc (spelling a) (Keyword word.Then ∷ (spelling b ++ Keyword word.Else ∷ spelling c)) rest in
    let bpart = append_assoc (spelling b) (Keyword word.Else ∷ spelling c) rest in
    rw (apart, bpart) (conditional_again n inner h a b c rest p.0 p.1 p.2 (omega arith) (omega arith) (omega arith) stop)
whole_again n inner h outer f (expr.Binary op a b) rest s d stop =
    whole_other_again n inner outer f (expr.Binary op a b) rest (record { within = operator_above op; parts = s.parts }) d stop
whole_again n inner h outer f e rest s d stop = whole_other_again n inner outer f e rest (record { within = omega arith; parts = s.parts }) d stop

-- ---- every line

product_again : (n : ℕ) (inner : Line → Reader) → Complete n inner → Completes (suc n) line.Product (product_at inner n)
product_again n inner h = chain_again n inner h line.Product chain_product (negation_at inner n) (negation_again n inner h)

sum_again : (n : ℕ) (inner : Line → Reader) → Complete n inner → Completes (suc n) line.Sum (sum_at inner n)
sum_again n inner h = chain_again n inner h line.Sum chain_sum (product_at inner n) (product_again n inner h)

compare_again : (n : ℕ) (inner : Line → Reader) → Complete n inner → Completes (suc n) line.Comparison (compare_at inner n)
compare_again n inner h = comparison_again n inner h (sum_at inner n) (sum_again n inner h)

conjunction_again : (n : ℕ) (inner : Line → Reader) → Complete n inner → Completes (suc n) line.Conjunction (conjunction_at inner n)
conjunction_again n inner h = chain_again n inner h line.Conjunction chain_conjunction (compare_at inner n) (compare_again n inner h)

disjunction_again : (n : ℕ) (inner : Line → Reader) → Complete n inner → Completes (suc n) line.Disjunction (disjunction_at inner n)
disjunction_again n inner h = chain_again n inner h line.Disjunction chain_disjunction (conjunction_at inner n) (conjunction_again n inner h)

line_again : (n : ℕ) (inner : Line → Reader) → Complete n inner → Complete (suc n) (line_at inner n)
unfolding line_at
line_again n inner h line.Whole = whole_again n inner h (disjunction_at inner n) (disjunction_again n inner h)
line_again n inner h line.Disjunction = disjunction_again n inner h
line_again n inner h line.Conjunction = conjunction_again n inner h
line_again n inner h line.Comparison = compare_again n inner h
line_again n inner h line.Sum = sum_again n inner h
line_again n inner h line.Product = product_again n inner h
line_again n inner h line.Negation = negation_again n inner h
line_again n inner h line.Path = path_again n inner h
line_again n inner h line.Primary = primary_again n inner h

-- What is spelled within the limit is read, where nothing after it goes on with it.
pub read_again : (n : ℕ) → Complete n (read_at n)
unfolding read_at
read_again zero l e rest s d stop = absurd (omega (arith, depth_positive e))
read_again (suc n) l e rest s d stop = line_again n (read_at n) (read_again n) l e rest s d stop
