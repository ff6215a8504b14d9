-- Internal behind `expr_of_spells`, `tests_of_spells` and `literal_of_spells`: laws that tie it to the grammar.
-- Reading tokens once, from left to right. What is read is an expression, its depth and the tokens after it.
use Rattle.std.specs.Prelude.{ℕ, zero, suc, ◌+◌, max, true, false, codes, List, [], ◌∷◌, Option, Some, None, nat_le, bytes_eq, length, if◌then◌else◌}
use Rattle.feel_value.specs.Found.{◌>>=◌}
use Rattle.feel_text.specs.declared.token.Word.TheVariants as word
use Rattle.feel_text.specs.declared.token.Sign.TheVariants as sign
use Rattle.feel_text.specs.declared.expr.Operator.{Operator}
use Rattle.feel_text.specs.declared.expr.Operator.TheVariants as operator
use Rattle.feel_text.specs.declared.expr.Function.{Function}
use Rattle.feel_text.specs.declared.expr.Function.TheVariants as function
use Rattle.feel_text.specs.Token.{Token, Number, Text, Name, Keyword, Symbol}
use Rattle.feel_text.specs.Expr as expr
use Rattle.feel_text.specs.Expr.{Expr, Exprs, none, more}
use Rattle.feel_text.specs.declared.line.Line.{Line}
use Rattle.feel_text.specs.declared.line.Line.TheVariants as line
use Rattle.feel_text.specs.Grammar.{tighter}

abbrev pub Read : Type 0
Read = Option (Expr × ℕ × List Token)

abbrev pub Reader : Type 0
Reader = List Token → Read

abbrev pub ReadMore : Type 0
ReadMore = Option (Exprs × ℕ × List Token)

-- what an option gives, with a value or without
abbrev pub choose : {A B : Type 0} → Option A → B → (A → B) → B
choose None b f = b
choose (Some x) b f = f x

-- the operator that a token is, on a line of the grammar
abbrev pub operator_at : Line → Token → Option Operator
operator_at line.Disjunction (Keyword word.Or) = Some operator.Or
operator_at line.Conjunction (Keyword word.And) = Some operator.And
operator_at line.Comparison (Symbol sign.Equal) = Some operator.Equal
operator_at line.Comparison (Symbol sign.NotEqual) = Some operator.NotEqual
operator_at line.Comparison (Symbol sign.Less) = Some operator.Less
operator_at line.Comparison (Symbol sign.LessEqual) = Some operator.LessEqual
operator_at line.Comparison (Symbol sign.Greater) = Some operator.Greater
operator_at line.Comparison (Symbol sign.GreaterEqual) = Some operator.GreaterEqual
operator_at line.Sum (Symbol sign.Plus) = Some operator.Add
operator_at line.Sum (Symbol sign.Minus) = Some operator.Subtract
operator_at line.Product (Symbol sign.Star) = Some operator.Multiply
operator_at l t = None

-- the function of one argument that a name is
abbrev pub function_of : List ℕ → Option Function
function_of name =
    if bytes_eq name (codes "abs") then Some function.Abs
    else if bytes_eq name (codes "sum") then Some function.Sum
    else if bytes_eq name (codes "min") then Some function.Min
    else if bytes_eq name (codes "max") then Some function.Max
    else if bytes_eq name (codes "count") then Some function.Count
    else None

-- the tokens after one that has to come
abbrev pub after_open : List Token → Option (List Token)
after_open (Symbol sign.OpenParen ∷ ts) = Some ts
after_open ts = None

abbrev pub after_close : List Token → Option (List Token)
after_close (Symbol sign.CloseParen ∷ ts) = Some ts
after_close ts = None

abbrev pub after_comma : List Token → Option (List Token)
after_comma (Symbol sign.Comma ∷ ts) = Some ts
after_comma ts = None

abbrev pub after_bracket : List Token → Option (List Token)
after_bracket (Symbol sign.CloseBracket ∷ ts) = Some ts
after_bracket ts = None

abbrev pub after_then : List Token → Option (List Token)
after_then (Keyword word.Then ∷ ts) = Some ts
after_then ts = None

abbrev pub after_else : List Token → Option (List Token)
after_else (Keyword word.Else ∷ ts) = Some ts
after_else ts = None

abbrev pub after_and : List Token → Option (List Token)
after_and (Keyword word.And ∷ ts) = Some ts
after_and ts = None

-- Below, inner reads a part, with a depth of at most n, and what is read may be one deeper.

-- an expression, and the parenthesis after it
unfoldable pub closed_at : (Line → Reader) → Reader
closed_at inner ts = do
  x ← inner line.Whole ts
  us ← after_close x.2
  Some (x.0, x.1, us)

-- further members of a list, each after a comma, and the bracket after them
unfoldable pub members_at : ℕ → (Line → Reader) → List Token → ReadMore
members_at zero inner ts = None
members_at (suc k) inner (Symbol sign.CloseBracket ∷ ts) = Some (none, 0, ts)
members_at (suc k) inner (Symbol sign.Comma ∷ ts) = do
  x ← inner line.Whole ts
  xs ← members_at k inner x.2
  Some (more x.0 xs.0, max x.1 xs.1, xs.2)
members_at (suc k) inner ts = None

abbrev pub before_more : Exprs → Exprs → Exprs
before_more none fs = fs
before_more (more e es) fs = more e (before_more es fs)

-- the members that were read, before those still to be read
abbrev pub joined : Exprs → ℕ → ReadMore → ReadMore
joined es d None = None
joined es d (Some (fs, c, ts)) = Some (before_more es fs, max d c, ts)

-- a list that isn't empty, after its bracket
unfoldable pub listed_at : (Line → Reader) → Reader
listed_at inner ts = do
  x ← inner line.Whole ts
  xs ← members_at (length x.2) inner x.2
  Some (expr.Members (more x.0 xs.0), 1 + max x.1 xs.1, xs.2)

-- a list, after its bracket
unfoldable pub list_at : (Line → Reader) → Reader
list_at inner (Symbol sign.CloseBracket ∷ ts) = Some (expr.Members none, 1, ts)
list_at inner ts = listed_at inner ts

-- the arguments of a call, after their parenthesis
unfoldable pub modulo_at : (Line → Reader) → Reader
modulo_at inner ts = do
  a ← inner line.Whole ts
  us ← after_comma a.2
  b ← closed_at inner us
  Some (expr.Modulo a.0 b.0, 1 + max a.1 b.1, b.2)

unfoldable pub call_at : Option Function → (Line → Reader) → Reader
call_at None inner ts = None
call_at (Some f) inner ts = do
  x ← closed_at inner ts
  Some (expr.Call f x.0, 1 + x.1, x.2)

-- what a name begins: a call where a parenthesis follows
unfoldable pub named_at : List ℕ → (Line → Reader) → Reader
named_at name inner (Symbol sign.OpenParen ∷ ts) =
    if bytes_eq name (codes "modulo") then modulo_at inner ts else call_at (function_of name) inner ts
named_at name inner ts = Some (expr.Name name, 1, ts)

unfoldable pub negated_at : (Line → Reader) → Reader
negated_at inner ts = do
  us ← after_open ts
  x ← closed_at inner us
  Some (expr.Not x.0, 1 + x.1, x.2)

unfoldable pub group_at : (Line → Reader) → Reader
group_at inner ts = do
  x ← closed_at inner ts
  Some (expr.Group x.0, 1 + x.1, x.2)

unfoldable pub primary_at : (Line → Reader) → Reader
primary_at inner (Number n ∷ ts) = Some (expr.Number n, 1, ts)
primary_at inner (Text bytes ∷ ts) = Some (expr.Text bytes, 1, ts)
primary_at inner (Name name ∷ ts) = named_at name inner ts
primary_at inner (Keyword word.Null ∷ ts) = Some (expr.Null, 1, ts)
primary_at inner (Keyword word.True ∷ ts) = Some (expr.Boolean true, 1, ts)
primary_at inner (Keyword word.False ∷ ts) = Some (expr.Boolean false, 1, ts)
primary_at inner (Keyword word.Not ∷ ts) = negated_at inner ts
primary_at inner (Symbol sign.OpenParen ∷ ts) = group_at inner ts
primary_at inner (Symbol sign.OpenBracket ∷ ts) = list_at inner ts
primary_at inner ts = None

-- the steps of a path after its first part, fewer than k
unfoldable pub paths_at : ℕ → ℕ → Expr → ℕ → Reader
paths_at zero n e d ts = None
paths_at (suc k) n e d (Symbol sign.Dot ∷ Name name ∷ ts) = if nat_le d n then paths_at k n (expr.Path e name) (1 + d) ts else None
paths_at (suc k) n e d (Symbol sign.Dot ∷ ts) = None
paths_at (suc k) n e d ts = Some (e, d, ts)

unfoldable pub path_at : (Line → Reader) → ℕ → Reader
path_at inner n ts = do
  x ← primary_at inner ts
  paths_at (suc n) n x.0 x.1 x.2

unfoldable pub negation_at : (Line → Reader) → ℕ → Reader
negation_at inner n (Symbol sign.Minus ∷ ts) = do
  x ← inner line.Negation ts
  Some (expr.Negate x.0, 1 + x.1, x.2)
negation_at inner n ts = path_at inner n ts

-- the steps of a chain after its first operand, fewer than k
unfoldable pub steps_at : ℕ → (Line → Reader) → ℕ → Line → Expr → ℕ → Reader
steps_at zero inner n l e d ts = None
steps_at (suc k) inner n l e d [] = Some (e, d, [])
steps_at (suc k) inner n l e d (t ∷ ts) = choose (operator_at l t) (Some (e, d, t ∷ ts)) (λ op.
    if nat_le d n then (inner (tighter l) ts >>= λ x. steps_at k inner n l (expr.Binary op e x.0) (1 + max d x.1) x.2) else None)

unfoldable pub chain_at : Reader → (Line → Reader) → ℕ → Line → Reader
chain_at first inner n l ts = do
  x ← first ts
  steps_at (suc n) inner n l x.0 x.1 x.2

-- what may follow the first operand of a comparison
unfoldable pub between_at : (Line → Reader) → ℕ → Expr → ℕ → Reader
between_at inner n e d ts = if nat_le d n then (do
  a ← inner line.Sum ts
  us ← after_and a.2
  b ← inner line.Sum us
  Some (expr.Between e a.0 b.0, 1 + max d (max a.1 b.1), b.2)) else None

unfoldable pub compared_by : Operator → (Line → Reader) → ℕ → Expr → ℕ → Reader
compared_by op inner n e d ts = if nat_le d n then (do
  x ← inner line.Sum ts
  Some (expr.Binary op e x.0, 1 + max d x.1, x.2)) else None

unfoldable pub compared_at : (Line → Reader) → ℕ → Expr → ℕ → Reader
compared_at inner n e d (Keyword word.Between ∷ ts) = between_at inner n e d ts
compared_at inner n e d (t ∷ ts) = choose (operator_at line.Comparison t) (Some (e, d, t ∷ ts)) (λ op. compared_by op inner n e d ts)
compared_at inner n e d [] = Some (e, d, [])

unfoldable pub comparison_at : Reader → (Line → Reader) → ℕ → Reader
comparison_at first inner n ts = do
  x ← first ts
  compared_at inner n x.0 x.1 x.2

unfoldable pub conditional_at : (Line → Reader) → Reader
conditional_at inner ts = do
  a ← inner line.Whole ts
  us ← after_then a.2
  b ← inner line.Whole us
  vs ← after_else b.2
  c ← inner line.Whole vs
  Some (expr.If a.0 b.0 c.0, 1 + max a.1 (max b.1 c.1), c.2)

unfoldable pub whole_at : Reader → (Line → Reader) → Reader
whole_at first inner (Keyword word.If ∷ ts) = conditional_at inner ts
whole_at first inner ts = first ts

-- each line, over the next tighter one
abbrev pub product_at : (Line → Reader) → ℕ → Reader
product_at inner n = chain_at (negation_at inner n) inner n line.Product

abbrev pub sum_at : (Line → Reader) → ℕ → Reader
sum_at inner n = chain_at (product_at inner n) inner n line.Sum

abbrev pub compare_at : (Line → Reader) → ℕ → Reader
compare_at inner n = comparison_at (sum_at inner n) inner n

abbrev pub conjunction_at : (Line → Reader) → ℕ → Reader
conjunction_at inner n = chain_at (compare_at inner n) inner n line.Conjunction

abbrev pub disjunction_at : (Line → Reader) → ℕ → Reader
disjunction_at inner n = chain_at (conjunction_at inner n) inner n line.Disjunction

unfoldable pub line_at : (Line → Reader) → ℕ → Line → Reader
line_at inner n line.Whole = whole_at (disjunction_at inner n) inner
line_at inner n line.Disjunction = disjunction_at inner n
line_at inner n line.Conjunction = conjunction_at inner n
line_at inner n line.Comparison = compare_at inner n
line_at inner n line.Sum = sum_at inner n
line_at inner n line.Product = product_at inner n
line_at inner n line.Negation = negation_at inner n
line_at inner n line.Path = path_at inner n
line_at inner n line.Primary = primary_at inner

-- what is read on a line of the grammar, of a depth of at most the limit
unfoldable pub read_at : ℕ → Line → Reader
read_at zero l ts = None
read_at (suc n) l ts = line_at (read_at n) n l ts
