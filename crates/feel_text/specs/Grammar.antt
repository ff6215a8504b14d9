-- The grammar of FEEL expressions, over tokens.
use Rattle.std.specs.Prelude.{◌≤◌, ℕ, Bool, true, false, codes, List, [], ◌∷◌, ◌++◌}
use Rattle.feel_text.specs.declared.token.Word.{Word}
use Rattle.feel_text.specs.declared.token.Word.TheVariants as word
use Rattle.feel_text.specs.declared.token.Sign.TheVariants as sign
use Rattle.feel_text.specs.declared.expr.Operator.{Operator}
use Rattle.feel_text.specs.declared.expr.Operator.TheVariants as operator
use Rattle.feel_text.specs.declared.expr.Function.{Function}
use Rattle.feel_text.specs.declared.expr.Function.TheVariants as function
use Rattle.feel_text.specs.declared.line.Line.{Line}
use Rattle.feel_text.specs.declared.line.Line.TheVariants.{Whole, Disjunction, Conjunction, Comparison, Sum, Product, Negation, Path, Primary}
use Rattle.feel_text.specs.Token.{Token, Number, Text, Name, Keyword, Symbol}
use Rattle.feel_text.specs.Expr as expr
use Rattle.feel_text.specs.Expr.{Expr, Exprs, none, more}

-- A line of the grammar binds tighter than those before it.
abbrev pub rank : Line → ℕ
rank Whole = 0
rank Disjunction = 1
rank Conjunction = 2
rank Comparison = 3
rank Sum = 4
rank Product = 5
rank Negation = 6
rank Path = 7
rank Primary = 8

-- the line of an operator
abbrev pub line_of : Operator → Line
line_of operator.Or = Disjunction
line_of operator.And = Conjunction
line_of operator.Equal = Comparison
line_of operator.NotEqual = Comparison
line_of operator.Less = Comparison
line_of operator.LessEqual = Comparison
line_of operator.Greater = Comparison
line_of operator.GreaterEqual = Comparison
line_of operator.Add = Sum
line_of operator.Subtract = Sum
line_of operator.Multiply = Product

-- the line that is one tighter
abbrev pub tighter : Line → Line
tighter Whole = Disjunction
tighter Disjunction = Conjunction
tighter Conjunction = Comparison
tighter Comparison = Sum
tighter Sum = Product
tighter Product = Negation
tighter Negation = Path
tighter Path = Primary
tighter Primary = Primary

-- Chains group to the left, and a comparison is no chain.
abbrev pub left_of : Operator → Line
left_of operator.Or = Disjunction
left_of operator.And = Conjunction
left_of operator.Equal = Sum
left_of operator.NotEqual = Sum
left_of operator.Less = Sum
left_of operator.LessEqual = Sum
left_of operator.Greater = Sum
left_of operator.GreaterEqual = Sum
left_of operator.Add = Sum
left_of operator.Subtract = Sum
left_of operator.Multiply = Product

abbrev pub right_of : Operator → Line
right_of op = tighter (line_of op)

abbrev pub token_of : Operator → Token
token_of operator.Or = Keyword word.Or
token_of operator.And = Keyword word.And
token_of operator.Equal = Symbol sign.Equal
token_of operator.NotEqual = Symbol sign.NotEqual
token_of operator.Less = Symbol sign.Less
token_of operator.LessEqual = Symbol sign.LessEqual
token_of operator.Greater = Symbol sign.Greater
token_of operator.GreaterEqual = Symbol sign.GreaterEqual
token_of operator.Add = Symbol sign.Plus
token_of operator.Subtract = Symbol sign.Minus
token_of operator.Multiply = Symbol sign.Star

-- the name of a function
abbrev pub name_of : Function → List ℕ
name_of function.Abs = codes "abs"
name_of function.Sum = codes "sum"
name_of function.Min = codes "min"
name_of function.Max = codes "max"
name_of function.Count = codes "count"

abbrev pub constant_of : Bool → Word
constant_of true = word.True
constant_of false = word.False

-- an expression between parentheses
abbrev pub in_parens : List Token → List Token
in_parens ts = Symbol sign.OpenParen ∷ (ts ++ Symbol sign.CloseParen ∷ [])

-- The tokens have a reading on a line of the grammar: a rule for each alternative.
mutual
  pub data Reads : Line → List Token → Expr → Type 0 where
    -- what a tighter line reads
    tighter_line : (l k : Line) (ts : List Token) (e : Expr) → rank l ≤ rank k → Reads k ts e → Reads l ts e
    conditional : (xs ys zs : List Token) (a b c : Expr) → Reads Whole xs a → Reads Whole ys b → Reads Whole zs c
        → Reads Whole (Keyword word.If ∷ (xs ++ Keyword word.Then ∷ (ys ++ Keyword word.Else ∷ zs))) (expr.If a b c)
    binary : (op : Operator) (xs ys : List Token) (a b : Expr) → Reads (left_of op) xs a → Reads (right_of op) ys b
        → Reads (line_of op) (xs ++ token_of op ∷ ys) (expr.Binary op a b)
    between : (xs ys zs : List Token) (a b c : Expr) → Reads Sum xs a → Reads Sum ys b → Reads Sum zs c
        → Reads Comparison (xs ++ Keyword word.Between ∷ (ys ++ Keyword word.And ∷ zs)) (expr.Between a b c)
    negation : (ts : List Token) (e : Expr) → Reads Negation ts e → Reads Negation (Symbol sign.Minus ∷ ts) (expr.Negate e)
    path : (ts : List Token) (e : Expr) (name : List ℕ) → Reads Path ts e
        → Reads Path (ts ++ Symbol sign.Dot ∷ Name name ∷ []) (expr.Path e name)
    number : (n : ℕ) → Reads Primary (Number n ∷ []) (expr.Number n)
    text : (bytes : List ℕ) → Reads Primary (Text bytes ∷ []) (expr.Text bytes)
    constant : (b : Bool) → Reads Primary (Keyword (constant_of b) ∷ []) (expr.Boolean b)
    null : Reads Primary (Keyword word.Null ∷ []) expr.Null
    name : (name : List ℕ) → Reads Primary (Name name ∷ []) (expr.Name name)
    call : (f : Function) (ts : List Token) (e : Expr) → Reads Whole ts e
        → Reads Primary (Name (name_of f) ∷ in_parens ts) (expr.Call f e)
    modulo : (xs ys : List Token) (a b : Expr) → Reads Whole xs a → Reads Whole ys b
        → Reads Primary (Name (codes "modulo") ∷ in_parens (xs ++ Symbol sign.Comma ∷ ys)) (expr.Modulo a b)
    negated : (ts : List Token) (e : Expr) → Reads Whole ts e → Reads Primary (Keyword word.Not ∷ in_parens ts) (expr.Not e)
    group : (ts : List Token) (e : Expr) → Reads Whole ts e → Reads Primary (in_parens ts) (expr.Group e)
    empty_list : Reads Primary (Symbol sign.OpenBracket ∷ Symbol sign.CloseBracket ∷ []) (expr.Members none)
    members : (ts us : List Token) (e : Expr) (es : Exprs) → Reads Whole ts e → ReadsMore us es
        → Reads Primary (Symbol sign.OpenBracket ∷ (ts ++ (us ++ Symbol sign.CloseBracket ∷ []))) (expr.Members (more e es))

  -- further members of a list, each after a comma
  pub data ReadsMore : List Token → Exprs → Type 0 where
    no_more : ReadsMore [] none
    one_more : (ts us : List Token) (e : Expr) (es : Exprs) → Reads Whole ts e → ReadsMore us es
        → ReadsMore (Symbol sign.Comma ∷ (ts ++ us)) (more e es)
