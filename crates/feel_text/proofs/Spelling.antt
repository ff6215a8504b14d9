-- The one list of tokens that spells an expression, and on which line of the grammar it stands.
use Rattle.std.proofs.Common.{◌≤◌, List, [], ◌∷◌, ◌++◌}
use Rattle.std.specs.Prelude.{codes}
use Rattle.feel_text.specs.declared.token.Word.TheVariants as word
use Rattle.feel_text.specs.declared.token.Sign.TheVariants as sign
use Rattle.feel_text.specs.Token.{Token, Number, Text, Name, Keyword, Symbol}
use Rattle.feel_text.specs.Expr as expr
use Rattle.feel_text.specs.Expr.{Expr, Exprs, none, more}
use Rattle.feel_text.specs.declared.line.Line.{Line}
use Rattle.feel_text.specs.declared.line.Line.TheVariants as line
use Rattle.feel_text.specs.Grammar.{rank, line_of, left_of, right_of, token_of, name_of, constant_of, in_parens}

abbrev mutual
  pub spelling : Expr → List Token
  spelling expr.Null = Keyword word.Null ∷ []
  spelling (expr.Boolean b) = Keyword (constant_of b) ∷ []
  spelling (expr.Number n) = Number n ∷ []
  spelling (expr.Text bytes) = Text bytes ∷ []
  spelling (expr.Name name) = Name name ∷ []
  spelling (expr.Group e) = in_parens (spelling e)
  spelling (expr.Members none) = Symbol sign.OpenBracket ∷ Symbol sign.CloseBracket ∷ []
  spelling (expr.Members (more e es)) = Symbol sign.OpenBracket ∷ (spelling e ++ (others es ++ Symbol sign.CloseBracket ∷ []))
  spelling (expr.Call f e) = Name (name_of f) ∷ in_parens (spelling e)
  spelling (expr.Modulo a b) = Name (codes "modulo") ∷ in_parens (spelling a ++ Symbol sign.Comma ∷ spelling b)
  spelling (expr.Not e) = Keyword word.Not ∷ in_parens (spelling e)
  spelling (expr.Negate e) = Symbol sign.Minus ∷ spelling e
  spelling (expr.Path e name) = spelling e ++ Symbol sign.Dot ∷ Name name ∷ []
  spelling (expr.Binary op a b) = spelling a ++ token_of op ∷ spelling b
  spelling (expr.Between e low high) = spelling e ++ Keyword word.Between ∷ (spelling low ++ Keyword word.And ∷ spelling high)
  spelling (expr.If test a b) = Keyword word.If ∷ (spelling test ++ Keyword word.Then ∷ (spelling a ++ Keyword word.Else ∷ spelling b))

  pub others : Exprs → List Token
  others none = []
  others (more e es) = Symbol sign.Comma ∷ (spelling e ++ others es)

-- the tightest line on which an expression stands
abbrev pub home : Expr → Line
home expr.Null = line.Primary
home (expr.Boolean b) = line.Primary
home (expr.Number n) = line.Primary
home (expr.Text bytes) = line.Primary
home (expr.Name name) = line.Primary
home (expr.Group e) = line.Primary
home (expr.Members es) = line.Primary
home (expr.Call f e) = line.Primary
home (expr.Modulo a b) = line.Primary
home (expr.Not e) = line.Primary
home (expr.Negate e) = line.Negation
home (expr.Path e name) = line.Path
home (expr.Binary op a b) = line_of op
home (expr.Between e low high) = line.Comparison
home (expr.If test a b) = line.Whole

-- each part stands where the grammar has it
abbrev mutual
  pub Parts : Expr → Type 0
  Parts expr.Null = Unit {0}
  Parts (expr.Boolean b) = Unit {0}
  Parts (expr.Number n) = Unit {0}
  Parts (expr.Text bytes) = Unit {0}
  Parts (expr.Name name) = Unit {0}
  Parts (expr.Group e) = Parts e
  Parts (expr.Members es) = AllParts es
  Parts (expr.Call f e) = Parts e
  Parts (expr.Modulo a b) = Parts a × Parts b
  Parts (expr.Not e) = Parts e
  Parts (expr.Negate e) = (6 ≤ rank (home e)) × Parts e
  Parts (expr.Path e name) = (7 ≤ rank (home e)) × Parts e
  Parts (expr.Binary op a b) = (rank (left_of op) ≤ rank (home a)) × Parts a × (rank (right_of op) ≤ rank (home b)) × Parts b
  Parts (expr.Between e low high) = (4 ≤ rank (home e)) × Parts e × (4 ≤ rank (home low)) × Parts low × (4 ≤ rank (home high)) × Parts high
  Parts (expr.If test a b) = Parts test × Parts a × Parts b

  pub AllParts : Exprs → Type 0
  AllParts none = Unit {0}
  AllParts (more e es) = Parts e × AllParts es

pub record Stands (l : Line) (e : Expr) : Type 0 where
  pub within : rank l ≤ rank (home e)
  pub parts : Parts e
