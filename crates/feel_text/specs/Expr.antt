-- FEEL expressions, without where they lie in memory.
use Rattle.std.specs.Prelude.{ℕ, ◌+◌, max, Bool, List}
use Rattle.feel_text.specs.declared.expr.Operator.{Operator}
use Rattle.feel_text.specs.declared.expr.Function.{Function}

mutual
  pub data Expr : Type 0 where
    Null : Expr
    Boolean : (b : Bool) → Expr
    Number : (n : ℕ) → Expr
    Text : (bytes : List ℕ) → Expr
    Name : (name : List ℕ) → Expr
    Group : (e : Expr) → Expr
    Members : (es : Exprs) → Expr
    Call : (f : Function) (e : Expr) → Expr
    Modulo : (a b : Expr) → Expr
    Not : (e : Expr) → Expr
    Negate : (e : Expr) → Expr
    Path : (e : Expr) (name : List ℕ) → Expr
    Binary : (op : Operator) (a b : Expr) → Expr
    Between : (e low high : Expr) → Expr
    If : (test a b : Expr) → Expr

  pub data Exprs : Type 0 where
    none : Exprs
    more : (e : Expr) (es : Exprs) → Exprs

-- A number, a string, a constant and a name have depth 1. Every other form, a pair of parentheses
-- and each step of a chain included, has one more than its deepest part; an empty list has 1.
abbrev mutual
  pub depth : Expr → ℕ
  depth Null = 1
  depth (Boolean b) = 1
  depth (Number n) = 1
  depth (Text bytes) = 1
  depth (Name name) = 1
  depth (Group e) = 1 + depth e
  depth (Members es) = 1 + deepest es
  depth (Call f e) = 1 + depth e
  depth (Modulo a b) = 1 + max (depth a) (depth b)
  depth (Not e) = 1 + depth e
  depth (Negate e) = 1 + depth e
  depth (Path e name) = 1 + depth e
  depth (Binary op a b) = 1 + max (depth a) (depth b)
  depth (Between e low high) = 1 + max (depth e) (max (depth low) (depth high))
  depth (If test a b) = 1 + max (depth test) (max (depth a) (depth b))

  pub deepest : Exprs → ℕ
  deepest none = 0
  deepest (more e es) = max (depth e) (deepest es)
