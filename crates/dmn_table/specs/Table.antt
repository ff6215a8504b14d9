-- What a decision table is: input expressions, output columns, and rules with an entry for each column.
use Rattle.std.specs.Prelude.{ℕ, List, Option}
use Rattle.feel_value.specs.Datum.{Datum}
use Rattle.feel_text.specs.Expr.{Expr}
use Rattle.feel_text.specs.Tests.{Tests}
use Rattle.dmn_table.specs.declared.hit_policy.HitPolicy.{HitPolicy}

-- an output column: its name, its list of output values (empty where it has none) and its default
pub record Column : Type 0 where
  pub name : List ℕ
  pub values : List Datum
  pub fallback : Option Expr

-- a rule: unary tests for each input column, an expression for each output column
pub record Rule : Type 0 where
  pub tests : List Tests
  pub gives : List Expr

pub record Table : Type 0 where
  pub policy : HitPolicy
  pub inputs : List Expr
  pub outputs : List Column
  pub rules : List Rule
