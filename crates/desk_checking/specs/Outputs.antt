-- Whether two rules of a table give the same output.
use Rattle.std.specs.Prelude.{◌≡◌, ◌<◌, ℕ, List, length, Bool, true, false, Option, None, Some}
use Rattle.std.specs.List.{slice_get}
use Rattle.feel_value.specs.Comparison.{equal}
use Rattle.feel_value.specs.Datum.{Datum}
use Rattle.feel_value.specs.Found.{value_of}
use Rattle.feel_value.specs.Logic.{is_yes}
use Rattle.feel_text.specs.Expr.{Expr}
use Rattle.feel_text.specs.Meaning.{Bindings, den}
use Rattle.dmn_table.specs.Hits.{does_hit}
use Rattle.dmn_table.specs.Table.{Rule, Table}
use Rattle.dmn_analysis.specs.Claims.{AreAsked, AreInputs}
use Rattle.dmn_analysis.specs.declared.asked.Asked.{Asked}

-- Whatever the names stand for, where two expressions have values, these are equal, or they aren't.
abbrev pub AreEqual : Expr → Expr → Bool → Type 0
AreEqual e f answer = (m : Bindings) (v w : Datum) → value_of (den e m) ≡ Some v → value_of (den f m) ≡ Some w → is_yes (equal v w) ≡ answer

-- the output entries of two rules at one place
pub record AreEntries (es fs : List Expr) (column : ℕ) (e f : Expr) : Type 0 where
  pub one : slice_get es column ≡ Some e
  pub other : slice_get fs column ≡ Some f

-- in some column the values are never equal
pub record Differ (es fs : List Expr) : Type 0 where
  pub column : ℕ
  pub one : Expr
  pub other : Expr
  pub are : AreEntries es fs column one other
  pub unequal : AreEqual one other false

-- in each column they are always equal
abbrev pub AreSame : List Expr → List Expr → Type 0
AreSame es fs = (column : ℕ) (e f : Expr) → AreEntries es fs column e f → AreEqual e f true

-- what is known of output entries: that they differ, that they are the same, or neither
abbrev pub TellsEntries : List Expr → List Expr → Option Bool → Type 0
TellsEntries es fs None = Unit {0}
TellsEntries es fs (Some true) = Differ es fs
TellsEntries es fs (Some false) = AreSame es fs

-- of those of two rules
abbrev pub TellsOutputs : List Rule → ℕ → ℕ → Option Bool → Type 0
TellsOutputs rules i j answer = (r s : Rule) → slice_get rules i ≡ Some r → slice_get rules j ≡ Some s → TellsEntries r.gives s.gives answer

-- Whatever the values that are asked about, and whatever the names stand for, two rules that hit give the same.
abbrev pub HitsGiveSame : Table → List Asked → Type 0
HitsGiveSame t asked =
    (m : Bindings) (values : List Datum) → AreInputs (length t.inputs) values → AreAsked asked values → (i j : ℕ) (r s : Rule) → i < j → slice_get t.rules i ≡ Some r → slice_get t.rules j ≡ Some s
    → does_hit m values r ≡ Some true → does_hit m values s ≡ Some true → AreSame r.gives s.gives

-- rules with the same number give the same
abbrev pub AreGroups : List Rule → List ℕ → Type 0
AreGroups rules groups = (i j : ℕ) (r s : Rule) → i < j → slice_get rules i ≡ Some r → slice_get rules j ≡ Some s → slice_get groups i ≡ slice_get groups j → AreSame r.gives s.gives
