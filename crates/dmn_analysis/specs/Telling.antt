-- Internal: no public contract cites these words. How what a search has found is told.
use Rattle.std.specs.Prelude.{◌≡◌, ◌⊎◌, ℕ, List, length, Some, true, false}
use Rattle.std.specs.List.{slice_get, All}
use Rattle.feel_value.specs.Datum.{Datum}
use Rattle.feel_value.specs.Limits.{is_value}
use Rattle.feel_text.specs.Meaning.{Bindings}
use Rattle.dmn_table.specs.Hits.{does_hit}
use Rattle.dmn_table.specs.Table.{Rule, Table}
use Rattle.dmn_analysis.specs.Cells.{AreIn, is_in}
use Rattle.dmn_analysis.specs.Claims.{GoesBefore, IsGapIn}
use Rattle.dmn_analysis.specs.Searching.{AreBare, IsAmong, Scene}
use Rattle.dmn_analysis.specs.declared.cell.Cell.{Cell}
use Rattle.dmn_analysis.specs.declared.cell.Words.{Words}
use Rattle.dmn_analysis.specs.declared.found.Gap.{Gap}

-- none of the rules hits for the gap's cells, nor for its values
pub record IsToldGap (s : Scene) (count : ℕ) (gap : Gap) : Type 0 where
  pub bare : AreBare s gap.cells.items
  pub witness : IsGapIn count s.rules gap.values.items

-- a gap of these cells is told
pub record HasGapOf (gaps : List Gap) (cells : List Cell) : Type 0 where
  pub place : ℕ
  pub gap : Gap
  pub there : slice_get gaps place ≡ Some gap
  pub same : gap.cells.items ≡ cells

-- no value of the cell is null, a truth value, a list or a context
pub record HasNoOther (cell : Cell) : Type 0 where
  pub null : cell.null ≡ false
  pub yes : cell.yes ≡ false
  pub no : cell.no ≡ false
  pub parted : cell.parted ≡ false

-- the value is in a cell of the column at a place, if there is one
abbrev pub IsInAt : List Words → ℕ → Cell → Datum → Type 0
IsInAt words place cell v = (ws : Words) → slice_get words place ≡ Some ws → is_in ws.texts.items cell v ≡ true

-- there is a column at the place, and the cell has no value there
pub record IsVoidAt (words : List Words) (place : ℕ) (cell : Cell) : Type 0 where
  pub ws : Words
  pub there : slice_get words place ≡ Some ws
  pub none : (v : Datum) → is_value v ≡ true → is_in ws.texts.items cell v ≡ false

-- no values are in these cells
abbrev pub IsVoid : List Words → List Cell → Type 0
IsVoid words cells = (values : List Datum) → length values ≡ length cells → All (λ v. is_value v ≡ true) values → AreIn words cells values → ⊥

-- a gap of these cells is told, or there is none
abbrev pub IsDealtWith : List Words → List Gap → List Cell → Type 0
IsDealtWith words gaps cells = HasGapOf gaps cells ⊎ IsVoid words cells

-- one of the rules of these numbers hits
pub record HasHitAmong (rules : List Rule) (first : List ℕ) (m : Bindings) (values : List Datum) : Type 0 where
  pub number : ℕ
  pub among : IsAmong first number
  pub rule : Rule
  pub there : slice_get rules number ≡ Some rule
  pub hits : does_hit m values rule ≡ Some true

-- wherever a rule hits for values of the cells, so does one of these numbers
abbrev pub IsBehind : List Words → List Rule → List Cell → ℕ → List ℕ → Type 0
IsBehind words rules cells rule first =
    (m : Bindings) (values : List Datum) → length values ≡ length cells → All (λ v. is_value v ≡ true) values → AreIn words cells values → ((r : Rule) → slice_get rules rule ≡ Some r → does_hit m values r ≡ Some true)
    → HasHitAmong rules first m values

-- the same of some that go before it
pub record IsMaskedOn (t : Table) (words : List Words) (cells : List Cell) (rule : ℕ) : Type 0 where
  pub first : List ℕ
  pub before : All (λ j. GoesBefore t j rule) first
  pub behind : IsBehind words t.rules cells rule first
