-- Internal: no public contract cites these words. Cells within others, and cells that are joined.
use Rattle.std.specs.Prelude.{◌≡◌, ℕ, List, length, map, true}
use Rattle.std.specs.List.{All}
use Rattle.std.specs.declared.alloc.Global.{Global}
use Rattle.std.specs.declared.sync.ArcStr.{ArcStr}
use Rattle.feel_value.specs.Datum.{Datum}
use Rattle.dmn_table.specs.Table.{Rule}
use Rattle.dmn_analysis.specs.Cells.{AreIn, is_in}
use Rattle.dmn_analysis.specs.Searching.{CannotHit, IsInSome}
use Rattle.dmn_analysis.specs.declared.cell.Cell.{Cell}
use Rattle.dmn_analysis.specs.declared.cell.Words.{Words}
use Rattle.dmn_analysis.specs.declared.gaps.Bare.{Bare}

-- each value of a cell is one of the other
abbrev pub IsCellWithin : Cell → Cell → Type 0
IsCellWithin a b = (words : List (ArcStr Global)) (v : Datum) → is_in words a v ≡ true → is_in words b v ≡ true

-- the same of cells, one a column
abbrev pub AreWithin : List Cell → List Cell → Type 0
AreWithin a b = (words : List Words) (values : List Datum) → AreIn words a values → AreIn words b values

-- values of the cells are in one of several
abbrev pub AreCovered : List Cell → List Bare → Type 0
AreCovered cells all = (words : List Words) (values : List Datum) → AreIn words cells values → IsInSome words (map (λ (b : Bare). b.cells.items) all) values

-- none of the rules hits for any values of so many cells
pub record AreMissed (words : List Words) (rules : List Rule) (count : ℕ) (bare : Bare) : Type 0 where
  pub long : length bare.cells.items ≡ count
  pub none : All (CannotHit words bare.cells.items) rules
