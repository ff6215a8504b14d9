-- Internal: no public contract cites these words. Cells cut in two.
use Rattle.std.specs.Prelude.{◌≡◌, ◌⊎◌, ◌&&◌, ◌||◌, not, if◌then◌else◌, ℕ, ℤ, pos, List, length, false}
use Rattle.std.specs.declared.alloc.Global.{Global}
use Rattle.std.specs.declared.sync.ArcStr.{ArcStr}
use Rattle.feel_value.specs.Datum.{Datum}
use Rattle.dmn_analysis.specs.Cells.{AllInOrder, AreIn, AreInOrder, is_in}
use Rattle.dmn_analysis.specs.declared.cell.Cell.{Cell}
use Rattle.dmn_analysis.specs.declared.cell.Others.{Others}
use Rattle.dmn_analysis.specs.declared.cell.Others.TheVariants as others
use Rattle.dmn_analysis.specs.declared.cell.Words.{Words}
use Rattle.dmn_analysis.specs.declared.cutting.Kinds.{Kinds}

abbrev pub other_kinds_of : Kinds → Kinds
other_kinds_of k = record { null = not k.null; yes = not k.yes; no = not k.no; numbers = not k.numbers; words = not k.words; others = not k.others; parted = not k.parted }

-- what a cell has of some kinds
abbrev pub kept_of : Cell → Kinds → Cell
kept_of c k = record {
  null = c.null && k.null;
  yes = c.yes && k.yes;
  no = c.no && k.no;
  low = if k.numbers then c.low else pos 1;
  high = if k.numbers then c.high else pos 0;
  from = if k.words then c.from else 0;
  to = if k.words then c.to else 0;
  others = if k.others then c.others else others.None;
  parted = c.parted && k.parted;
}

abbrev pub numbers_alone : ℤ → ℤ → Cell
numbers_alone low high = record { null = false; yes = false; no = false; low = low; high = high; from = 0; to = 0; others = others.None; parted = false }

abbrev pub words_alone : ℕ → ℕ → Cell
words_alone from to = record { null = false; yes = false; no = false; low = pos 1; high = pos 0; from = from; to = to; others = others.None; parted = false }

abbrev pub between_alone : ℕ → ℕ → Cell
between_alone from to = record { null = false; yes = false; no = false; low = pos 1; high = pos 0; from = 0; to = 0; others = others.Between from to; parted = false }

abbrev pub with_others : Cell → Others → Cell
with_others c o = record { null = c.null; yes = c.yes; no = c.no; low = c.low; high = c.high; from = c.from; to = c.to; others = o; parted = c.parted }

abbrev pub with_low : Cell → ℤ → Cell
with_low c low = record { null = c.null; yes = c.yes; no = c.no; low = low; high = c.high; from = c.from; to = c.to; others = c.others; parted = c.parted }

abbrev pub with_from : Cell → ℕ → Cell
with_from c from = record { null = c.null; yes = c.yes; no = c.no; low = c.low; high = c.high; from = from; to = c.to; others = c.others; parted = c.parted }

-- the values of a cell are those of two others, where the words are in order
abbrev pub MakeUp : Cell → Cell → Cell → Type 0
MakeUp cell a b = (words : List (ArcStr Global)) (v : Datum) → AreInOrder words → is_in words cell v ≡ (is_in words a v || is_in words b v)

-- the same of cells, one a column
pub record AreHalves (cells lower upper : List Cell) : Type 0 where
  pub lower_long : length lower ≡ length cells
  pub upper_long : length upper ≡ length cells
  pub parted : (words : List Words) (values : List Datum) → AllInOrder words → length values ≡ length cells → AreIn words cells values → AreIn words lower values ⊎ AreIn words upper values
  pub lower_within : (words : List Words) (values : List Datum) → AllInOrder words → AreIn words lower values → AreIn words cells values
  pub upper_within : (words : List Words) (values : List Datum) → AllInOrder words → AreIn words upper values → AreIn words cells values
