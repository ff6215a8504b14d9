-- Internal: no public contract cites these words. The cells of all values that are asked about.
use Rattle.std.specs.Prelude.{◌≡◌, ℕ, ℤ, pos, ◌-ℤ◌, List, true, not, ◌&&◌, ◌||◌, Some}
use Rattle.std.specs.List.{slice_get}
use Rattle.std.specs.declared.alloc.Global.{Global}
use Rattle.std.specs.declared.sync.ArcStr.{ArcStr}
use Rattle.feel_value.specs.Datum.{Datum}
use Rattle.feel_value.specs.Limits.{is_value}
use Rattle.dmn_analysis.specs.Asked.{is_asked, is_asked_text}
use Rattle.dmn_analysis.specs.Cells.{is_in, is_one_of, is_text_among, words_within}
use Rattle.dmn_analysis.specs.declared.asked.Asked.{Asked}
use Rattle.dmn_analysis.specs.declared.asked.Numbers.{Numbers}
use Rattle.dmn_analysis.specs.declared.asked.Numbers.TheVariants as numbers
use Rattle.dmn_analysis.specs.declared.asked.Texts.{Texts}
use Rattle.dmn_analysis.specs.declared.cell.Cell.{Cell}
use Rattle.dmn_analysis.specs.declared.cell.Others.{Others}
use Rattle.dmn_analysis.specs.declared.cell.Words.{Words}

-- each text that is asked about is one of the words before a place, or another text, where these are meant
abbrev pub AreWholeTexts : List (ArcStr Global) → Texts → ℕ → Others → Type 0
AreWholeTexts words texts to others =
    (s : List ℕ) → is_asked_text texts s ≡ true → (is_text_among (words_within words 0 to) s || (is_one_of words others s && not (is_text_among words s))) ≡ true

-- each of these texts is a word, or one of the others
abbrev pub AreOthers : List (ArcStr Global) → List (ArcStr Global) → Others → Type 0
AreOthers these words others = (s : List ℕ) → is_text_among these s ≡ true → (is_text_among words s || (is_one_of words others s && not (is_text_among words s))) ≡ true

-- the lowest and the highest number that is asked about; where none is, the lowest lies above the highest
abbrev pub lowest : Numbers → ℤ
lowest numbers.None = pos 1
lowest (numbers.Between low high) = low
lowest numbers.All = pos 0 -ℤ pos 9223372036854775807

abbrev pub highest : Numbers → ℤ
highest numbers.None = pos 0
highest (numbers.Between low high) = high
highest numbers.All = pos 9223372036854775807

-- all values that are asked about, with these texts
abbrev pub whole_of : Asked → ℕ → Others → Cell
whole_of asked to others = record {
  null = asked.null;
  yes = asked.truths;
  no = asked.truths;
  low = lowest asked.numbers;
  high = highest asked.numbers;
  from = 0;
  to = to;
  others = others;
  parted = asked.parted;
}

-- each value that is asked about is in the cell
abbrev pub IsWhole : Words → Asked → Cell → Type 0
IsWhole words asked cell = (v : Datum) → is_value v ≡ true → is_asked asked v ≡ true → is_in words.texts.items cell v ≡ true

pub record HasWhole (asked : List Asked) (k : ℕ) (words : Words) (cell : Cell) : Type 0 where
  pub asked_there : Asked
  pub there : slice_get asked k ≡ Some asked_there
  pub is_whole : IsWhole words asked_there cell

abbrev pub AreWhole : List Words → List Asked → List Cell → Type 0
AreWhole words asked cells = (k : ℕ) (ws : Words) (c : Cell) → slice_get words k ≡ Some ws → slice_get cells k ≡ Some c → HasWhole asked k ws c
