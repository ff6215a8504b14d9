-- Internal, cited by no public contract: the pieces of the lines of tables.
use Rattle.std.specs.Prelude.{ℕ, List, [], ◌++◌, Bool, true, false, int_le, Option, None, Some, if◌then◌else◌, codes}
use Rattle.std.specs.Arc.{arc_str_bytes}
use Rattle.std.specs.List.{slice_get}
use Rattle.std.specs.Fmt.{decimal}
use Rattle.std.specs.declared.alloc.Global.{Global}
use Rattle.std.specs.declared.sync.ArcStr.{ArcStr}
use Rattle.json.specs.Print.{quoted}
use Rattle.serde_json.specs.Data.{array, boolean, number}
use Rattle.serde_json.specs.Find.{of_integer}
use Rattle.serde_json.specs.Written.{compact_text}
use Rattle.feel_value.specs.Datum.{Datum}
use Rattle.dmn_analysis.specs.Cells.{words_within}
use Rattle.dmn_analysis.specs.declared.cell.Cell.{Cell}
use Rattle.dmn_analysis.specs.declared.cell.Others.{Others}
use Rattle.dmn_analysis.specs.declared.cell.Others.TheVariants as others
use Rattle.dmn_analysis.specs.declared.cell.Words.{Words}
use Rattle.dmn_analysis.specs.declared.found.Overlaps.{Overlaps}
use Rattle.desk_checking.specs.Answering.{is_unique}
use Rattle.desk_checking.specs.TableTold.{answer_told, cells_told, undecided_told, values_told, word_before, words_told}
use Rattle.desk_checking.specs.Told.{numbers_told}
use Rattle.desk_checking.specs.declared.undecided.Undecided.{Undecided}

-- ---- the line of a table

abbrev pub known_text : Bool → List ℕ
known_text false = []
known_text true = codes ",\"comes\":true"

abbrev pub place_text : List ℕ → Bool → List ℕ
place_text p are_known = (codes "{\"table\":" ++ quoted p) ++ known_text are_known

-- up to the answers
abbrev pub head_text : List ℕ → Bool → (complete asked words : Option Bool) → List ℕ
head_text p are_known complete asked words =
    (((((place_text p are_known ++ codes ",\"complete\":") ++ compact_text (answer_told complete)) ++ codes ",\"asked\":") ++ compact_text (answer_told asked)) ++ codes ",\"words\":")
    ++ compact_text (answer_told words)

abbrev pub unique_text : Option Overlaps → List ℕ
unique_text None = []
unique_text (Some o) = codes ",\"unique\":" ++ compact_text (answer_told (is_unique o))

-- from the steps on
abbrev pub tail_text : ℕ → Undecided → List ℕ
tail_text steps u = (((codes ",\"steps\":" ++ decimal steps) ++ codes ",\"undecided\":") ++ compact_text (undecided_told u)) ++ codes "}\n"

-- ---- values of columns

abbrev pub flags_text : Cell → List ℕ
flags_text c =
    ((((((codes "{\"null\":" ++ compact_text (boolean c.null)) ++ codes ",\"true\":") ++ compact_text (boolean c.yes)) ++ codes ",\"false\":") ++ compact_text (boolean c.no)) ++ codes ",\"parted\":")
    ++ compact_text (boolean c.parted)

abbrev pub numbers_text : Cell → List ℕ
numbers_text c =
    if int_le c.low c.high then ((codes ",\"from\":" ++ compact_text (number (of_integer c.low))) ++ codes ",\"to\":") ++ compact_text (number (of_integer c.high)) else []

abbrev pub bound_text : List ℕ → Option (ArcStr Global) → List ℕ
bound_text key None = []
bound_text key (Some w) = key ++ quoted (arc_str_bytes w)

abbrev pub others_text : List (ArcStr Global) → Others → List ℕ
others_text words others.None = []
others_text words others.All = codes ",\"texts_but\":" ++ compact_text (array (words_told words))
others_text words (others.Between from to) =
    ((codes ",\"but\":" ++ compact_text (array (words_told (words_within words from to)))) ++ bound_text (codes ",\"above\":") (word_before words from))
    ++ bound_text (codes ",\"below\":") (slice_get words to)

-- ---- findings

abbrev pub begin_text : List ℕ → List ℕ → List ℕ
begin_text kind rules = ((codes "{\"finding\":" ++ quoted kind) ++ codes ",\"rules\":") ++ compact_text (array (numbers_told rules))

abbrev pub witness_text : List Words → List Datum → List Cell → List ℕ
witness_text words values cells = ((codes ",\"witness\":" ++ compact_text (array (values_told values))) ++ codes ",\"cells\":") ++ compact_text (array (cells_told words 0 cells))
