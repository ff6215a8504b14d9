-- The lines that `check` writes of a decision table.
use Rattle.std.specs.Prelude.{ℕ, ◌+◌, ◌-◌, zero, suc, min, List, [], ◌∷◌, ◌++◌, length, map, take, Bool, true, false, not, ◌&&◌, ◌||◌, nat_lt, int_le, Option, None, Some, if◌then◌else◌, codes}
use Rattle.std.specs.Arc.{arc_str_bytes}
use Rattle.std.specs.List.{filter, flat_map, slice_get}
use Rattle.std.specs.declared.alloc.Global.{Global}
use Rattle.std.specs.declared.sync.ArcStr.{ArcStr}
use Rattle.serde_json.specs.Data.{Data, null, boolean, number, string, array, object, Items, no_items, item, Members, no_members, member}
use Rattle.serde_json.specs.Find.{of_integer}
use Rattle.feel_value.specs.Datum.{Datum}
use Rattle.feel_value.specs.Json.{json_of}
use Rattle.dmn_analysis.specs.Cells.{words_within}
use Rattle.dmn_analysis.specs.declared.asked.Asked.{Asked}
use Rattle.dmn_analysis.specs.declared.asked.Numbers.{Numbers}
use Rattle.dmn_analysis.specs.declared.asked.Numbers.TheVariants as numbers
use Rattle.dmn_analysis.specs.declared.asked.Texts.{Texts}
use Rattle.dmn_analysis.specs.declared.asked.Texts.TheVariants as texts
use Rattle.dmn_analysis.specs.declared.cell.Cell.{Cell}
use Rattle.dmn_analysis.specs.declared.cell.Others.{Others}
use Rattle.dmn_analysis.specs.declared.cell.Others.TheVariants as others
use Rattle.dmn_analysis.specs.declared.cell.Words.{Words}
use Rattle.dmn_analysis.specs.declared.found.Gap.{Gap}
use Rattle.dmn_analysis.specs.declared.found.Gaps.{Gaps}
use Rattle.dmn_analysis.specs.declared.found.Mask.{Mask}
use Rattle.dmn_analysis.specs.declared.found.Masks.{Masks}
use Rattle.dmn_analysis.specs.declared.found.Overlap.{Overlap}
use Rattle.dmn_analysis.specs.declared.found.Overlaps.{Overlaps}
use Rattle.desk_checking.specs.Answering.{gaps_of_kinds, gaps_of_words, is_complete, is_unique}
use Rattle.desk_checking.specs.Told.{line_of, number_told, numbers_told}
use Rattle.desk_checking.specs.declared.answers.Answers.{Answers}
use Rattle.desk_checking.specs.declared.undecided.Undecided.{Undecided}

-- the most findings of a kind that are told of a table
abbrev pub most_findings : ℕ
most_findings = 100

-- ---- the line of a table

-- null where it wasn't decided
abbrev pub answer_told : Option Bool → Data
answer_told None = null
answer_told (Some b) = boolean b

-- whether no two rules hit, where that counts
abbrev pub unique_told : Option Overlaps → Members → Members
unique_told None ms = ms
unique_told (Some o) ms = member (codes "unique") (answer_told (is_unique o)) ms

abbrev pub undecided_told : Undecided → Data
undecided_told u =
    object (member (codes "rules") (array (numbers_told u.rules.items)) (member (codes "outputs") (array (numbers_told u.outputs.items))
    (member (codes "ranks") (array (numbers_told u.ranks.items)) (member (codes "idle") (array (numbers_told u.idle.items))
    (member (codes "steps") (boolean u.steps) no_members)))))

-- what wasn't decided, behind the steps that were taken
abbrev pub behind_unique : ℕ → Undecided → Members
behind_unique steps u = member (codes "steps") (number_told steps) (member (codes "undecided") (undecided_told u) no_members)

-- whether it is known what comes to the table, where that is so
abbrev pub known_told : Bool → Members → Members
known_told false ms = ms
known_told true ms = member (codes "comes") (boolean true) ms

-- `{"table":P,"complete":A,"asked":A,"words":A,"unique":A,"steps":n,"undecided":{..}}`: whether the table is complete for every value, for
-- those of the kinds that are asked about, and for the words. With `"comes":true` behind the table's place all are for what comes to it.
abbrev pub table_line : List ℕ → Answers → ℕ → Undecided → List ℕ
table_line pointer a steps u =
    line_of (member (codes "table") (string pointer) (known_told a.are_known (member (codes "complete") (answer_told (is_complete a.every))
    (member (codes "asked") (answer_told (is_complete (gaps_of_kinds a)))
    (member (codes "words") (answer_told (is_complete (gaps_of_words a))) (unique_told a.overlaps (behind_unique steps u)))))))

-- ---- values of columns

abbrev pub words_told : List (ArcStr Global) → Items
words_told [] = no_items
words_told (w ∷ ws) = item (string (arc_str_bytes w)) (words_told ws)

-- the word at a place, if there is one
abbrev pub bound_told : List ℕ → Option (ArcStr Global) → Members → Members
bound_told k None ms = ms
bound_told k (Some w) ms = member k (string (arc_str_bytes w)) ms

-- the word before a place
abbrev pub word_before : List (ArcStr Global) → ℕ → Option (ArcStr Global)
word_before words zero = None
word_before words (suc n) = slice_get words n

-- Which of the texts are that are no word of the column: none; all but the words; or those between two words, but for those that stand
-- between them.
abbrev pub others_told : List (ArcStr Global) → Others → Members
others_told words others.None = no_members
others_told words others.All = member (codes "texts_but") (array (words_told words)) no_members
others_told words (others.Between from to) =
    member (codes "but") (array (words_told (words_within words from to)))
    (bound_told (codes "above") (word_before words from) (bound_told (codes "below") (slice_get words to) no_members))

-- the lowest and the highest of the numbers, where there are some
abbrev pub numbers_of : Cell → Members → Members
numbers_of c ms = if int_le c.low c.high then member (codes "from") (number (of_integer c.low)) (member (codes "to") (number (of_integer c.high)) ms) else ms

-- the values of a cell, in a column of these words
abbrev pub cell_told : List (ArcStr Global) → Cell → Data
cell_told words c =
    object (member (codes "null") (boolean c.null) (member (codes "true") (boolean c.yes) (member (codes "false") (boolean c.no) (member (codes "parted") (boolean c.parted)
    (numbers_of c (member (codes "texts") (array (words_told (words_within words c.from c.to))) (others_told words c.others)))))))

abbrev pub texts_of : Option Words → List (ArcStr Global)
texts_of None = []
texts_of (Some w) = w.texts.items

-- one of each column, from this one on
abbrev pub cells_told : List Words → ℕ → List Cell → Items
cells_told words k [] = no_items
cells_told words k (c ∷ cs) = item (cell_told (texts_of (slice_get words k)) c) (cells_told words (k + 1) cs)

abbrev pub values_told : List Datum → Items
values_told [] = no_items
values_told (v ∷ vs) = item (json_of v) (values_told vs)

-- ---- the lines of findings

-- `{"finding":K,"rules":[..],..}`
abbrev pub finding_line : List ℕ → List ℕ → Members → List ℕ
finding_line kind rules ms = line_of (member (codes "finding") (string kind) (member (codes "rules") (array (numbers_told rules)) ms))

-- values, and cells that they are of
abbrev pub witness_told : List Words → List Datum → List Cell → Members → Members
witness_told words values cells ms = member (codes "witness") (array (values_told values)) (member (codes "cells") (array (cells_told words 0 cells)) ms)

abbrev pub gap_line : List Words → Bool → Gap → List ℕ
gap_line words is_asked g = finding_line (codes "gap") [] (witness_told words g.values.items g.cells.items (member (codes "asked") (boolean is_asked) no_members))

abbrev pub overlap_line : List Words → Overlap → List ℕ
overlap_line words o = finding_line (codes "overlap") (o.first ∷ o.second ∷ []) (witness_told words o.values.items o.cells.items no_members)

abbrev pub never_line : ℕ → List ℕ
never_line rule = finding_line (codes "never") (rule ∷ []) no_members

abbrev pub mask_line : Mask → List ℕ
mask_line m = finding_line (codes "masked") (m.rule ∷ []) (member (codes "before") (array (numbers_told m.behind.items)) no_members)

-- `{"finding":K,"more":n}`: how many findings of a kind aren't told, where some aren't
abbrev pub more_findings : List ℕ → ℕ → List (List ℕ)
more_findings kind zero = []
more_findings kind (suc n) = line_of (member (codes "finding") (string kind) (member (codes "more") (number_told (suc n)) no_members)) ∷ []

-- a sum, or the largest number that there is where it is larger
abbrev pub sum_of : ℕ → ℕ → ℕ
sum_of a b = min (a + b) 18446744073709551615

-- ---- which findings are told

abbrev pub line_if : List Words → Option Overlap → List (List ℕ)
line_if words None = []
line_if words (Some o) = overlap_line words o ∷ []

-- the overlaps at these places, which are against the hit policy
abbrev pub overlap_lines : Option Overlaps → List ℕ → List (List ℕ)
overlap_lines None places = []
overlap_lines (Some o) places =
    flat_map (λ place. line_if o.words.items (slice_get o.found.items place)) (take most_findings places)
    ++ more_findings (codes "overlap") (sum_of (length places - most_findings) o.more)

abbrev pub gap_lines : Gaps → List (List ℕ)
gap_lines g = map (gap_line g.words.items true) (take most_findings g.found.items) ++ more_findings (codes "gap") g.more

abbrev pub is_other : Others → Bool
is_other others.None = false
is_other o = true

abbrev pub asks_numbers : Numbers → Bool
asks_numbers numbers.None = false
asks_numbers ns = true

abbrev pub asks_texts : Texts → Bool
asks_texts texts.None = false
asks_texts t = true

-- whether a cell has values of other kinds than those that are asked about
abbrev pub has_others : Cell → Asked → Bool
has_others c a =
    (((c.null && not a.null) || ((c.yes || c.no) && not a.truths)) || (int_le c.low c.high && not (asks_numbers a.numbers)))
    || (((nat_lt c.from c.to || is_other c.others) && not (asks_texts a.texts)) || (c.parted && not a.parted))

abbrev pub have_others : List Cell → List Asked → Bool
have_others [] kinds = false
have_others (c ∷ cs) [] = false
have_others (c ∷ cs) (a ∷ kinds) = has_others c a || have_others cs kinds

-- the gaps that were found first and don't lie among the kinds that are asked about
abbrev pub other_gaps : Answers → List Gap
other_gaps a = filter (λ (g : Gap). have_others g.cells.items a.kinds.items) a.every.found.items

-- how many of these may be told behind the others
abbrev pub room_left : Answers → ℕ
room_left a = most_findings - length (gaps_of_kinds a).found.items

abbrev pub more_others : Option Gaps → ℕ → ℕ → ℕ
more_others None untold more = untold
more_others (Some g) untold more = sum_of untold more

abbrev pub other_lines : Answers → List (List ℕ)
other_lines a =
    map (gap_line a.every.words.items false) (take (room_left a) (other_gaps a))
    ++ more_findings (codes "other gap") (more_others a.of_kinds (length (other_gaps a) - room_left a) a.every.more)

abbrev pub never_lines : List ℕ → List (List ℕ)
never_lines rules = map never_line (take most_findings rules) ++ more_findings (codes "never") (length rules - most_findings)

abbrev pub mask_lines : Option Masks → List (List ℕ)
mask_lines None = []
mask_lines (Some m) = map mask_line (take most_findings m.found.items) ++ more_findings (codes "masked") (length m.found.items - most_findings)

-- the line of a table, and those of its findings: overlaps, gaps among the kinds that are asked about and other gaps, rules that never hit
-- and masked ones
abbrev pub table_lines : List ℕ → Answers → ℕ → Undecided → List (List ℕ)
table_lines pointer a steps u =
    (((((table_line pointer a steps u ∷ []) ++ overlap_lines a.overlaps a.faults.places.items) ++ gap_lines (gaps_of_kinds a)) ++ other_lines a)
    ++ never_lines a.never.items) ++ mask_lines a.masks
