-- The lines of tables that are put together of pieces.
use Rattle.std.proofs.Common.{◌≡◌, ◌∙◌, ◌<◌, ℕ, suc, zero, Bool, true, false, List, [], ◌∷◌, ◌++◌, append_assoc, arith, codes, decimal, refl, ap, if◌then◌else◌, Option, Some, None}
use Rattle.std.specs.Prelude.{int_le}
use Rattle.std.specs.Arc.{arc_str_bytes}
use Rattle.std.specs.List.{flat_map, slice_get}
use Rattle.std.specs.declared.alloc.Global.{Global}
use Rattle.std.specs.declared.sync.ArcStr.{ArcStr}
use Rattle.json.specs.Print.{escape_byte, quoted}
use Rattle.serde_json.specs.Data.{Data, array, boolean, number, Members, no_members, member}
use Rattle.serde_json.specs.Find.{of_integer}
use Rattle.serde_json.specs.Written.{compact_text, members_text}
use Rattle.desk_lines.specs.Lines.{ended}
use Rattle.dmn_analysis.specs.Cells.{words_within}
use Rattle.dmn_analysis.specs.declared.cell.Cell.{Cell}
use Rattle.dmn_analysis.specs.declared.cell.Others.{Others}
use Rattle.dmn_analysis.specs.declared.cell.Others.TheVariants as others
use Rattle.dmn_analysis.specs.declared.cell.Words.{Words}
use Rattle.dmn_analysis.specs.declared.found.Gap.{Gap}
use Rattle.dmn_analysis.specs.declared.found.Mask.{Mask}
use Rattle.dmn_analysis.specs.declared.found.Overlap.{Overlap}
use Rattle.dmn_analysis.specs.declared.found.Overlaps.{Overlaps}
use Rattle.desk_checking.specs.Answering.{gaps_of_kinds, gaps_of_words, is_complete}
use Rattle.desk_checking.specs.TablePieces.{begin_text, bound_text, flags_text, head_text, known_text, numbers_text, place_text, others_text, tail_text, unique_text, witness_text}
use Rattle.desk_checking.specs.TableTold.{answer_told, bound_told, cell_told, cells_told, gap_line, have_others, known_told, mask_line, more_findings, never_line, numbers_of, others_told, overlap_line, table_line, undecided_told, unique_told, behind_unique, values_told, word_before, words_told}
use Rattle.desk_checking.specs.Told.{numbers_told}
use Rattle.desk_checking.specs.declared.answers.Answers.{Answers}
use Rattle.desk_checking.specs.declared.undecided.Undecided.{Undecided}

pub none_left : (cells : List Cell) → have_others cells [] ≡ false
none_left [] = refl
none_left (c ∷ cs) = refl

-- ---- pieces one after another

pub four_pieces : (t a b c d : List ℕ) → (((t ++ a) ++ b) ++ c) ++ d ≡ t ++ (((a ++ b) ++ c) ++ d)
four_pieces t a b c d = simp append_assoc

pub five_pieces : (t a b c d e : List ℕ) → ((((t ++ a) ++ b) ++ c) ++ d) ++ e ≡ t ++ ((((a ++ b) ++ c) ++ d) ++ e)
five_pieces t a b c d e = simp append_assoc

pub eight : (t a b c d e f g h : List ℕ) → (((((((t ++ a) ++ b) ++ c) ++ d) ++ e) ++ f) ++ g) ++ h ≡ t ++ (((((((a ++ b) ++ c) ++ d) ++ e) ++ f) ++ g) ++ h)
eight t a b c d e f g h = simp append_assoc

pub three_pieces : (t a b c : List ℕ) → ((t ++ a) ++ b) ++ c ≡ t ++ ((a ++ b) ++ c)
three_pieces t a b c = simp append_assoc

pub seven_pieces : (t a b c d e f g : List ℕ) → ((((((t ++ a) ++ b) ++ c) ++ d) ++ e) ++ f) ++ g ≡ t ++ ((((((a ++ b) ++ c) ++ d) ++ e) ++ f) ++ g)
seven_pieces t a b c d e f g = simp append_assoc

-- ---- the line of a table

undecided_shape : (t r o k i s : List ℕ)
    → ((((((((((t ++ codes "{\"rules\":") ++ r) ++ codes ",\"outputs\":") ++ o) ++ codes ",\"ranks\":") ++ k) ++ codes ",\"idle\":") ++ i) ++ codes ",\"steps\":") ++ s) ++ codes "}"
    ≡ t ++ 123 ∷ (quoted (codes "rules") ++ 58 ∷ (r ++ 44 ∷ (quoted (codes "outputs") ++ 58 ∷ (o ++ 44 ∷ (quoted (codes "ranks") ++ 58 ∷ (k ++ 44 ∷ (quoted (codes "idle") ++ 58 ∷ (i ++ 44 ∷ (quoted (codes "steps") ++ 58 ∷ (s ++ 125 ∷ []))))))))))
unfolding escape_byte
undecided_shape t r o k i s = simp append_assoc

pub undecided_pieces : (t : List ℕ) (u : Undecided)
    → ((((((((((t ++ codes "{\"rules\":") ++ compact_text (array (numbers_told u.rules.items))) ++ codes ",\"outputs\":") ++ compact_text (array (numbers_told u.outputs.items))) ++ codes ",\"ranks\":")
    ++ compact_text (array (numbers_told u.ranks.items))) ++ codes ",\"idle\":") ++ compact_text (array (numbers_told u.idle.items))) ++ codes ",\"steps\":") ++ compact_text (boolean u.steps)) ++ codes "}"
    ≡ t ++ compact_text (undecided_told u)
undecided_pieces t u =
    undecided_shape t (compact_text (array (numbers_told u.rules.items))) (compact_text (array (numbers_told u.outputs.items))) (compact_text (array (numbers_told u.ranks.items)))
    (compact_text (array (numbers_told u.idle.items))) (compact_text (boolean u.steps))

answers_shape : (t p c a w m n : List ℕ)
    → (t ++ ((((((p ++ codes ",\"complete\":") ++ c) ++ codes ",\"asked\":") ++ a) ++ codes ",\"words\":") ++ w)) ++ (m ++ n)
    ≡ (t ++ p) ++ ((44 ∷ (quoted (codes "complete") ++ 58 ∷ (c ++ 44 ∷ (quoted (codes "asked") ++ 58 ∷ (a ++ 44 ∷ (quoted (codes "words") ++ 58 ∷ (w ++ m))))))) ++ n)
unfolding escape_byte
answers_shape t p c a w m n = simp append_assoc

known_shape : (m n : List ℕ) → codes ",\"comes\":true" ++ (m ++ n) ≡ (44 ∷ (quoted (codes "comes") ++ 58 ∷ (codes "true" ++ m))) ++ n
unfolding escape_byte
known_shape m n = simp append_assoc

known_is : (b : Bool) (ms : Members) (n : List ℕ) → known_text b ++ (members_text true ms ++ n) ≡ members_text true (known_told b ms) ++ n
known_is false ms n = refl
known_is true ms n = known_shape (members_text true ms) n

place_behind : (t a b c : List ℕ) → (t ++ (a ++ b)) ++ c ≡ (t ++ a) ++ (b ++ c)
place_behind t a b c = simp append_assoc

line_shape : (t p m : List ℕ) → (t ++ (codes "{\"table\":" ++ p)) ++ (m ++ codes "\n") ≡ t ++ ended (123 ∷ (quoted (codes "table") ++ 58 ∷ (p ++ m)))
unfolding escape_byte
line_shape t p m = simp append_assoc

tail_shape : (n u : List ℕ) → (((codes ",\"steps\":" ++ n) ++ codes ",\"undecided\":") ++ u) ++ codes "}\n"
    ≡ (44 ∷ (quoted (codes "steps") ++ 58 ∷ (n ++ 44 ∷ (quoted (codes "undecided") ++ 58 ∷ (u ++ 125 ∷ []))))) ++ codes "\n"
unfolding escape_byte
tail_shape n u = simp append_assoc

tail_is : (steps : ℕ) (u : Undecided) → tail_text steps u ≡ members_text true (behind_unique steps u) ++ codes "\n"
tail_is steps u = tail_shape (decimal steps) (compact_text (undecided_told u))

unique_shape : (a m n : List ℕ) → (codes ",\"unique\":" ++ a) ++ (m ++ n) ≡ (44 ∷ (quoted (codes "unique") ++ 58 ∷ (a ++ m))) ++ n
unfolding escape_byte
unique_shape a m n = simp append_assoc

unique_is : (o : Option Overlaps) (ms : Members) (n : List ℕ) → unique_text o ++ (members_text true ms ++ n) ≡ members_text true (unique_told o ms) ++ n
unique_is None ms n = refl
unique_is (Some o) ms n = unique_shape _ (members_text true ms) n

pub table_pieces : (t p : List ℕ) (a : Answers) (steps : ℕ) (u : Undecided)
    → ((t ++ head_text p a.are_known (is_complete a.every) (is_complete (gaps_of_kinds a)) (is_complete (gaps_of_words a))) ++ unique_text a.overlaps) ++ tail_text steps u ≡ t ++ ended (table_line p a steps u)
table_pieces t p a steps u =
    let complete = answer_told (is_complete a.every) in
    let asked = answer_told (is_complete (gaps_of_kinds a)) in
    let words = answer_told (is_complete (gaps_of_words a)) in
    let head = head_text p a.are_known (is_complete a.every) (is_complete (gaps_of_kinds a)) (is_complete (gaps_of_words a)) in
    let rest = unique_told a.overlaps (behind_unique steps u) in
    let answers = member (codes "complete") complete (member (codes "asked") asked (member (codes "words") words rest)) in
    append_assoc (t ++ head) (unique_text a.overlaps) (tail_text steps u)
    ∙ ap (λ s. (t ++ head) ++ s) (ap (λ s. unique_text a.overlaps ++ s) (tail_is steps u) ∙ unique_is a.overlaps (behind_unique steps u) (codes "\n"))
    ∙ answers_shape t (place_text p a.are_known) (compact_text complete) (compact_text asked) (compact_text words) (members_text true rest) (codes "\n")
    ∙ place_behind t (codes "{\"table\":" ++ quoted p) (known_text a.are_known) (members_text true answers ++ codes "\n")
    ∙ ap (λ s. (t ++ (codes "{\"table\":" ++ quoted p)) ++ s) (known_is a.are_known answers (codes "\n"))
    ∙ line_shape t (quoted p) (members_text true (known_told a.are_known answers))

-- ---- values of columns

cell_shape : (n y f p : List ℕ) (m : List ℕ)
    → (((((((codes "{\"null\":" ++ n) ++ codes ",\"true\":") ++ y) ++ codes ",\"false\":") ++ f) ++ codes ",\"parted\":") ++ p) ++ m
    ≡ 123 ∷ (quoted (codes "null") ++ 58 ∷ (n ++ 44 ∷ (quoted (codes "true") ++ 58 ∷ (y ++ 44 ∷ (quoted (codes "false") ++ 58 ∷ (f ++ 44 ∷ (quoted (codes "parted") ++ 58 ∷ (p ++ m))))))))
unfolding escape_byte
cell_shape n y f p m = simp append_assoc

bounds_shape : (l h m : List ℕ) → (((codes ",\"from\":" ++ l) ++ codes ",\"to\":") ++ h) ++ m ≡ 44 ∷ (quoted (codes "from") ++ 58 ∷ (l ++ 44 ∷ (quoted (codes "to") ++ 58 ∷ (h ++ m))))
unfolding escape_byte
bounds_shape l h m = simp append_assoc

numbers_by : (b : Bool) (l h : Data) (m : Members)
    → (if b then ((codes ",\"from\":" ++ compact_text l) ++ codes ",\"to\":") ++ compact_text h else []) ++ members_text true m
    ≡ members_text true (if b then member (codes "from") l (member (codes "to") h m) else m)
numbers_by true l h m = bounds_shape (compact_text l) (compact_text h) (members_text true m)
numbers_by false l h m = refl

above_shape : (w m : List ℕ) → (codes ",\"above\":" ++ w) ++ m ≡ 44 ∷ (quoted (codes "above") ++ 58 ∷ (w ++ m))
unfolding escape_byte
above_shape w m = simp append_assoc

below_shape : (w m : List ℕ) → (codes ",\"below\":" ++ w) ++ m ≡ 44 ∷ (quoted (codes "below") ++ 58 ∷ (w ++ m))
unfolding escape_byte
below_shape w m = simp append_assoc

above_is : (o : Option (ArcStr Global)) (ms : Members) → bound_text (codes ",\"above\":") o ++ members_text true ms ≡ members_text true (bound_told (codes "above") o ms)
above_is None ms = refl
above_is (Some w) ms = above_shape (quoted (arc_str_bytes w)) (members_text true ms)

below_is : (o : Option (ArcStr Global)) (ms : Members) → bound_text (codes ",\"below\":") o ++ members_text true ms ≡ members_text true (bound_told (codes "below") o ms)
below_is None ms = refl
below_is (Some w) ms = below_shape (quoted (arc_str_bytes w)) (members_text true ms)

but_shape : (w a b e : List ℕ) → (((codes ",\"but\":" ++ w) ++ a) ++ b) ++ e ≡ 44 ∷ (quoted (codes "but") ++ 58 ∷ (w ++ (a ++ (b ++ e))))
unfolding escape_byte
but_shape w a b e = simp append_assoc

texts_but_shape : (w e : List ℕ) → (codes ",\"texts_but\":" ++ w) ++ e ≡ 44 ∷ (quoted (codes "texts_but") ++ 58 ∷ (w ++ e))
unfolding escape_byte
texts_but_shape w e = simp append_assoc

others_is : (words : List (ArcStr Global)) (o : Others) → others_text words o ++ codes "}" ≡ members_text true (others_told words o)
others_is words others.None = refl
others_is words others.All = texts_but_shape (compact_text (array (words_told words))) (codes "}")
others_is words (others.Between from to) =
    let w = compact_text (array (words_told (words_within words from to))) in
    but_shape w (bound_text (codes ",\"above\":") (word_before words from)) (bound_text (codes ",\"below\":") (slice_get words to)) (codes "}")
    ∙ ap (λ s. 44 ∷ (quoted (codes "but") ++ 58 ∷ (w ++ s)))
    (ap (λ s. bound_text (codes ",\"above\":") (word_before words from) ++ s) (below_is (slice_get words to) no_members)
    ∙ above_is (word_before words from) (bound_told (codes "below") (slice_get words to) no_members))

texts_shape : (w m : List ℕ) → codes ",\"texts\":" ++ (w ++ m) ≡ 44 ∷ (quoted (codes "texts") ++ 58 ∷ (w ++ m))
unfolding escape_byte
texts_shape w m = simp append_assoc

regrouped : (t a b c d e f : List ℕ) → (((((t ++ a) ++ b) ++ c) ++ d) ++ e) ++ f ≡ t ++ (a ++ (b ++ (c ++ (d ++ (e ++ f)))))
regrouped t a b c d e f = simp append_assoc

pub cell_pieces : (t : List ℕ) (words : List (ArcStr Global)) (c : Cell)
    → (((((t ++ flags_text c) ++ numbers_text c) ++ codes ",\"texts\":") ++ compact_text (array (words_told (words_within words c.from c.to)))) ++ others_text words c.others) ++ codes "}"
    ≡ t ++ compact_text (cell_told words c)
cell_pieces t words c =
    let w = compact_text (array (words_told (words_within words c.from c.to))) in
    let rest = member (codes "texts") (array (words_told (words_within words c.from c.to))) (others_told words c.others) in
    regrouped t (flags_text c) (numbers_text c) (codes ",\"texts\":") w (others_text words c.others) (codes "}")
    ∙ ap (λ s. t ++ s)
    (ap (λ s. flags_text c ++ s)
    (ap (λ s. numbers_text c ++ s) (ap (λ s. codes ",\"texts\":" ++ (w ++ s)) (others_is words c.others) ∙ texts_shape w (members_text true (others_told words c.others)))
    ∙ numbers_by (int_le c.low c.high) (number (of_integer c.low)) (number (of_integer c.high)) rest)
    ∙ cell_shape (compact_text (boolean c.null)) (compact_text (boolean c.yes)) (compact_text (boolean c.no)) (compact_text (boolean c.parted)) (members_text true (numbers_of c rest)))

-- ---- findings

begin_shape : (t k r m n : List ℕ) → (t ++ (((codes "{\"finding\":" ++ k) ++ codes ",\"rules\":") ++ r)) ++ (m ++ n)
    ≡ t ++ ((123 ∷ (quoted (codes "finding") ++ 58 ∷ (k ++ 44 ∷ (quoted (codes "rules") ++ 58 ∷ (r ++ m))))) ++ n)
unfolding escape_byte
begin_shape t k r m n = simp append_assoc

witness_shape : (v c m n : List ℕ) → (((codes ",\"witness\":" ++ v) ++ codes ",\"cells\":") ++ c) ++ (m ++ n)
    ≡ (44 ∷ (quoted (codes "witness") ++ 58 ∷ (v ++ 44 ∷ (quoted (codes "cells") ++ 58 ∷ (c ++ m))))) ++ n
unfolding escape_byte
witness_shape v c m n = simp append_assoc

asked_shape : (b : List ℕ) → (codes ",\"asked\":" ++ b) ++ codes "}\n" ≡ (44 ∷ (quoted (codes "asked") ++ 58 ∷ (b ++ 125 ∷ []))) ++ codes "\n"
unfolding escape_byte
asked_shape b = simp append_assoc

before_shape : (r : List ℕ) → (codes ",\"before\":" ++ r) ++ codes "}\n" ≡ (44 ∷ (quoted (codes "before") ++ 58 ∷ (r ++ 125 ∷ []))) ++ codes "\n"
unfolding escape_byte
before_shape r = simp append_assoc

five_behind : (t a b c d e : List ℕ) → ((((t ++ a) ++ b) ++ c) ++ d) ++ e ≡ (t ++ a) ++ (b ++ ((c ++ d) ++ e))
five_behind t a b c d e = simp append_assoc

three_behind : (t a c d e : List ℕ) → (((t ++ a) ++ c) ++ d) ++ e ≡ (t ++ a) ++ ((c ++ d) ++ e)
three_behind t a c d e = simp append_assoc

pub gap_pieces : (t : List ℕ) (words : List Words) (is : Bool) (g : Gap)
    → ((((t ++ begin_text (codes "gap") []) ++ witness_text words g.values.items g.cells.items) ++ codes ",\"asked\":") ++ compact_text (boolean is)) ++ codes "}\n" ≡ t ++ ended (gap_line words is g)
gap_pieces t words is g =
    let v = compact_text (array (values_told g.values.items)) in
    let c = compact_text (array (cells_told words 0 g.cells.items)) in
    let m = members_text true (member (codes "asked") (boolean is) no_members) in
    five_behind t (begin_text (codes "gap") []) (witness_text words g.values.items g.cells.items) (codes ",\"asked\":") (compact_text (boolean is)) (codes "}\n")
    ∙ ap (λ s. (t ++ begin_text (codes "gap") []) ++ s)
    (ap (λ s. witness_text words g.values.items g.cells.items ++ s) (asked_shape (compact_text (boolean is))) ∙ witness_shape v c m (codes "\n"))
    ∙ begin_shape t (quoted (codes "gap")) (compact_text (array (numbers_told []))) (44 ∷ (quoted (codes "witness") ++ 58 ∷ (v ++ 44 ∷ (quoted (codes "cells") ++ 58 ∷ (c ++ m))))) (codes "\n")

pub overlap_pieces : (t : List ℕ) (words : List Words) (o : Overlap)
    → ((t ++ begin_text (codes "overlap") (o.first ∷ o.second ∷ [])) ++ witness_text words o.values.items o.cells.items) ++ codes "}\n" ≡ t ++ ended (overlap_line words o)
overlap_pieces t words o =
    let v = compact_text (array (values_told o.values.items)) in
    let c = compact_text (array (cells_told words 0 o.cells.items)) in
    let start = begin_text (codes "overlap") (o.first ∷ o.second ∷ []) in
    append_assoc (t ++ start) (witness_text words o.values.items o.cells.items) (codes "}\n")
    ∙ ap (λ s. (t ++ start) ++ s) (witness_shape v c (125 ∷ []) (codes "\n"))
    ∙ begin_shape t (quoted (codes "overlap")) (compact_text (array (numbers_told (o.first ∷ o.second ∷ [])))) (44 ∷ (quoted (codes "witness") ++ 58 ∷ (v ++ 44 ∷ (quoted (codes "cells") ++ 58 ∷ (c ++ 125 ∷ []))))) (codes "\n")

pub never_pieces : (t : List ℕ) (rule : ℕ) → (t ++ begin_text (codes "never") (rule ∷ [])) ++ codes "}\n" ≡ t ++ ended (never_line rule)
never_pieces t rule = begin_shape t (quoted (codes "never")) (compact_text (array (numbers_told (rule ∷ [])))) (125 ∷ []) (codes "\n")

pub mask_pieces : (t : List ℕ) (m : Mask)
    → (((t ++ begin_text (codes "masked") (m.rule ∷ [])) ++ codes ",\"before\":") ++ compact_text (array (numbers_told m.behind.items))) ++ codes "}\n" ≡ t ++ ended (mask_line m)
mask_pieces t m =
    let r = compact_text (array (numbers_told m.behind.items)) in
    let start = begin_text (codes "masked") (m.rule ∷ []) in
    three_behind t start (codes ",\"before\":") r (codes "}\n") ∙ ap (λ s. (t ++ start) ++ s) (before_shape r)
    ∙ begin_shape t (quoted (codes "masked")) (compact_text (array (numbers_told (m.rule ∷ [])))) (44 ∷ (quoted (codes "before") ++ 58 ∷ (r ++ 125 ∷ []))) (codes "\n")

more_shape : (t k n : List ℕ) → ((((t ++ codes "{\"finding\":") ++ k) ++ codes ",\"more\":") ++ n) ++ codes "}\n"
    ≡ t ++ (ended (123 ∷ (quoted (codes "finding") ++ 58 ∷ (k ++ 44 ∷ (quoted (codes "more") ++ 58 ∷ (n ++ 125 ∷ []))))) ++ [])
unfolding escape_byte
more_shape t k n = simp append_assoc

pub more_pieces : (t kind : List ℕ) (n : ℕ) → 0 < n → ((((t ++ codes "{\"finding\":") ++ quoted kind) ++ codes ",\"more\":") ++ decimal n) ++ codes "}\n" ≡ t ++ flat_map ended (more_findings kind n)
more_pieces t kind zero h = absurd (omega arith)
more_pieces t kind (suc n) h = more_shape t (quoted kind) (decimal (suc n))
