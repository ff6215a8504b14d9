-- Internal: no public contract cites these words. What a search through the cells of a table knows.
use Rattle.std.specs.Prelude.{◌≡◌, ◌≢◌, ◌⊎◌, ◌<◌, ⊤, ℕ, List, [], length, map, Bool, true, false, Some}
use Rattle.std.specs.List.{slice_get, All}
use Rattle.feel_value.specs.Datum.{Datum}
use Rattle.feel_value.specs.Limits.{is_value}
use Rattle.feel_value.specs.declared.logic.Truth.TheVariants.{Yes}
use Rattle.feel_text.specs.Meaning.{Bindings}
use Rattle.feel_text.specs.Satisfied.{Answer, Told, satisfied}
use Rattle.feel_text.specs.Tests.{Tests}
use Rattle.dmn_table.specs.Hits.{does_hit}
use Rattle.dmn_table.specs.Table.{Rule}
use Rattle.dmn_analysis.specs.Cells.{AllInOrder, AreIn, AreInOrder, is_in}
use Rattle.dmn_analysis.specs.Constant.{AreConstant}
use Rattle.dmn_analysis.specs.Cutting.{AreHalves}
use Rattle.dmn_analysis.specs.declared.cell.Cell.{Cell}
use Rattle.dmn_analysis.specs.declared.cell.Words.{Words}
use Rattle.dmn_analysis.specs.declared.gaps.Bare.{Bare}
use Rattle.dmn_analysis.specs.declared.gaps.Chosen.{Chosen}
use Rattle.dmn_analysis.specs.declared.gaps.Chosen.TheVariants as does
use Rattle.dmn_analysis.specs.declared.gaps.Pending.{Pending}
use Rattle.dmn_analysis.specs.declared.gaps.Search.{Search}
use Rattle.dmn_analysis.specs.declared.searching.Outlook.{Outlook}
use Rattle.dmn_analysis.specs.declared.searching.Outlook.TheVariants as outlook
use Rattle.dmn_analysis.specs.declared.searching.Unsure.{Unsure}

-- the answer is that the tests are met, or it is any other
abbrev pub Settles : Bool → Answer → Type 0
Settles true a = a ≡ Told Yes
Settles false a = a ≢ Told Yes

-- that of each value of a cell, where the words are in order
abbrev pub SettlesIn : Bool → Words → Cell → Tests → Type 0
SettlesIn met words cell tests = AreInOrder words.texts.items → (v : Datum) (m : Bindings) → is_in words.texts.items cell v ≡ true → Settles met (satisfied tests v m)

-- the rule hits for all values of the cells, whatever the names stand for, where the words are in order
abbrev pub MustHit : List Words → List Cell → Rule → Type 0
MustHit words cells rule = AllInOrder words → (m : Bindings) (values : List Datum) → length values ≡ length cells → AreIn words cells values → does_hit m values rule ≡ Some true

-- it does for none
abbrev pub CannotHit : List Words → List Cell → Rule → Type 0
CannotHit words cells rule = AllInOrder words → (m : Bindings) (values : List Datum) → length values ≡ length cells → AreIn words cells values → does_hit m values rule ≢ Some true

-- one of these numbers
pub record IsAmong (xs : List ℕ) (x : ℕ) : Type 0 where
  pub place : ℕ
  pub there : slice_get xs place ≡ Some x

-- ---- a search

-- what is searched: whether for values of these cells, for which the chosen rule hits, if there is one of that number, one of some
-- rules does
pub record Scene : Type 0 where
  pub words : List Words
  pub rules : List Rule
  pub chosen : ℕ
  pub first : List ℕ
  pub whole : List Cell

-- the rules that are left are some of those, and each of the others hits for no values of the cells
pub record AreLeft (s : Scene) (cells : List Cell) (left : List ℕ) : Type 0 where
  pub among : All (IsAmong s.first) left
  pub others : (r : ℕ) (rule : Rule) → IsAmong s.first r → slice_get s.rules r ≡ Some rule → IsAmong left r ⊎ CannotHit s.words cells rule

-- a rule that is left, and hits for all values of the cells
pub record IsSure (words : List Words) (rules : List Rule) (cells : List Cell) (left : List ℕ) (r : ℕ) : Type 0 where
  pub among : IsAmong left r
  pub rule : Rule
  pub there : slice_get rules r ≡ Some rule
  pub must : MustHit words cells rule

-- an entry of one of the rules, in a column that has a cell
pub record HasEntry (rules : List Rule) (cells : List Cell) (unsure : Unsure) : Type 0 where
  pub rule : Rule
  pub there : slice_get rules unsure.rule ≡ Some rule
  pub entry : unsure.place < length rule.tests
  pub cell : unsure.place < length cells

-- no rule is left, one that is left hits for all values of the cells, or of one that is left it isn't known
abbrev pub TellsOutlook : List Words → List Rule → List Cell → List ℕ → Outlook → Type 0
TellsOutlook words rules cells left outlook.Nothing = left ≡ []
TellsOutlook words rules cells left (outlook.Sure r) = IsSure words rules cells left r
TellsOutlook words rules cells left (outlook.Unsure unsure) = HasEntry rules cells unsure

-- cells that are still to be looked at
pub record IsPending (s : Scene) (pending : Pending) : Type 0 where
  pub long : length pending.cells.items ≡ length s.whole
  pub left : AreLeft s pending.cells.items pending.left.items

-- cells for whose values none of the rules hits
pub record AreBare (s : Scene) (cells : List Cell) : Type 0 where
  pub long : length cells ≡ length s.whole
  pub none : (r : ℕ) (rule : Rule) → IsAmong s.first r → slice_get s.rules r ≡ Some rule → CannotHit s.words cells rule

abbrev pub IsBare : Scene → Bare → Type 0
IsBare s bare = AreBare s bare.cells.items

-- one of the rules hits
pub record HasHitOf (s : Scene) (m : Bindings) (values : List Datum) : Type 0 where
  pub number : ℕ
  pub among : IsAmong s.first number
  pub rule : Rule
  pub there : slice_get s.rules number ≡ Some rule
  pub hits : does_hit m values rule ≡ Some true

abbrev pub ChosenHits : Scene → Bindings → List Datum → Type 0
ChosenHits s m values = (rule : Rule) → slice_get s.rules s.chosen ≡ Some rule → does_hit m values rule ≡ Some true

-- the values are in one of several lists of cells
pub record IsInSome (words : List Words) (all : List (List Cell)) (values : List Datum) : Type 0 where
  pub place : ℕ
  pub cells : List Cell
  pub there : slice_get all place ≡ Some cells
  pub inside : AreIn words cells values

abbrev pub cells_of : List Pending → List (List Cell)
cells_of pending = map (λ (p : Pending). p.cells.items) pending

abbrev pub bare_cells : Search → List (List Cell)
bare_cells search = map (λ (b : Bare). b.cells.items) search.bare.items

-- one of the rules hits, or the values are in cells of which the search knows
abbrev pub IsTold : Scene → Search → Bindings → List Datum → Type 0
IsTold s search m values = HasHitOf s m values ⊎ (IsInSome s.words (bare_cells search) values ⊎ IsInSome s.words (cells_of search.pending.items) values)

-- values that are searched
pub record IsSearched (s : Scene) (m : Bindings) (values : List Datum) : Type 0 where
  pub long : length values ≡ length s.whole
  pub lawful : All (λ v. is_value v ≡ true) values
  pub inside : AreIn s.words s.whole values
  pub chosen : ChosenHits s m values

-- what a search knows, unless it met rules of which it doesn't know whether they hit
pub record Knows (s : Scene) (search : Search) : Type 0 where
  pub pending : All (IsPending s) search.pending.items
  pub bare : All (IsBare s) search.bare.items
  pub parted : search.open.items ≡ [] → (m : Bindings) (values : List Datum) → IsSearched s m values → IsTold s search m values

-- the same but for values of some cells
pub record KnowsBut (s : Scene) (cells : List Cell) (search : Search) : Type 0 where
  pub long : length cells ≡ length s.whole
  pub pending : All (IsPending s) search.pending.items
  pub bare : All (IsBare s) search.bare.items
  pub parted : search.open.items ≡ [] → (m : Bindings) (values : List Datum) → IsSearched s m values → IsTold s search m values ⊎ AreIn s.words cells values

-- there is a rule of that number, and it hits for no values of the cells
pub record HasMissing (words : List Words) (rules : List Rule) (chosen : ℕ) (cells : List Cell) : Type 0 where
  pub rule : Rule
  pub there : slice_get rules chosen ≡ Some rule
  pub cannot : CannotHit words cells rule

-- ---- what the chosen rule does for the values of cells

-- it hits for none, the cells were cut in two, or not all entries are constant
abbrev pub TellsChosen : List Words → List Rule → ℕ → List Cell → Chosen → Type 0
TellsChosen words rules chosen cells does.Misses = HasMissing words rules chosen cells
TellsChosen words rules chosen cells does.Hits = ⊤
TellsChosen words rules chosen cells (does.Cut lower upper) = AreHalves cells lower.items upper.items
TellsChosen words rules chosen cells does.Open = AreConstant rules → ⊥
