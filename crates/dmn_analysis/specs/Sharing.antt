-- Internal: no public contract cites these words. A search for two rules that hit for the same values.
use Rattle.std.specs.Prelude.{◌≡◌, ◌⊎◌, ◌<◌, ◌≤◌, ◌++◌, ℕ, List, [], length, true, Some}
use Rattle.std.specs.List.{slice_get, All}
use Rattle.feel_value.specs.Datum.{Datum}
use Rattle.feel_value.specs.Limits.{is_value}
use Rattle.feel_text.specs.Meaning.{Bindings}
use Rattle.dmn_table.specs.Hits.{does_hit}
use Rattle.dmn_table.specs.Table.{Rule}
use Rattle.dmn_analysis.specs.Cells.{AreIn}
use Rattle.dmn_analysis.specs.Claims.{AreInputs}
use Rattle.dmn_analysis.specs.Searching.{IsAmong, IsInSome, IsPending, MustHit, Scene, cells_of}
use Rattle.dmn_analysis.specs.declared.cell.Cell.{Cell}
use Rattle.dmn_analysis.specs.declared.cell.Words.{Words}
use Rattle.dmn_analysis.specs.declared.gaps.Pending.{Pending}
use Rattle.dmn_analysis.specs.declared.pairing.Pair.{Pair}
use Rattle.dmn_analysis.specs.declared.pairs.PairSearch.{PairSearch}
use Rattle.dmn_analysis.specs.declared.pairs.Shared.{Shared}

-- each number is less than those behind it
abbrev pub IsRising : List ℕ → Type 0
IsRising xs = (j k x y : ℕ) → j < k → slice_get xs j ≡ Some x → slice_get xs k ≡ Some y → x < y

-- there is a rule of that number, and it hits for all values of the cells
pub record IsMustHit (words : List Words) (rules : List Rule) (cells : List Cell) (r : ℕ) : Type 0 where
  pub rule : Rule
  pub there : slice_get rules r ≡ Some rule
  pub must : MustHit words cells rule

-- there are values in the cells
pub record AreFilled (words : List Words) (cells : List Cell) : Type 0 where
  pub values : List Datum
  pub long : length values ≡ length cells
  pub lawful : All (λ v. is_value v ≡ true) values
  pub inside : AreIn words cells values

-- two rules or more, each of which hits for all values of cells that have some
pub record IsShared (words : List Words) (rules : List Rule) (count : ℕ) (shared : Shared) : Type 0 where
  pub long : length shared.cells.items ≡ count
  pub filled : AreFilled words shared.cells.items
  pub must : All (IsMustHit words rules shared.cells.items) shared.rules.items
  pub rising : IsRising shared.rules.items
  pub several : 2 ≤ length shared.rules.items

-- ---- what the search knows

-- no two of the rules hit
abbrev pub AtMostOne : Scene → Bindings → List Datum → Type 0
AtMostOne s m values =
    (i j : ℕ) (r q : Rule) → i < j → IsAmong s.first i → IsAmong s.first j → slice_get s.rules i ≡ Some r → slice_get s.rules j ≡ Some q
    → does_hit m values r ≡ Some true → does_hit m values q ≡ Some true → ⊥

abbrev pub ArePending : Scene → List Pending → Type 0
ArePending s pending = All (IsPending s) pending × All (λ (p : Pending). IsRising p.left.items) pending

abbrev pub AreShared : Scene → List Shared → Type 0
AreShared s shared = All (IsShared s.words s.rules (length s.whole)) shared

-- what a search knows that found no two rules, and met none of which it doesn't know whether they hit
pub record KnowsPairs (s : Scene) (search : PairSearch) : Type 0 where
  pub pending : ArePending s search.pending.items
  pub shared : AreShared s search.shared.items
  pub parted : search.open.items ≡ [] → search.shared.items ≡ [] → (m : Bindings) (values : List Datum) → AreInputs (length s.whole) values → AreIn s.words s.whole values
      → AtMostOne s m values ⊎ IsInSome s.words (cells_of search.pending.items) values

-- the same but for values of some cells
pub record KnowsPairsBut (s : Scene) (cells : List Cell) (search : PairSearch) : Type 0 where
  pub long : length cells ≡ length s.whole
  pub pending : ArePending s search.pending.items
  pub shared : AreShared s search.shared.items
  pub parted : search.open.items ≡ [] → search.shared.items ≡ [] → (m : Bindings) (values : List Datum) → AreInputs (length s.whole) values → AreIn s.words s.whole values
      → AtMostOne s m values ⊎ (IsInSome s.words (cells_of search.pending.items) values ⊎ AreIn s.words cells values)

-- ---- pairs

-- two rules that share the cells at a place, in their order
pub record IsPairOf (all : List Shared) (pair : Pair) : Type 0 where
  pub shared : Shared
  pub there : slice_get all pair.shared ≡ Some shared
  pub i : ℕ
  pub j : ℕ
  pub before : i < j
  pub first : slice_get shared.rules.items i ≡ Some pair.first
  pub second : slice_get shared.rules.items j ≡ Some pair.second

-- the same pairs, and others behind them
pub record HaveMore (old new : List Pair) : Type 0 where
  pub others : List Pair
  pub behind : new ≡ old ++ others

-- the two rules are one of these pairs
pub record IsPair (pairs : List Pair) (a b : ℕ) : Type 0 where
  pub place : ℕ
  pub pair : Pair
  pub there : slice_get pairs place ≡ Some pair
  pub first : pair.first ≡ a
  pub second : pair.second ≡ b

-- each two rules that share cells are
abbrev pub HaveEachPair : List Shared → List Pair → Type 0
HaveEachPair all pairs =
    (k i j a b : ℕ) (shared : Shared) → slice_get all k ≡ Some shared → i < j → slice_get shared.rules.items i ≡ Some a → slice_get shared.rules.items j ≡ Some b → IsPair pairs a b

-- both rules hit for all values of so many cells that have some
pub record MustOverlap (words : List Words) (rules : List Rule) (count : ℕ) (cells : List Cell) (i j : ℕ) : Type 0 where
  pub before : i < j
  pub long : length cells ≡ count
  pub filled : AreFilled words cells
  pub first : IsMustHit words rules cells i
  pub second : IsMustHit words rules cells j
