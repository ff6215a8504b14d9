-- Rules that hit for the same values, and the groups that they are of.
use Rattle.std.specs.Prelude.{◌≡◌, ◌⊎◌, ℕ, List, length, true, Some}
use Rattle.std.specs.List.{slice_get, All}
use Rattle.feel_value.specs.Datum.{Datum}
use Rattle.feel_text.specs.Meaning.{Bindings}
use Rattle.dmn_table.specs.Hits.{does_hit}
use Rattle.dmn_table.specs.Table.{Rule, Table}
use Rattle.dmn_analysis.specs.Cells.{AreIn}
use Rattle.dmn_analysis.specs.Claims.{AreAsked, AreInputs}
use Rattle.dmn_analysis.specs.Searching.{IsAmong, IsInSome, IsPending, Scene, cells_of}
use Rattle.dmn_analysis.specs.declared.asked.Asked.{Asked}
use Rattle.dmn_analysis.specs.declared.cell.Cell.{Cell}
use Rattle.dmn_analysis.specs.declared.gaps.Pending.{Pending}

-- Whatever the values that are asked about, and whatever the names stand for, two rules that hit have the same group.
abbrev pub HitInOneGroup : Table → List Asked → List ℕ → Type 0
HitInOneGroup t asked groups =
    (m : Bindings) (values : List Datum) → AreInputs (length t.inputs) values → AreAsked asked values → (i j : ℕ) (r s : Rule) → slice_get t.rules i ≡ Some r → slice_get t.rules j ≡ Some s
    → does_hit m values r ≡ Some true → does_hit m values s ≡ Some true → slice_get groups i ≡ slice_get groups j

-- ---- internal: what the search for them knows

-- the rules of these numbers have the same group
abbrev pub AreOfOneGroup : List ℕ → List ℕ → Type 0
AreOfOneGroup groups left = (i j : ℕ) → IsAmong left i → IsAmong left j → slice_get groups i ≡ slice_get groups j

-- the rules that hit for these values have
abbrev pub HitInOne : Scene → List ℕ → Bindings → List Datum → Type 0
HitInOne s groups m values =
    (i j : ℕ) (r q : Rule) → IsAmong s.first i → IsAmong s.first j → slice_get s.rules i ≡ Some r → slice_get s.rules j ≡ Some q → does_hit m values r ≡ Some true → does_hit m values q ≡ Some true
    → slice_get groups i ≡ slice_get groups j

pub record KnowsGroups (s : Scene) (groups : List ℕ) (waiting : List Pending) : Type 0 where
  pub pending : All (IsPending s) waiting
  pub parted : (m : Bindings) (values : List Datum) → AreInputs (length s.whole) values → AreIn s.words s.whole values → HitInOne s groups m values ⊎ IsInSome s.words (cells_of waiting) values

-- the same but for values of some cells
pub record KnowsGroupsBut (s : Scene) (groups : List ℕ) (cells : List Cell) (waiting : List Pending) : Type 0 where
  pub long : length cells ≡ length s.whole
  pub pending : All (IsPending s) waiting
  pub parted : (m : Bindings) (values : List Datum) → AreInputs (length s.whole) values → AreIn s.words s.whole values
      → HitInOne s groups m values ⊎ (IsInSome s.words (cells_of waiting) values ⊎ AreIn s.words cells values)
