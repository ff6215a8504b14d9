-- Internal: no public contract cites these words. The listed values of output columns, and what finds places among them.
use Rattle.std.specs.Prelude.{ℕ, ℤ, List, [], ◌∷◌, length, Bool, ◌≡◌, Option, None, Some, if◌then◌else◌}
use Rattle.std.specs.Option.{unwrap_or}
use Rattle.std.specs.Ordering.{int_cmp}
use Rattle.std.specs.BTreeMap.{get, get_by_text}
use Rattle.feel_value.specs.Datum.{Datum, number, text}
use Rattle.feel_value.specs.Logic.{is_yes}
use Rattle.feel_value.specs.Comparison.{equal}
use Rattle.dmn_table.specs.Priority.{place}
pub use Rattle.dmn_table.specs.Priority.{listed_values}
use Rattle.dmn_table.specs.declared.listed.Index.{Index}

-- the place of each value in the list of its column
abbrev pub places_among : List (List Datum) → List Datum → List ℕ
places_among [] values = []
places_among (ds ∷ lists) [] = []
places_among (ds ∷ lists) (v ∷ values) = place ds v ∷ places_among lists values

-- the index has the first place of each number and text among these values
abbrev pub IsIndex : Index → List Datum → Type 0
IsIndex index ds =
    ((z : ℤ) → place ds (number z) ≡ unwrap_or (get int_cmp index.numbers z) (length ds))
    × ((s : List ℕ) → place ds (text s) ≡ unwrap_or (get_by_text index.texts s) (length ds))

abbrev pub first_of : Option ℕ → Option ℕ → Option ℕ
first_of None o = o
first_of (Some i) o = Some i

-- this place, where it is one for the value
abbrev pub place_if : Bool → ℕ → Option ℕ
place_if b i = if b then Some i else None

-- the new index has the value at this place, unless the old one has it at another
abbrev pub PutsFirst : Index → Index → Datum → ℕ → Type 0
PutsFirst old new v i =
    ((z : ℤ) → get int_cmp new.numbers z ≡ first_of (get int_cmp old.numbers z) (place_if (is_yes (equal v (number z))) i))
    × ((s : List ℕ) → get_by_text new.texts s ≡ first_of (get_by_text old.texts s) (place_if (is_yes (equal v (text s))) i))
