-- Internal: classes of names, by which a name is known to be none of an object's.
use Rattle.std.specs.Prelude.{◌≡◌, ◌+◌, ◌-◌, ◌%◌, ℕ, List, Bool, true, false, length, slice_index_or, ⊤}
use Rattle.serde_json.specs.Data as json

-- by the length and the last byte
abbrev pub class_of : List ℕ → ℕ
class_of bs = (length bs + slice_index_or bs (length bs - 1) 0) % 64

-- the class of each name is marked
abbrev pub AreMarked : List Bool → json.Members → Type 0
AreMarked classes json.no_members = ⊤
AreMarked classes (json.member k d ms) = (slice_index_or classes (class_of k) false ≡ true) × AreMarked classes ms

abbrev pub AreClassesOf : List Bool → json.Data → Type 0
AreClassesOf classes (json.object ms) = AreMarked classes ms
AreClassesOf classes _ = ⊤
