-- The members of an object as a list of keys with their values.
use Rattle.std.specs.Prelude.{ℕ, List, [], ◌∷◌}
use Rattle.std.specs.Borrow.{Bor}
use Rattle.serde_json.specs.Data.{Members, no_members, member}
use Rattle.serde_json.specs.View.{view}
use Rattle.serde_json.specs.declared.value.Value.{Value}

abbrev pub members_of : List (Bor (List ℕ) × Value) → Members
members_of [] = no_members
members_of (m ∷ ms) = member m.0.now (view m.1) (members_of ms)
