-- Internal but for `listed_of`: values that are bound at the positions of names in a list.
use Rattle.std.specs.Prelude.{◌≡◌, ℕ, zero, suc, ◌<◌, ◌≤◌, ◌^◌, List, map, length, slice_index_or, Option, Some, None}
use Rattle.feel_value.specs.Datum.{Datum}
use Rattle.feel_text.specs.Meaning.{Bindings}
use Rattle.feel_text.specs.Needed.{Places, need_at}
use Rattle.feel_text.specs.Places.{last_place}
use Rattle.feel_eval.specs.Index.{IsIndexed}
use Rattle.feel_eval.specs.declared.listed.Placed.{Placed}

-- the name at the position
abbrev pub name_at : Places → Placed → List ℕ
name_at scope b = (need_at scope b.position).0

abbrev pub value_of : Placed → Datum
value_of b = b.value

abbrev pub listed_of : Places → List Placed → Bindings
listed_of scope = map (λ b. ((need_at scope b.position).0, b.value))

-- Places are numbered from 1, and 0 is none.
abbrev pub numbered : ℕ → Option ℕ
numbered zero = None
numbered (suc i) = Some i

abbrev pub hidden_of : Placed → Option ℕ
hidden_of b = numbered b.hidden

-- what lies at a position
abbrev pub slot_at : List ℕ → Option ℕ → Option ℕ
slot_at slots None = None
slot_at slots (Some i) = numbered (slice_index_or slots i 0)

-- what lies at the position of the name
abbrev pub slot_of : Places → List ℕ → List ℕ → Option ℕ
slot_of scope slots name = slot_at slots (last_place name scope)

-- The place of the last binding of each name lies at its position, which is the last one of this name.
pub record AreListed (scope : Places) (bindings : List Placed) (slots : List ℕ) : Type 0 where
  pub indexed : IsIndexed (name_at scope) value_of hidden_of bindings (slot_of scope slots)
  pub there : (i : ℕ) (b : Placed) → i < length bindings → last_place (name_at scope (slice_index_or bindings i b)) scope ≡ Some (slice_index_or bindings i b).position
  pub small : length bindings ≤ 2 ^ 60
