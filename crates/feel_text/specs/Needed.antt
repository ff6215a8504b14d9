-- Internal but for `Places`, `bindings_from`, `found_at`, `is_found`, `need_at`, `named_places` and `lent_to`: needed names by places.
use Rattle.std.specs.Prelude.{◌≡◌, ◌<◌, ◌≤◌, ◌^◌, ℕ, List, [], map, length, slice_index_or, Bool, Option, Some, is_some, IsTrue, unwrap_or}
use Rattle.std.specs.List.{slice_get}
use Rattle.feel_value.specs.Datum.{Datum, null}
use Rattle.feel_value.specs.Found.{value_of, ◌>>=◌, each}
use Rattle.feel_value.specs.declared.feel.Outcome.{Outcome}
use Rattle.feel_text.specs.Meaning.{Bindings}
use Rattle.feel_text.specs.NameOrder.{IsInOrder}
use Rattle.feel_text.specs.declared.needs.Need.{Need}

-- names, each with the place of its value
abbrev pub Places : Type 0
Places = List (List ℕ × ℕ)

-- the need at a position
abbrev pub need_at : Places → ℕ → List ℕ × ℕ
need_at needs i = slice_index_or needs i ([], 0)

abbrev pub named_places : List Need → Places
named_places = map (λ n. (n.name, n.place))

-- the value found at a place; None where a limit was broken, or nothing was found
abbrev pub found_at : List Outcome → ℕ → Option Datum
found_at found place = slice_get found place >>= value_of

-- the names, each bound to the value found at its place; None where none was found for one of them
abbrev pub bindings_from : List Outcome → Places → Option Bindings
bindings_from found = each (λ n. found_at found n.1 >>= λ v. Some (n.0, v))

-- a value was found for the name
abbrev pub is_found : List Outcome → List ℕ × ℕ → Bool
is_found found n = is_some (found_at found n.1)

-- the same where a value was found for each
abbrev pub lent_to : List Outcome → Places → Bindings
lent_to found = map (λ n. (n.0, unwrap_or (found_at found n.1) null))

-- the value of the binding at a position
abbrev pub value_at : Bindings → ℕ → Datum
value_at bs i = (slice_index_or bs i ([], null)).1

-- the names of needs
abbrev pub names_of : List Need → List (List ℕ)
names_of = map (λ n. n.name)

-- they are in order, where that is said
pub record IsListed (needs : List Need) (order : List ℕ) (ordered : Bool) : Type 0 where
  pub size : length needs < 2 ^ 60
  pub sorted : IsTrue ordered → IsInOrder (names_of needs) order

-- So many of the names count, and a value was found for each.
pub record AreLent (found : List Outcome) (needs : Places) (count : ℕ) : Type 0 where
  pub size : count ≤ length needs
  pub small : count < 2 ^ 60
  pub whole : bindings_from found needs ≡ Some (lent_to found needs)
