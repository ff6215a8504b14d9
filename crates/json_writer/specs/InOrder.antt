-- Internal: no public contract cites these words. Entries of a context as the members of an object.
use Rattle.std.specs.Prelude.{◌≡◌, List}
use denote.Ref.{Bor}
use Rattle.std.specs.List.Sorted.{IsPermutation}
use Rattle.std.specs.declared.alloc.Global.{Global}
use Rattle.std.specs.declared.sync.ArcStr.{ArcStr}
use Rattle.serde_json.specs.Data.{Members, no_members, member}
use Rattle.feel_value.specs.Datum.{Entries, no_entries, entry}
use Rattle.feel_value.specs.Json.{json_of, json_members}
use Rattle.feel_value.specs.Names.{lent}
use Rattle.feel_value.specs.View.{entries_view}
use Rattle.feel_value.specs.declared.value.Value.{Value}

-- members that are the entries as they stand
abbrev pub as_they_stand : Entries → Members
as_they_stand no_entries = no_members
as_they_stand (entry n d es) = member n (json_of d) (as_they_stand es)

-- the loans lend all the entries, in the order of the object's members
abbrev pub AreMembers : List (ArcStr Global × Value) → List (Bor (ArcStr Global × Value)) → Type 0
AreMembers es loans = IsPermutation es (lent loans) × (as_they_stand (entries_view (lent loans)) ≡ json_members (entries_view es))
