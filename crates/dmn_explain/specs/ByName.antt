-- Internal: no public contract cites these words. Values under names, as members of an object.
use Rattle.std.specs.Prelude.{◌≡◌, ℕ, List, length, option_map, option_and_then, unwrap_or}
use Rattle.std.specs.List.{slice_get, zip}
use Rattle.std.specs.declared.alloc.Global.{Global}
use Rattle.std.specs.declared.string.String.{String}
use Rattle.serde_json.specs.Data.{Data, null, Members, no_members, member}
use Rattle.serde_json.specs.Find.{as_number, as_u64}
use Rattle.serde_json.specs.View.{members_view}
use Rattle.serde_json.specs.declared.value.Value.{Value}
use Rattle.feel_value.specs.Datum.{Datum, entries_of}
use Rattle.feel_value.specs.Json.{json_of, json_members}

-- of these values the one at a place that is given as a number, in JSON
abbrev pub json_among : List Datum → Data → Data
json_among ds place = unwrap_or (option_map json_of (option_and_then (slice_get ds) (option_and_then as_u64 (as_number place)))) null

-- members, with f of each of their values
abbrev pub each_member : (Data → Data) → Members → Members
each_member f no_members = no_members
each_member f (member k d ms) = member k (f d) (each_member f ms)

-- the members give each name its place: with any values in the places of these, they are those of the object of the named values
abbrev pub ArePlaces : List (List ℕ) → List (String Global × Value) → Type 0
ArePlaces names places = (ds : List Datum) → length ds ≡ length names → each_member (json_among ds) (members_view places) ≡ json_members (entries_of (zip names ds))
