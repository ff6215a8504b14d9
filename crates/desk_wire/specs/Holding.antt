-- Internal: the members of an object as a report gives them.
use Rattle.std.specs.Prelude.{ℕ, List, [], ◌∷◌, ◌++◌, Bool, true, codes}
use Rattle.json.specs.Print.{quoted}
use Rattle.serde_json.specs.Data.{Data, Members, boolean, member, no_members, number, string, unsigned}
use Rattle.serde_json.specs.Written.{comma_if, compact_text}
use Rattle.feel_value.specs.Json.{json_of}
use Rattle.desk_wire.specs.declared.key.Key.{Key}
use Rattle.desk_wire.specs.declared.key.Key.TheVariants as key
use Rattle.desk_wire.specs.declared.object.Held.{Held}
use Rattle.desk_wire.specs.declared.object.Held.TheVariants as held

abbrev pub name_of : Key → List ℕ
name_of key.Accepted = codes "accepted"
name_of key.Client = codes "client"
name_of key.Closed = codes "closed"
name_of key.Fault = codes "fault"
name_of key.Kept = codes "kept"
name_of key.Line = codes "line"
name_of key.Model = codes "model"
name_of key.Nothing = codes "nothing"
name_of key.Opened = codes "opened"
name_of key.Refused = codes "refused"
name_of key.Resized = codes "resized"
name_of key.Result = codes "result"
name_of key.Skipped = codes "skipped"
name_of key.Taken = codes "taken"
name_of key.Ticket = codes "ticket"

abbrev pub data_of : Held → Data
data_of (held.Bool b) = boolean b
data_of (held.Number n) = number (unsigned n)
data_of (held.Text text) = string text.now
data_of (held.Value value) = json_of value.now

abbrev pub members_of : List (Key × Held) → Members
members_of [] = no_members
members_of (m ∷ ms) = member (name_of m.0) (data_of m.1) (members_of ms)

-- the members, with what ends the object and its line
abbrev pub line_of : Bool → Members → List ℕ
line_of later no_members = 125 ∷ 10 ∷ []
line_of later (member k d ms) = comma_if later ++ (quoted k ++ 58 ∷ (compact_text d ++ line_of true ms))
