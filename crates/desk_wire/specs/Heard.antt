-- How a line is heard, before it is known what it says.
use Rattle.std.specs.Prelude.{◌≡◌, ◌≢◌, ◌⊎◌, ℕ, ◌<◌, ◌≤◌, List, length, true, Some, None}
use Rattle.std.specs.Str.{IsUtf8}
use Rattle.serde_json.specs.Data.{Data, object}
use Rattle.serde_json.specs.Read.{read}
use Rattle.json_reader.specs.Listed.{IsNotFew}
use Rattle.json_reader.specs.Members.{members_of}
use Rattle.desk_lines.specs.Lines.{max_line}
use Rattle.desk_wire.specs.Reading.{is_blank}
use Rattle.desk_wire.specs.declared.heard.Heard.{Heard}
use Rattle.desk_wire.specs.declared.heard.Heard.TheVariants.{Long, Blank, Syntax, Other, Object}

-- the line is heard so
abbrev pub IsHeardAs : List ℕ → Heard → Type 0
IsHeardAs it Long = max_line < length it
IsHeardAs it Blank = (length it ≤ max_line) × (is_blank it ≡ true)
IsHeardAs it Syntax = (length it ≤ max_line) × (is_blank it ≢ true) × (¬ IsUtf8 it ⊎ (read it ≡ None))
IsHeardAs it Other = (length it ≤ max_line) × (is_blank it ≢ true) × IsUtf8 it × ((value : Data) × (read it ≡ Some value) × IsNotFew value)
IsHeardAs it (Object members) = (length it ≤ max_line) × (is_blank it ≢ true) × IsUtf8 it × (read it ≡ Some (object (members_of members.items)))
