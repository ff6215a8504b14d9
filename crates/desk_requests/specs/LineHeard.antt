-- What a line says that is heard.
use Rattle.std.specs.Prelude.{Option, Some, None}
use Rattle.serde_json.specs.Data.{object}
use Rattle.json_reader.specs.Members.{members_of}
use Rattle.desk_wire.specs.declared.heard.Heard.{Heard}
use Rattle.desk_wire.specs.declared.heard.Heard.TheVariants.{Object}
use Rattle.desk_requests.specs.Line as said
use Rattle.desk_requests.specs.Line.{IsLine, line_view}
use Rattle.desk_requests.specs.declared.line.Line.{Line}

-- the lawful line that is heard so, or that there is none
abbrev pub IsLineOf : Heard → Option Line → Type 0
IsLineOf (Object members) (Some line) = IsLine (line_view line) (object (members_of members.items))
IsLineOf (Object members) None = (line : said.Line) → ¬ IsLine line (object (members_of members.items))
IsLineOf heard (Some line) = ⊥
IsLineOf heard None = Unit {0}
