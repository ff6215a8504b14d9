-- What a line says that is heard.
use Rattle.std.proofs.Common.{◌≡◌, ℕ, List, Option, Some, None, IfSome, IfNone, Bor, Vec, Global, subst}
use Rattle.serde_json.specs.Data.{object}
use Rattle.serde_json.specs.declared.value.Value.{Value}
use Rattle.json_reader.specs.Members.{members_of}
use Rattle.desk_requests.specs.Line as said
use Rattle.desk_requests.specs.Line.{IsLine, line_view}
use Rattle.desk_requests.specs.LineHeard.{IsLineOf}
use Rattle.desk_wire.specs.declared.heard.Heard.TheVariants.{Object}
use Rattle.desk_requests.specs.declared.line.Line.{Line}

pub line_of_listed : (members : Vec (Bor (List ℕ) × Value) Global) (listed : List (Bor (List ℕ) × Value)) (r : Option Line) → listed ≡ members.items
    → IfSome r (λ line. IsLine (line_view line) (object (members_of listed))) → IfNone r ((line : said.Line) → ¬ IsLine line (object (members_of listed))) → IsLineOf (Object members) r
line_of_listed members listed (Some line) e found other = subst (λ ms. IsLine (line_view line) (object (members_of ms))) e found
line_of_listed members listed None e found other = subst (λ ms. (line : said.Line) → ¬ IsLine line (object (members_of ms))) e other
