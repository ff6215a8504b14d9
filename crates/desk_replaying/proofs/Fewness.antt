-- A line is an object of few members.
use Rattle.std.proofs.Common.{◌≡◌, ◌≢◌, ◌≤◌, arith, refl, sym, ◌∙◌}
use Rattle.serde_json.specs.Data.{Data, object}
use Rattle.json_reader.specs.Listed.{IsNotFew, count, most_listed}
use Rattle.json_reader.proofs.Listing.{members_within}
use Rattle.desk_replaying.specs.Line.{Line, Model, IsLawful, object_of}

are_few : (line : Line) → (object_of line ≡ object (members_within (object_of line))) × (count (members_within (object_of line)) ≤ most_listed)
are_few (Model model) = (refl, omega arith)
are_few line = (refl, omega arith)

pub no_line : (value : Data) → IsNotFew value → (line : Line) → IsLawful line → object_of line ≢ value
no_line value many line lawful same = let few = are_few line in many (members_within (object_of line)) few.1 (sym same ∙ few.0)
