use Rattle.std.proofs.Common.{◌≡◌, [], arith, subst}
use Rattle.json.specs.Json.{value}
use Rattle.json.specs.Lex.{tokens}
use Rattle.json_reader.specs.Listing.{ListsRead}
use Rattle.json_reader.specs.Reading.{value_read}
use Rattle.json_reader.proofs.Listing.{whole_listed}
use Rattle.json_reader.proofs.listed.text_in.Goals as goal

pub returns : goal.returns
returns c =
    let none : c.first_in.new.reader ≡ [] = grind arith in
    let start : ListsRead (value_read 127 (tokens c.args.text.now)) c.in_ok-listed.listed c.first_in.new.reader = rw c.in_ok-reader.ensures.ok at c.in_ok-listed.ensures in
    whole_listed (value 127 (tokens c.args.text.now)) c.in_ok-listed.listed (subst (λ ts. ListsRead (value_read 127 (tokens c.args.text.now)) c.in_ok-listed.listed ts) none start)
