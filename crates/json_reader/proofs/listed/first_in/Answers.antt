use Rattle.std.proofs.Common.{◌≡◌, ◌∙◌, ◌∷◌, [], IfOk, ap, arith, subst, sym}
use Rattle.json.specs.Token.{Token}
use Rattle.json.specs.Json.{value}
use Rattle.json.specs.Reads.{token_of}
use Rattle.json.proofs.Grammar.{value_is}
use Rattle.serde_json.specs.Read.{converted, of_json}
use Rattle.json_reader.specs.Listing.{ListsRead}
use Rattle.json_reader.specs.Reading.{value_read}
use Rattle.json_reader.proofs.Reading.{object_reads}
use Rattle.json_reader.proofs.listed.first_in.Goals as goal

pub returns-in_default : goal.returns-in_default
returns-in_default c =
    let empty : c.args.reader.now ≡ [] = grind arith in
    ap (converted of_json) (ap (value 127) empty ∙ value_is 127 [])

pub returns-in-BeginObject : goal.returns-in-BeginObject
returns-in-BeginObject c =
    let first : c.args.reader.now ≡ token_of c.in-Some.token ∷ c.next.new.self = grind arith in
    let is : c.args.reader.now ≡ Token.begin_object ∷ c.next.new.self = grind (arith, first) in
    subst (λ read. IfOk c.members_in.result (λ listed. ListsRead read listed c.members_in.new.reader))
    (sym (ap (value_read 127) is ∙ object_reads 127 c.next.new.self (omega arith)))
    c.members_in.ensures

pub returns-in_default-token : goal.returns-in_default-token
returns-in_default-token c =
    let first : c.args.reader.now ≡ token_of c.in-Some.token ∷ c.next.new.self = grind arith in
    subst (λ ts. IfOk c.other_in.result (λ listed. ListsRead (value_read 127 ts) listed c.other_in.new.reader)) (sym first) c.other_in.ensures
