use Rattle.std.proofs.Common.{subst}
use Rattle.std.proofs.lemmas.Result.{IfOk-weaker}
use Rattle.serde_json.specs.Read.{read}
use Rattle.json_reader.specs.Listing.{ListsText}
use Rattle.json_reader.proofs.Listing.{read_as}
use Rattle.json_reader.proofs.reader.JsonReader.read_listed.Goals as goal

pub returns : goal.returns
returns c =
    let text = c.in-Ok.ensures.cases in
    IfOk-weaker c.text_in.result _ _ (λ l h. read_as c.args.text.now l text.1 (subst (λ t. ListsText (read t) l) text.0 h)) c.text_in.ensures
