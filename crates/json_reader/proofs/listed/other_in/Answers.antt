use Rattle.json.specs.Reads.{token_of}
use Rattle.serde_json.specs.View.{view}
use Rattle.json_reader.proofs.Listing.{no_object}
use Rattle.json_reader.proofs.listed.other_in.Goals as goal

pub returns : goal.returns
returns c =
    let read = rw c.in-Some.is at c.in_ok-_value.ensures.found in
    (view c.in-Some._value, read, no_object 127 (token_of c.args.token) c.args.reader.now c.value_from.new.reader (view c.in-Some._value) c.requires.other read)
