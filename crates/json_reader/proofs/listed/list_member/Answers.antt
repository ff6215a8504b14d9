use Rattle.std.proofs.Common.{◌≤◌, ◌<◌, arith, length}
use Rattle.serde_json.specs.View.{view}
use Rattle.json_reader.specs.Listed.{most_listed}
use Rattle.json_reader.proofs.Listing.{one_listed, one_unlisted}
use Rattle.json_reader.proofs.listed.list_member.Goals as goal

pub returns-then-len-gt-MOST_LISTED : goal.returns-then-len-gt-MOST_LISTED
returns-then-len-gt-MOST_LISTED c = λ all h.
    let many : most_listed < length c.args.members.now.items = omega arith in
    one_unlisted all c.args.members.now.items c.args.key.now (view c.args.value) many h

pub returns : goal.returns
returns c = λ all h.
    let few : length c.args.members.now.items ≤ most_listed = omega arith in
    one_listed all c.args.members.now.items c.put_member.new.members.items c.args.key.now (view c.args.value) few c.in_ok-put_member.ensures h
