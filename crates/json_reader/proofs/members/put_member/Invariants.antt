use Rattle.std.proofs.Common.{◌≡◌, take, drop}
use Rattle.serde_json.specs.Data.{put}
use Rattle.serde_json.specs.View.{view}
use Rattle.json_reader.specs.Members.{members_of}
use Rattle.json_reader.proofs.Putting.{onto}
use Rattle.json_reader.proofs.members.put_member.Given as goal

abbrev pub invariant-loop-place : goal.invariant-loop-place
invariant-loop-place l =
    (l.members.items ≡ l.initial.members.items)
    × (put l.key (view l.value) (members_of l.members.items) ≡ onto (take l.place l.members.items) (put l.key (view l.value) (members_of (drop l.place l.members.items))))
