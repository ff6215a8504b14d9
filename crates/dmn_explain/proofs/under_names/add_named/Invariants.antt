use Rattle.std.proofs.Common.{◌≡◌}
use Rattle.serde_json.specs.Data.{object}
use Rattle.serde_json.specs.View.{members_view}
use Rattle.serde_json.specs.Written.{compact_text, members_text}
use Rattle.json_writer.specs.Bounded.{longer}
use Rattle.dmn_explain.specs.ByName.{each_member, json_among}
use Rattle.dmn_explain.proofs.under_names.add_named.Given as goal

abbrev pub invariant-loop-name : goal.invariant-loop-name
invariant-loop-name l =
    longer l.text (members_text l.later (each_member (json_among l.values) (members_view l.name-iterator))) ≡ longer l.fn.text (compact_text (object (each_member (json_among l.values) (members_view l.places.entries))))
