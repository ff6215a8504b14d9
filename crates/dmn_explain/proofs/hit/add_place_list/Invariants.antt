use Rattle.std.proofs.Common.{◌≡◌, drop}
use Rattle.serde_json.specs.Data.{array}
use Rattle.serde_json.specs.Written.{compact_text, items_text}
use Rattle.json_writer.specs.Bounded.{longer}
use Rattle.dmn_explain.specs.How.{listed_told}
use Rattle.dmn_explain.proofs.hit.add_place_list.Given as goal

abbrev pub invariant-loop-place : goal.invariant-loop-place
invariant-loop-place l = longer l.text (items_text l.later (listed_told (drop l.place-index l.places))) ≡ longer l.fn.text (compact_text (array (listed_told l.places)))
