use Rattle.std.proofs.Common.{◌≡◌, drop}
use Rattle.serde_json.specs.Data.{array, Items}
use Rattle.serde_json.specs.Written.{compact_text, items_text}
use Rattle.json_writer.specs.Bounded.{longer}
use Rattle.dmn_explain.specs.Placed.{given_by_place}
use Rattle.dmn_explain.proofs.decisions.add_all_given.Given as goal

abbrev pub invariant-loop-place : goal.invariant-loop-place
invariant-loop-place l =
    (rest : Items) → longer l.text (items_text l.later (given_by_place l.found l.items (drop l.place-index l.places) rest)) ≡ longer l.fn.text (compact_text (array (given_by_place l.found l.items l.places rest)))
