use Rattle.std.proofs.Common.{◌≡◌, drop}
use Rattle.serde_json.specs.Written.{items_text}
use Rattle.json_writer.specs.Bounded.{longer}
use Rattle.dmn_explain.specs.Placed.{decided_by_place}
use Rattle.dmn_explain.proofs.decisions.add_all_decided.Given as goal

abbrev pub invariant-loop-place : goal.invariant-loop-place
invariant-loop-place l =
    longer l.text (items_text l.later (decided_by_place l.with_misses l.found l.items (drop l.place-index l.places))) ≡ longer l.fn.text (items_text l.some_before (decided_by_place l.with_misses l.found l.items l.places))
