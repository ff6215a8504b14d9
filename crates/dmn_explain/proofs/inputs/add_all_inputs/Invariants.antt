use Rattle.std.proofs.Common.{◌≡◌, ◌++◌, drop}
use Rattle.serde_json.specs.Data.{object}
use Rattle.serde_json.specs.Written.{compact_text, members_text}
use Rattle.dmn_explain.specs.Placed.{inputs_by_place}
use Rattle.dmn_explain.proofs.inputs.add_all_inputs.Given as goal

abbrev pub invariant-loop-place : goal.invariant-loop-place
invariant-loop-place l = l.text.items ++ members_text l.later (inputs_by_place l.found l.items (drop l.place-index l.places)) ≡ l.fn.text.items ++ compact_text (object (inputs_by_place l.found l.items l.places))
