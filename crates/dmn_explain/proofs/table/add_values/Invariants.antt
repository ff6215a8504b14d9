use Rattle.std.proofs.Common.{◌≡◌, drop}
use Rattle.serde_json.specs.Written.{compact_text, items_text}
use Rattle.feel_value.specs.Datum.{list, items_of}
use Rattle.feel_value.specs.Json.{json_of, json_items}
use Rattle.json_writer.specs.Bounded.{longer}
use Rattle.dmn_explain.proofs.table.add_values.Given as goal

abbrev pub invariant-loop-value : goal.invariant-loop-value
invariant-loop-value l = longer l.text (items_text l.later (json_items (items_of (drop l.value-index l.values)))) ≡ longer l.fn.text (compact_text (json_of (list (items_of l.values))))
