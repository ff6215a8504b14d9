use Rattle.std.proofs.Common.{◌≡◌, drop}
use Rattle.serde_json.specs.Data.{array}
use Rattle.serde_json.specs.Written.{compact_text, items_text}
use Rattle.json_writer.specs.Bounded.{longer}
use Rattle.dmn_explain.specs.How.{numbers_told}
use Rattle.dmn_explain.proofs.table.add_numbers.Given as goal

abbrev pub invariant-loop-number : goal.invariant-loop-number
invariant-loop-number l = longer l.text (items_text l.later (numbers_told (drop l.number-index l.numbers))) ≡ longer l.fn.text (compact_text (array (numbers_told l.numbers)))
