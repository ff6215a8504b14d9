use Rattle.std.proofs.Common.{◌≡◌, ◌++◌, drop}
use Rattle.serde_json.specs.Data.{array}
use Rattle.serde_json.specs.Written.{compact_text, items_text}
use Rattle.desk_checking.specs.Told.{numbers_told}
use Rattle.desk_checking.proofs.parts.add_rules.Given as goal

abbrev pub invariant-loop-rule : goal.invariant-loop-rule
invariant-loop-rule l = l.text.items ++ items_text l.later (numbers_told (drop l.rule-index l.rules)) ≡ l.fn.text.items ++ compact_text (array (numbers_told l.rules))
