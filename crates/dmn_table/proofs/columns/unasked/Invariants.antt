use Rattle.std.proofs.Common.{◌≡◌, ◌++◌, drop}
use Rattle.dmn_table.specs.Columns.{asked_view, unasked}
use Rattle.dmn_table.proofs.columns.unasked.Given as goal

abbrev pub invariant-loop-rule : goal.invariant-loop-rule
invariant-loop-rule l = unasked l.rules ≡ asked_view l.asked.items ++ unasked (drop l.rule-index l.rules)
