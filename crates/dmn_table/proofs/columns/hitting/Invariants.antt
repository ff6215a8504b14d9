use Rattle.std.proofs.Common.{◌≡◌, ◌++◌, drop}
use Rattle.dmn_table.specs.Columns.{asked_view, hitting}
use Rattle.dmn_table.specs.RuleOutputs.{rules_view}
use Rattle.dmn_table.proofs.columns.hitting.Given as goal

abbrev pub invariant-loop-one : goal.invariant-loop-one
invariant-loop-one l = hitting (asked_view l.asked) ≡ rules_view l.hits.items ++ hitting (asked_view (drop l.one-index l.asked))
