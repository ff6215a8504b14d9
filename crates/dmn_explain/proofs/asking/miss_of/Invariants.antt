use Rattle.std.proofs.Common.{◌≡◌, ◌+◌, None}
use Rattle.dmn_table.specs.Hits.{first_miss}
use Rattle.dmn_table.specs.Misses.{missed_from}
use Rattle.dmn_table.specs.Parts.{rule_view}
use Rattle.dmn_table.proofs.FirstMiss.{answers_from}
use Rattle.dmn_explain.proofs.asking.miss_of.Given as goal

-- no entry before the column at hand is missed
abbrev pub invariant-loop-i : goal.invariant-loop-i
invariant-loop-i l = first_miss l.env l.values (rule_view l.rule) ≡ missed_from (l.i + 1) None (answers_from l.env l.rule.tests.items l.values l.i)
