use Rattle.std.proofs.Common.{◌≡◌, ◌+◌, drop, map}
use Rattle.dmn_table.specs.Parts.{rule_view}
use Rattle.dmn_explain.specs.Numbered.{asked_view, found_from}
use Rattle.dmn_explain.proofs.Rows.{after_found}
use Rattle.dmn_explain.proofs.asking.ask_rules.Given as goal

abbrev pub invariant-loop-i : goal.invariant-loop-i
invariant-loop-i l = found_from l.with_misses 1 l.env l.values (map rule_view l.rules) ≡ after_found (asked_view l.asked) (found_from l.with_misses (l.i + 1) l.env l.values (map rule_view (drop l.i l.rules)))
