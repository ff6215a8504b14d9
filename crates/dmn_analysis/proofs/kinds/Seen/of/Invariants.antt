use Rattle.std.proofs.Common.{◌≡◌, drop, map}
use Rattle.dmn_table.specs.Parts.{rule_view}
use Rattle.dmn_analysis.specs.Kinds.{column_tests, kinds_of}
use Rattle.dmn_analysis.specs.Seeing.{seen_kinds, with_kinds}
use Rattle.dmn_analysis.proofs.kinds.Seen.of.Given as goal

abbrev pub invariant-loop-rule : goal.invariant-loop-rule
invariant-loop-rule l = with_kinds (seen_kinds l.seen) (kinds_of (column_tests (map rule_view (drop l.rule-index l.rules)) l.place)) ≡ kinds_of (column_tests (map rule_view l.rules) l.place)
