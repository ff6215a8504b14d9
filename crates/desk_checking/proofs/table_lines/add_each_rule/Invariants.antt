use Rattle.std.proofs.Common.{◌≡◌, ◌++◌, drop, map}
use Rattle.std.specs.List.{flat_map}
use Rattle.desk_lines.specs.Lines.{ended}
use Rattle.desk_checking.specs.TableTold.{never_line}
use Rattle.desk_checking.proofs.table_lines.add_each_rule.Given as goal

abbrev pub invariant-loop-rule : goal.invariant-loop-rule
invariant-loop-rule l = l.text.items ++ flat_map ended (map never_line (drop l.rule-index l.rules)) ≡ l.fn.text.items ++ flat_map ended (map never_line l.rules)
