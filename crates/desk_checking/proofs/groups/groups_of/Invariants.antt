use Rattle.std.proofs.Common.{◌≡◌, ◌<◌, length, map}
use Rattle.std.specs.List.{All}
use Rattle.dmn_table.specs.Parts.{rule_view}
use Rattle.desk_checking.proofs.Grouping.{AreGroupsTo}
use Rattle.desk_checking.proofs.groups.groups_of.Given as goal

abbrev pub invariant-loop-rule : goal.invariant-loop-rule
invariant-loop-rule l = (length l.groups.items ≡ l.rule) × (All (λ g. g < l.rule) l.groups.items × AreGroupsTo l.rule (map rule_view l.rules) l.groups.items)
