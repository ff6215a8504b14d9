use Rattle.std.proofs.Common.{◌≡◌, drop}
use Rattle.std.specs.List.{list_any}
use Rattle.dmn_names.specs.Views.{member_lists_view, entry_lists_view}
use Rattle.dmn_names.proofs.walk.+walk.Given as goal

abbrev pub invariant-is_in_members-loop-member : goal.invariant-is_in_members-loop-member
invariant-is_in_members-loop-member g l = list_any g.Q.Question.is_so (member_lists_view l.members) ≡ list_any g.Q.Question.is_so (member_lists_view (drop l.member-index l.members))

abbrev pub invariant-is_in_entries-loop-logic : goal.invariant-is_in_entries-loop-logic
invariant-is_in_entries-loop-logic g l = list_any g.Q.Question.is_so (entry_lists_view l.entries) ≡ list_any g.Q.Question.is_so (entry_lists_view (drop l.logic-index l.entries))
