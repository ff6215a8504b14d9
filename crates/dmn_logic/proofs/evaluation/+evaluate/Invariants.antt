use Rattle.std.proofs.Common.{◌≡◌, drop, take, length}
use Rattle.dmn_table.proofs.Each.{after}
use Rattle.dmn_form.specs.Model.{list, context}
use Rattle.dmn_logic.specs.Boxed.{boxed, member_values, entry_values}
use Rattle.dmn_logic.specs.LogicView.{members_view, entries_view}
use Rattle.dmn_logic.specs.Bound.{bound_behind}
use Rattle.dmn_logic.proofs.Growing.{list_from, context_from}
use Rattle.dmn_logic.proofs.evaluation.+evaluate.Given as goal

abbrev pub invariant-list_outcome-loop-member : goal.invariant-list_outcome-loop-member
invariant-list_outcome-loop-member l =
    (l.env ≡ l.fn.env) × (boxed (list (members_view l.members)) l.fn.env ≡ list_from (after l.values (member_values (members_view (drop l.member-index l.members)) l.fn.env)))

abbrev pub invariant-entries_outcome-loop-name : goal.invariant-entries_outcome-loop-name
invariant-entries_outcome-loop-name l =
    (take (length l.fn.env) l.env ≡ l.fn.env)
    × (boxed (context (entries_view l.entries)) l.fn.env ≡ context_from (after l.values (entry_values (entries_view (drop l.name-index l.entries)) l.env)))

abbrev pub invariant-bind_entries-loop-name : goal.invariant-bind_entries-loop-name
invariant-bind_entries-loop-name l =
    (take (length l.fn.env) l.env ≡ l.fn.env)
    × (bound_behind l.fn.env (entry_values (entries_view l.entries) l.fn.env) ≡ bound_behind l.env (entry_values (entries_view (drop l.name-index l.entries)) l.env))
