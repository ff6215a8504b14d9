use Rattle.std.proofs.Common.{map, refl, ◌++◌, string_bytes}
use Rattle.dmn_form.specs.LogicView.{logic_view}
use Rattle.dmn_check.specs.declared.place.Step.TheVariants as step
use Rattle.dmn_check.specs.declared.place.Key.TheVariants as key
use Rattle.dmn_check.specs.Findings.{behind}
use Rattle.dmn_check.specs.Look.{logic_findings}
use Rattle.dmn_check.specs.LookView.{members_findings_view, entries_findings_view}
use Rattle.dmn_check.specs.NotesView.{notes_view}
use Rattle.dmn_check.proofs.Walking.{then, through, turn_by}
use Rattle.dmn_check.proofs.Logics.{walked_table, walked_list, walked_context, walked_with}
use Rattle.dmn_check.proofs.walk.+walk.Goals as goal

pub walk_context-returns : goal.walk_context-returns
walk_context-returns g t c =
    let k = g.L.Look.look c.args.look.now in
    let names = k.entries (map (λ e. string_bytes e.0) c.args.entries.now) in
    let inner = entries_findings_view k 0 c.args.entries.now in
    through (step.Key key.Context) (names ++ inner)
    (notes_view c.args.notes.now) (notes_view c.enter.new.self) (notes_view c.walk_entries.new.notes) (notes_view c.leave.new.self)
    c.in_ok-enter.ensures
    (then names inner (notes_view c.enter.new.self) (notes_view c.entries.new.notes) (notes_view c.walk_entries.new.notes) c.in_ok-entries.ensures c.in_ok-walk_entries.ensures)
    c.leave.ensures

pub walk_members-loop-index-preserved : goal.walk_members-loop-index-preserved
walk_members-loop-index-preserved g t c =
    let k = g.L.Look.look c.args.look.now in
    let x = c.index-members-index.result in
    turn_by (members_findings_view k) (λ i b. behind (step.Index i) (logic_findings k (logic_view b))) (λ i b bs. refl)
    c.args.members.now c.loop-index.index x (notes_view c.loop-index.notes) (notes_view c.leave.new.self) _
    c.loop-index.invariant c.index-members-index.is c.loop-index-test.true
    (through (step.Index c.loop-index.index) (logic_findings k (logic_view x))
    (notes_view c.loop-index.notes) (notes_view c.enter.new.self) (notes_view c.walk_logic.new.notes) (notes_view c.leave.new.self)
    c.in_ok-enter.ensures c.in_ok-walk_logic.ensures c.leave.ensures)

pub walk_entries-loop-index-preserved : goal.walk_entries-loop-index-preserved
walk_entries-loop-index-preserved g t c =
    let k = g.L.Look.look c.args.look.now in
    let x = c.index-entries-index.result in
    turn_by (entries_findings_view k) (λ i e. behind (step.Index i) (behind (step.Key key.Expr) (logic_findings k (logic_view e.1)))) (λ i e es. refl)
    c.args.entries.now c.loop-index.index x (notes_view c.loop-index.notes) (notes_view c.leave-in-loop-index.new.self) _
    c.loop-index.invariant c.index-entries-index.is c.loop-index-test.true
    (through (step.Index c.loop-index.index) (behind (step.Key key.Expr) (logic_findings k (logic_view x.1)))
    (notes_view c.loop-index.notes) (notes_view c.enter.new.self) (notes_view c.leave.new.self) (notes_view c.leave-in-loop-index.new.self)
    c.in_ok-enter.ensures
    (through (step.Key key.Expr) (logic_findings k (logic_view x.1))
    (notes_view c.enter.new.self) (notes_view c.enter-in-loop-index.new.self) (notes_view c.walk_logic.new.notes) (notes_view c.leave.new.self)
    c.in_ok-enter-2.ensures c.in_ok-walk_logic.ensures c.leave.ensures)
    c.leave-in-loop-index.ensures)

pub walk_logic-returns-in_ok-table-in-Table : goal.walk_logic-returns-in_ok-table-in-Table
walk_logic-returns-in_ok-table-in-Table g t c =
    walked_table (g.L.Look.look c.args.look.now) c.args.logic.now c.in-Table.table
    (notes_view c.args.notes.now) (notes_view c.enter.new.self) (notes_view c.table.new.notes) (notes_view c.leave.new.self)
    c.in-Table.is c.in_ok-enter-in-Table.ensures c.in_ok-table-in-Table.ensures c.leave.ensures

pub walk_logic-returns-in_ok-walk_members-in-List : goal.walk_logic-returns-in_ok-walk_members-in-List
walk_logic-returns-in_ok-walk_members-in-List g t c =
    walked_list (g.L.Look.look c.args.look.now) c.args.logic.now c.in-List.members c.deref.result.now
    (notes_view c.args.notes.now) (notes_view c.enter-in-List.new.self) (notes_view c.walk_members.new.notes) (notes_view c.leave-in-List.new.self)
    c.in-List.is c.deref.ensures.value c.in_ok-enter-in-List.ensures c.in_ok-walk_members-in-List.ensures c.leave-in-List.ensures

pub walk_logic-returns-in_ok-walk_context-in-Context : goal.walk_logic-returns-in_ok-walk_context-in-Context
walk_logic-returns-in_ok-walk_context-in-Context g t c =
    walked_context (g.L.Look.look c.args.look.now) c.args.logic.now c.in-Context.entries c.deref-in-Context.result.now
    (notes_view c.args.notes.now) (notes_view c.walk_context.new.notes)
    c.in-Context.is c.deref-in-Context.ensures.value c.in_ok-walk_context-in-Context.ensures

pub walk_logic-returns-in_ok-walk_logic-in-ContextWith : goal.walk_logic-returns-in_ok-walk_logic-in-ContextWith
walk_logic-returns-in_ok-walk_logic-in-ContextWith g t c =
    walked_with (g.L.Look.look c.args.look.now) c.args.logic.now c.in-ContextWith.entries c.in-ContextWith.last c.deref-in-ContextWith.result.now c.deref-in-ContextWith-2.result.now
    (notes_view c.args.notes.now) (notes_view c.walk_context-in-ContextWith.new.notes) (notes_view c.enter-in-ContextWith.new.self) (notes_view c.walk_logic.new.notes) (notes_view c.leave-in-ContextWith.new.self)
    c.in-ContextWith.is c.deref-in-ContextWith.ensures.value c.deref-in-ContextWith-2.ensures
    c.in_ok-walk_context-in-ContextWith.ensures c.in_ok-enter-in-ContextWith.ensures c.in_ok-walk_logic-in-ContextWith.ensures c.leave-in-ContextWith.ensures
