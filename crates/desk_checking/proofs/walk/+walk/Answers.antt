use Rattle.std.proofs.Common.{◌∙◌, ◌++◌, ap, refl}
use Rattle.dmn_logic.specs.LogicView.{entries_view, logic_view, members_view}
use Rattle.dmn_check.specs.declared.place.Key.TheVariants as key
use Rattle.dmn_check.specs.declared.place.Step.TheVariants as step
use Rattle.desk_checking.specs.Tables.{behind, entry_tables, member_tables, tables_in}
use Rattle.desk_checking.specs.TablesView.{placed_views}
use Rattle.desk_checking.proofs.Walks.{turn, walked_context, walked_list, walked_table, walked_with}
use Rattle.desk_checking.proofs.walk.+walk.Goals as goal

pub add_members-loop-index-preserved : goal.add_members-loop-index-preserved
add_members-loop-index-preserved t c =
    let at = c.args.place.now in
    let i = c.loop-index.index in
    let x = c.index-members-index.result in
    turn (λ k ms. member_tables at k (members_view ms)) (λ k m. tables_in (behind at (step.Index k)) (logic_view m)) (λ k m ms. refl) c.args.members.now i x
    (placed_views c.loop-index.tables.items) (placed_views c.add_tables.new.tables.items) _ c.loop-index.invariant c.index-members-index.is c.loop-index-test.true
    (c.in_ok-add_tables.ensures ∙ ap (λ p. placed_views c.loop-index.tables.items ++ tables_in p (logic_view x)) (c.deref.ensures.value ∙ c.in_ok-inner.ensures))

pub add_entries-loop-index-preserved : goal.add_entries-loop-index-preserved
add_entries-loop-index-preserved t c =
    let at = c.args.place.now in
    let i = c.loop-index.index in
    let x = c.index-entries-index.result in
    turn (λ k es. entry_tables at k (entries_view es)) (λ k e. tables_in (behind (behind at (step.Index k)) (step.Key key.Expr)) (logic_view e.1)) (λ k e es. refl) c.args.entries.now i x
    (placed_views c.loop-index.tables.items) (placed_views c.add_tables.new.tables.items) _ c.loop-index.invariant c.index-entries-index.is c.loop-index-test.true
    (c.in_ok-add_tables.ensures ∙ ap (λ p. placed_views c.loop-index.tables.items ++ tables_in p (logic_view x.1))
    (c.deref-in-loop-index.ensures.value ∙ c.in_ok-inner.ensures ∙ ap (λ q. behind q (step.Key key.Expr)) (c.deref.ensures.value ∙ c.in_ok-element.ensures)))

pub add_tables-returns-in_ok-add_table-in-Table : goal.add_tables-returns-in_ok-add_table-in-Table
add_tables-returns-in_ok-add_table-in-Table t c =
    walked_table c.args.place.now c.args.logic.now c.in-Table.table (placed_views c.args.tables.now.items) (placed_views c.add_table.new.tables.items) c.in-Table.is c.in_ok-add_table-in-Table.ensures

pub add_tables-returns-in_ok-add_members-in-List : goal.add_tables-returns-in_ok-add_members-in-List
add_tables-returns-in_ok-add_members-in-List t c =
    walked_list c.args.place.now c.deref.result.now c.args.logic.now c.in-List.members c.deref-in-List.result.now (placed_views c.args.tables.now.items) (placed_views c.add_members.new.tables.items)
    c.in-List.is c.deref-in-List.ensures.value (c.deref.ensures.value ∙ c.in_ok-inner-in-List.ensures) c.in_ok-add_members-in-List.ensures

pub add_tables-returns-in_ok-add_context-in-Context : goal.add_tables-returns-in_ok-add_context-in-Context
add_tables-returns-in_ok-add_context-in-Context t c =
    walked_context c.args.place.now c.args.logic.now c.in-Context.entries c.deref-in-Context.result.now (placed_views c.args.tables.now.items) (placed_views c.add_context.new.tables.items)
    c.in-Context.is c.deref-in-Context.ensures.value c.in_ok-add_context-in-Context.ensures

pub add_tables-returns-in_ok-add_tables-in-ContextWith : goal.add_tables-returns-in_ok-add_tables-in-ContextWith
add_tables-returns-in_ok-add_tables-in-ContextWith t c =
    walked_with c.args.place.now c.deref-in-ContextWith-2.result.now c.args.logic.now c.in-ContextWith.entries c.in-ContextWith.last c.deref-in-ContextWith.result.now c.deref-in-ContextWith-3.result.now
    (placed_views c.args.tables.now.items) (placed_views c.add_context-in-ContextWith.new.tables.items) (placed_views c.add_tables.new.tables.items) c.in-ContextWith.is c.deref-in-ContextWith.ensures.value
    c.deref-in-ContextWith-3.ensures (c.deref-in-ContextWith-2.ensures.value ∙ c.in_ok-inner-in-ContextWith.ensures) c.in_ok-add_context-in-ContextWith.ensures c.in_ok-add_tables-in-ContextWith.ensures
