use Rattle.std.proofs.Common.{◌∙◌, ◌++◌, ◌∷◌, [], refl, ap, subst}
use Rattle.std.specs.Arc.{arc_str_bytes}
use Rattle.std.proofs.Math.Seq.{take-length}
use Rattle.dmn_logic.specs.LogicView.{entries_view, logic_view}
use Rattle.dmn_ranges.specs.Boxes.{TellsBox}
use Rattle.dmn_ranges.specs.Columns.{AddsEntries, AddsTables}
use Rattle.dmn_ranges.specs.Ranges.{Scope, plain}
use Rattle.dmn_ranges.specs.Tables.{column_outcomes}
use Rattle.dmn_ranges.proofs.Naming.{kept_more}
use Rattle.dmn_ranges.proofs.SoundColumns.{entries_begin, entries_done, entries_turn, members_begin, members_done, members_turn, of_context, of_result, of_table}
use Rattle.dmn_ranges.proofs.columns.+columns.Goals as goal

pub add_members-loop-logic-init : goal.add_members-loop-logic-init
add_members-loop-logic-init t c = record {
  tables = members_begin c.args.names.now c.args.logics.now c.args.columns.now.items;
  names = refl;
}

pub add_members-loop-logic-preserved : goal.add_members-loop-logic-preserved
add_members-loop-logic-preserved t c =
    let x = c.logic-item.result in
    let before = c.loop-logic.invariant in
    let old = c.loop-logic.columns.items in
    let new = c.add_tables.new.columns.items in
    record {
      tables = members_turn c.args.names.now c.args.logics.now c.loop-logic.logic-index x c.args.columns.now.items old new
          before.tables c.logic-item.is c.loop-logic-test.true (subst (λ xs. AddsTables xs (logic_view x) old new) before.names c.in_ok-add_tables.ensures.tables);
      names = c.in_ok-add_tables.ensures.names ∙ before.names;
    }

pub add_members-returns : goal.add_members-returns
add_members-returns t c = record {
  tables = members_done c.args.names.now c.args.logics.now c.loop-logic.logic-index c.args.columns.now.items c.loop-logic.columns.items c.loop-logic.invariant.tables c.loop-logic-test.false;
  names = c.loop-logic.invariant.names;
}

pub add_entries-loop-name-init : goal.add_entries-loop-name-init
add_entries-loop-name-init t c = record {
  tables = entries_begin c.args.names.now c.args.names.now c.args.entries.now c.args.columns.now.items refl;
  names = take-length c.args.names.now;
}

pub add_entries-loop-name-preserved : goal.add_entries-loop-name-preserved
add_entries-loop-name-preserved t c =
    let x = c.loop-name-item.result in
    let before = c.loop-name.invariant in
    let old = c.loop-name.columns.items in
    let names = c.loop-name.names in
    let next = c.bind.new.self in
    let o = c.in_ok-told.told in
    let told = subst (λ ys. TellsBox ys (logic_view x.1) o) c.in_ok-add_tables.ensures.names c.in_ok-told.ensures.told in
    let bound = c.in_ok-bind.ensures ∙ ap (λ (xs : Scope). xs ++ (c.as_str.result.now, plain o.range) ∷ []) (c.in_ok-told.ensures.names ∙ c.in_ok-add_tables.ensures.names) ∙ ap (λ n. names ++ (n, plain o.range) ∷ []) c.as_str.ensures.value in
    record {
      tables = entries_turn c.args.names.now names c.args.entries.now c.loop-name.name-index x c.args.columns.now.items old c.add_tables.new.columns.items next o
          before.tables c.loop-name-item.is c.loop-name-test.true c.in_ok-add_tables.ensures.tables told bound;
      names = kept_more c.args.names.now names next (arc_str_bytes x.0, plain o.range) before.names bound;
    }

pub add_entries-returns : goal.add_entries-returns
add_entries-returns t c = record {
  tables = entries_done c.args.names.now c.loop-name.names c.args.entries.now c.loop-name.name-index c.args.columns.now.items c.loop-name.columns.items c.loop-name.invariant.tables c.loop-name-test.false;
  names = c.loop-name.invariant.names;
}

pub add_tables-returns-in_ok-push-in-Table-clause-tables : goal.add_tables-returns-in_ok-push-in-Table-clause-tables
add_tables-returns-in_ok-push-in-Table-clause-tables t c =
    of_table c.args.names.now c.args.logic.now c.in-Table.table c.in_ok-inputs-in-Table.inputs c.args.columns.now.items c.push.new.self.items c.in-Table.is c.in_ok-push-in-Table.ensures.items
    (c.in_ok-inputs-in-Table.ensures ∙ ap (column_outcomes c.args.names.now) c.inputs.ensures)

pub add_tables-returns-in_ok-add_entries-in-Context-clause-tables : goal.add_tables-returns-in_ok-add_entries-in-Context-clause-tables
add_tables-returns-in_ok-add_entries-in-Context-clause-tables t c =
    let xs = c.args.names.now in
    let ys = c.add_entries.new.names in
    let old = c.args.columns.now.items in
    let new = c.add_entries.new.columns.items in
    of_context xs ys c.args.logic.now c.in-Context.entries old new c.in-Context.is (subst (λ es. AddsEntries xs (entries_view es) old new ys) c.deref-in-Context.ensures.value c.in_ok-add_entries-in-Context.ensures.tables)

pub add_tables-returns-in_ok-add_tables-in-ContextWith-clause-tables : goal.add_tables-returns-in_ok-add_tables-in-ContextWith-clause-tables
add_tables-returns-in_ok-add_tables-in-ContextWith-clause-tables t c =
    let xs = c.args.names.now in
    let ys = c.add_entries-in-ContextWith.new.names in
    let old = c.args.columns.now.items in
    let cur = c.add_entries-in-ContextWith.new.columns.items in
    let new = c.add_tables.new.columns.items in
    let entries = subst (λ es. AddsEntries xs (entries_view es) old cur ys) c.deref-in-ContextWith.ensures.value c.in_ok-add_entries-in-ContextWith.ensures.tables in
    of_result xs ys c.args.logic.now c.in-ContextWith.entries c.in-ContextWith.last old cur new c.in-ContextWith.is entries
    (subst (λ l. AddsTables ys (logic_view l) cur new) c.deref-in-ContextWith-2.ensures c.in_ok-add_tables-in-ContextWith.ensures.tables)
