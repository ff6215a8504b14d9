use Rattle.std.proofs.Common.{map, ap, sym, ◌∙◌, ◌∷◌, [], option_map}
use Rattle.std.proofs.lemmas.List.{map-append}
use Rattle.dmn_form.specs.FormView.{column_view as written_column}
use Rattle.dmn_table.specs.Parts.{column_view}
use Rattle.dmn_table.proofs.Each.{each_begun, each_done, each_more, each_none}
use Rattle.dmn_logic.specs.ReadLogic.{read_column}
use Rattle.dmn_logic.proofs.table.columns_of.Goals as goal

pub loop-column-init : goal.loop-column-init
loop-column-init c = each_begun read_column written_column (map column_view c.in_ok-columns.columns.items) c.args.written.now (ap (map column_view) c.in_ok-columns.ensures.items)

pub loop-column-preserved : goal.loop-column-preserved
loop-column-preserved c =
    each_more read_column written_column _ (map column_view c.loop-column.columns.items) (map column_view c.push.new.self.items) (column_view c.in-Some.column) c.args.written.now c.loop-column.column-index c.column-item.result
    c.loop-column.invariant c.column-item.is c.loop-column-test.true (sym c.in_ok-column.ensures ∙ ap (option_map column_view) c.in-Some.is)
    (ap (map column_view) c.in_ok-push.ensures.items ∙ map-append column_view c.loop-column.columns.items (c.in-Some.column ∷ []))

pub returns-in_default : goal.returns-in_default
returns-in_default c =
    each_none read_column written_column _ (map column_view c.loop-column.columns.items) c.args.written.now c.loop-column.column-index c.column-item.result
    c.loop-column.invariant c.column-item.is c.loop-column-test.true (sym c.in_ok-column.ensures ∙ ap (option_map column_view) c.in_default.is)

pub returns : goal.returns
returns c = each_done read_column written_column _ (map column_view c.loop-column.columns.items) c.args.written.now c.loop-column.column-index c.loop-column.invariant c.loop-column-test.false
