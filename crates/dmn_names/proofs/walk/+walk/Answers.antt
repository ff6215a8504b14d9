use Rattle.std.proofs.Common.{◌∙◌, sym, ap, map, string_bytes}
use Rattle.std.specs.List.{list_any}
use Rattle.dmn_form.specs.LogicView.{logic_view}
use Rattle.dmn_names.specs.Parts.{lists_in}
use Rattle.dmn_names.specs.Views.{context_lists_view}
use Rattle.dmn_names.proofs.Walks.{in_table, in_context, in_its_entries, in_its_result, among_names, among_entries}
use Rattle.dmn_names.proofs.walk.+walk.Goals as goal

pub is_in_context-returns-then-branch : goal.is_in_context-returns-then-branch
is_in_context-returns-then-branch g t c =
    sym c.if-branch.true ∙ among_names g.Q.Question.is_so c.args.entries.now c.in_ok-is_so_of.field-0 c.in_ok-is_so_of.ensures c.if-branch.true

pub is_in_context-returns : goal.is_in_context-returns
is_in_context-returns g t c =
    among_entries g.Q.Question.is_so c.args.entries.now c.in_ok-is_so_of.field-0 c.in_ok-is_so.is_so c.in_ok-is_so_of.ensures c.if-branch.false c.in_ok-is_so.ensures

pub is_in_logic-returns-in_ok-is_so-in-Table : goal.is_in_logic-returns-in_ok-is_so-in-Table
is_in_logic-returns-in_ok-is_so-in-Table g t c =
    in_table g.Q.Question.is_so c.in-Table.table c.in_ok-is_so-in-Table.is_so
    (c.in_ok-is_so-in-Table.ensures ∙ ap (λ cs. g.Q.Question.is_so (map (λ o. string_bytes o.name) cs)) c.deref.ensures.value)
    ∙ ap (λ l. list_any g.Q.Question.is_so (lists_in (logic_view l))) (sym c.in-Table.is)

pub is_in_logic-returns-in_ok-is_so-in-Context : goal.is_in_logic-returns-in_ok-is_so-in-Context
is_in_logic-returns-in_ok-is_so-in-Context g t c =
    in_context g.Q.Question.is_so c.in-Context.entries c.in_ok-is_so-in-Context.is_so
    (c.in_ok-is_so-in-Context.ensures ∙ ap (λ es. list_any g.Q.Question.is_so (context_lists_view es)) c.deref-in-Context.ensures.value)
    ∙ ap (λ l. list_any g.Q.Question.is_so (lists_in (logic_view l))) (sym c.in-Context.is)

pub is_in_logic-returns-then-branch : goal.is_in_logic-returns-then-branch
is_in_logic-returns-then-branch g t c =
    sym c.if-branch.true
    ∙ in_its_entries g.Q.Question.is_so c.in-ContextWith.entries c.in-ContextWith.result c.in_ok-is_in_context-in-ContextWith.field-0
    (c.in_ok-is_in_context-in-ContextWith.ensures ∙ ap (λ es. list_any g.Q.Question.is_so (context_lists_view es)) c.deref-in-ContextWith.ensures.value) c.if-branch.true
    ∙ ap (λ l. list_any g.Q.Question.is_so (lists_in (logic_view l))) (sym c.in-ContextWith.is)

pub is_in_logic-returns-in_ok-is_so-in-ContextWith : goal.is_in_logic-returns-in_ok-is_so-in-ContextWith
is_in_logic-returns-in_ok-is_so-in-ContextWith g t c =
    in_its_result g.Q.Question.is_so c.in-ContextWith.entries c.in-ContextWith.result c.in_ok-is_in_context-in-ContextWith.field-0 c.in_ok-is_so-in-ContextWith.is_so
    (c.in_ok-is_in_context-in-ContextWith.ensures ∙ ap (λ es. list_any g.Q.Question.is_so (context_lists_view es)) c.deref-in-ContextWith.ensures.value) c.if-branch.false
    (c.in_ok-is_so-in-ContextWith.ensures ∙ ap (λ l. list_any g.Q.Question.is_so (lists_in (logic_view l))) c.deref-in-ContextWith-2.ensures)
    ∙ ap (λ l. list_any g.Q.Question.is_so (lists_in (logic_view l))) (sym c.in-ContextWith.is)
