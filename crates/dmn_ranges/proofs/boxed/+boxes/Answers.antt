use Rattle.std.proofs.Common.{◌∙◌, ◌++◌, ◌∷◌, [], refl, sym, ap, subst}
use Rattle.std.specs.Arc.{arc_str_bytes}
use Rattle.std.proofs.Math.Seq.{take-length}
use Rattle.dmn_logic.specs.LogicView.{logic_view, members_view, entries_view}
use Rattle.dmn_form.specs.Model.{list}
use Rattle.dmn_ranges.specs.Boxes.{TellsBox, TellsEntries}
use Rattle.dmn_ranges.specs.Ranges.{Scope, plain}
use Rattle.dmn_ranges.specs.Steps.{list_of}
use Rattle.dmn_ranges.proofs.BoxForms.{expression_told, list_told, with_told}
use Rattle.dmn_ranges.proofs.Naming.{kept_more}
use Rattle.dmn_ranges.proofs.SoundBoxes.{MembersFrom, members_begin, members_turn, members_done, entries_begin, entries_turn, entries_done}
use Rattle.dmn_ranges.proofs.boxed.+boxes.Goals as goal

pub members-loop-logic-init : goal.members-loop-logic-init
members-loop-logic-init t c = record {
  told = subst (λ p. MembersFrom c.args.names.now c.args.logics.now 0 p) (sym c.none-parts.ensures) (members_begin c.args.names.now c.args.logics.now);
  names = refl;
}

pub members-loop-logic-preserved : goal.members-loop-logic-preserved
members-loop-logic-preserved t c =
    let before = c.loop-logic.invariant in
    let told = subst (λ xs. TellsBox xs (logic_view c.logic-item.result) c.in_ok-told.told) before.names c.in_ok-told.ensures.told in
    record {
      told = members_turn c.args.names.now c.args.logics.now c.loop-logic.logic-index c.logic-item.result c.loop-logic.parts c.with-parts.result c.in_ok-told.told
          before.told c.logic-item.is c.loop-logic-test.true told c.with-parts.ensures;
      names = c.in_ok-told.ensures.names ∙ before.names;
    }

pub members-returns : goal.members-returns
members-returns t c = record {
  told = members_done c.args.names.now c.args.logics.now c.loop-logic.logic-index c.loop-logic.parts c.loop-logic.invariant.told c.loop-logic-test.false;
  names = c.loop-logic.invariant.names;
}

pub bind_entries-loop-name-init : goal.bind_entries-loop-name-init
bind_entries-loop-name-init t c = record {
  told = entries_begin c.args.names.now c.args.names.now c.args.entries.now refl;
  names = take-length c.args.names.now;
}

pub bind_entries-loop-name-preserved : goal.bind_entries-loop-name-preserved
bind_entries-loop-name-preserved t c =
    let x = c.loop-name-item.result in
    let before = c.loop-name.invariant in
    let old = c.loop-name.names in
    let next = c.bind.new.self in
    let bound = c.in_ok-bind.ensures ∙ ap (λ (xs : Scope). xs ++ (c.as_str.result.now, plain c.in_ok-told.told.range) ∷ []) c.in_ok-told.ensures.names ∙ ap (λ n. old ++ (n, plain c.in_ok-told.told.range) ∷ []) c.as_str.ensures.value in
    record {
      told = entries_turn c.args.names.now c.args.entries.now c.loop-name.name-index x c.loop-name.limit c.either-limit.result old next c.in_ok-told.told
          before.told c.loop-name-item.is c.loop-name-test.true c.in_ok-told.ensures.told bound c.either-limit.ensures;
      names = kept_more c.args.names.now old next (arc_str_bytes x.0, plain c.in_ok-told.told.range) before.names bound;
    }

pub bind_entries-returns : goal.bind_entries-returns
bind_entries-returns t c = record {
  told = entries_done c.args.names.now c.args.entries.now c.loop-name.name-index c.loop-name.limit c.loop-name.names c.loop-name.invariant.told c.loop-name-test.false;
  names = c.loop-name.invariant.names;
}

pub box_outcomes-returns-in-Expression-clause-told : goal.box_outcomes-returns-in-Expression-clause-told
box_outcomes-returns-in-Expression-clause-told t c = expression_told c.args.names.now c.args.logic.now c.in-Expression.expression c.expr_outcomes.result c.in-Expression.is c.expr_outcomes.ensures

pub box_outcomes-returns-in_ok-parts-in-List-clause-told : goal.box_outcomes-returns-in_ok-parts-in-List-clause-told
box_outcomes-returns-in_ok-parts-in-List-clause-told t c =
    let xs = c.args.names.now in
    let p = c.in_ok-parts-in-List.parts in
    list_told xs c.args.logic.now c.in-List.logics p c.list.result c.in-List.is c.list.ensures (subst (λ ls. TellsBox xs (list (members_view ls)) (list_of p)) c.deref.ensures.value c.in_ok-parts-in-List.ensures.told)

pub box_outcomes-returns-in_ok-told-in-ContextWith-clause-told : goal.box_outcomes-returns-in_ok-told-in-ContextWith-clause-told
box_outcomes-returns-in_ok-told-in-ContextWith-clause-told t c =
    let xs = c.args.names.now in
    let ys = c.bind_entries.new.names in
    let limit = c.in_ok-limit-in-ContextWith.limit in
    let o = c.in_ok-told-in-ContextWith.told in
    let entries = subst (λ es. TellsEntries xs (entries_view es) limit ys) c.deref-in-ContextWith.ensures.value c.in_ok-limit-in-ContextWith.ensures.told in
    with_told xs ys c.args.logic.now c.in-ContextWith.entries c.in-ContextWith.last limit o c.limited.result c.in-ContextWith.is c.limited.ensures entries
    (subst (λ l. TellsBox ys (logic_view l) o) c.deref-in-ContextWith-2.ensures c.in_ok-told-in-ContextWith.ensures.told)
