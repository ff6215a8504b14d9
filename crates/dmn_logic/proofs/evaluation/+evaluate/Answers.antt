use Rattle.std.proofs.Common.{◌≡◌, ap, sym, ◌∙◌, subst, Option, Some, None, Bool, false, if◌then◌else◌, IfOk, ◌+◌, [], ◌∷◌, ◌++◌, drop}
use Rattle.std.specs.Arc.{arc_str_bytes}
use Rattle.feel_text.specs.Meaning.{Bindings}
use Rattle.feel_value.specs.Datum.{list as list_value, items_of, context as context_value, entries_of}
use Rattle.feel_value.specs.Limits.{is_value, keeps_limits}
use Rattle.dmn_form.specs.Model.{context}
use Rattle.dmn_logic.specs.Boxed.{boxed, member_values, entry_values}
use Rattle.dmn_logic.specs.LogicView.{logic_view, members_view, entries_view}
use Rattle.dmn_logic.proofs.Boxes.{logic_view-Context, bind_turn, from_bound, from_none, with_result}
use Rattle.dmn_logic.proofs.Growing.{list_from, too_many, one_taken, context_from, too_many_named, one_named, entry_turn}
use Rattle.dmn_logic.proofs.evaluation.+evaluate.Goals as goal
use Rattle.dmn_logic.proofs.evaluation.+evaluate.Goals.{evaluate-in-Ok-true, evaluate-in-Ok-false, evaluate-in-Err}

pub list_outcome-returns-then-not-branch-clause-value : goal.list_outcome-returns-then-not-branch-clause-value
list_outcome-returns-then-not-branch-clause-value t c =
    let env = c.args.env.now in
    let ms = c.loop-member.values in
    let d = c.in-Is.value in
    let x = c.member-item.result in
    let members = c.args.members.now in
    let rest = member_values (members_view (drop (c.loop-member.member-index + 1) members)) env in
    let outcome = sym c.in-Is.is ∙ c.in_ok-value.ensures.value ∙ ap (boxed (logic_view x)) c.loop-member.invariant.0 in
    let refused : is_value (list_value (items_of (ms ++ d ∷ []))) ≡ false = sym c.in_ok-push.ensures.fits ∙ c.if-not-branch.true in
    sym (c.loop-member.invariant.1 ∙ ap list_from (one_taken env ms d members c.loop-member.member-index x c.member-item.is c.loop-member-test.true outcome) ∙ too_many (ms ++ d ∷ []) rest refused)

pub entries_outcome-returns-then-not-branch-clause-value : goal.entries_outcome-returns-then-not-branch-clause-value
entries_outcome-returns-then-not-branch-clause-value t c =
    let env = c.loop-name.env in
    let ps = c.loop-name.values in
    let d = c.in-Is.value in
    let x = c.loop-name-item.result in
    let entries = c.args.entries.now in
    let i = c.loop-name.name-index in
    let rest = entry_values (entries_view (drop (i + 1) entries)) (env ++ (arc_str_bytes x.0, d) ∷ []) in
    let outcome = sym c.in-Is.is ∙ c.in_ok-value.ensures.value in
    let same : ps ++ (arc_str_bytes c.in_ok-clone.field-0, c.in_ok-try_clone.field-0) ∷ [] ≡ ps ++ (arc_str_bytes x.0, d) ∷ [] =
    ap (λ k. ps ++ (k, c.in_ok-try_clone.field-0) ∷ []) c.in_ok-clone.ensures.cases ∙ ap (λ z. ps ++ (arc_str_bytes x.0, z) ∷ []) c.in_ok-try_clone.ensures in
    let refused : keeps_limits (context_value (entries_of (ps ++ (arc_str_bytes x.0, d) ∷ []))) ≡ false =
    ap (λ qs. keeps_limits (context_value (entries_of qs))) (sym same) ∙ sym c.in_ok-push.ensures.fits ∙ c.if-not-branch.true in
    sym (c.loop-name.invariant.1 ∙ ap context_from (one_named env ps d entries i x c.loop-name-item.is c.loop-name-test.true outcome) ∙ too_many_named (ps ++ (arc_str_bytes x.0, d) ∷ []) rest refused)

pub entries_outcome-loop-name-preserved : goal.entries_outcome-loop-name-preserved
entries_outcome-loop-name-preserved t c =
    entry_turn _ c.args.env.now c.loop-name.env c.evaluate.new.env c.bind_lent.new.self c.loop-name.values c.push.new.self c.args.entries.now c.loop-name.name-index c.loop-name-item.result
    (arc_str_bytes c.in_ok-clone.field-0) c.as_str.result.now c.in-Is.value c.in_ok-try_clone.field-0
    c.loop-name.invariant c.loop-name-item.is c.loop-name-test.true (sym c.in-Is.is ∙ c.in_ok-value.ensures.value) c.in_ok-value.ensures.same c.in_ok-bind_lent.ensures
    c.as_str.ensures.value c.in_ok-clone.ensures.cases c.in_ok-try_clone.ensures
    (c.in_ok-push.ensures.taken ∙ ap (λ b. if b then c.loop-name.values ++ (arc_str_bytes c.in_ok-clone.field-0, c.in_ok-try_clone.field-0) ∷ [] else c.loop-name.values) c.if-not-branch.false)

pub evaluate-returns-in_ok-outcome-in-Context-clause-value : goal.evaluate-returns-in_ok-outcome-in-Context-clause-value
evaluate-returns-in_ok-outcome-in-Context-clause-value t c =
    c.in_ok-outcome-in-Context.ensures.value
    ∙ ap (λ l. boxed l c.args.env.now)
    (ap (λ es. context (entries_view es)) c.deref-in-Context.ensures.value ∙ sym (ap logic_view c.in-Context.is ∙ logic_view-Context c.in-Context.entries))

pub evaluate-returns-after-bind_entries-clause-value : goal.evaluate-returns-after-bind_entries-clause-value
evaluate-returns-after-bind_entries-clause-value t c =
    let outer = c.args.env.now in
    let whole = with_result c.args.logic.now c.in-ContextWith.entries c.deref-in-ContextWith.result.now c.in-ContextWith.last outer c.in-ContextWith.is c.deref-in-ContextWith.ensures.value in
    let meant = boxed (logic_view c.args.logic.now) outer in
    let after = c.bind_entries.new.env in
    let bound_where : Bool → Option Bindings = λ all. if all then Some after else None in
    elim c.match-bind_entries.branch [
      | evaluate-in-Ok-true w ↦
          let bound = w.in-Ok-true.ensures.bound ∙ ap bound_where w.in-Ok-true.field-0-test in
          let same = ap (λ l. boxed (logic_view l) after) w.deref-in-Ok-true.ensures ∙ sym (whole ∙ from_bound (boxed (logic_view c.in-ContextWith.last.value)) outer after _ bound) in
          subst (λ r. IfOk r (λ o. o ≡ meant)) (sym w.outcome-is) (subst (λ d. IfOk w.evaluate-outcome.result (λ o. o ≡ d)) same w.evaluate-outcome.ensures.value)
      | evaluate-in-Ok-false w ↦
          let bound = w.in-Ok-false.ensures.bound ∙ ap bound_where w.in-Ok-false.field-0-test in
          subst (λ r. IfOk r (λ o. o ≡ meant)) (sym w.outcome-is) (sym (whole ∙ from_none (boxed (logic_view c.in-ContextWith.last.value)) outer _ bound))
      | evaluate-in-Err w ↦ subst (λ r. IfOk r (λ o. o ≡ meant)) (sym w.outcome-is) tt
    ]

pub bind_entries-loop-name-preserved : goal.bind_entries-loop-name-preserved
bind_entries-loop-name-preserved t c =
    bind_turn _ c.args.env.now c.loop-name.env c.evaluate.new.env c.bind_lent.new.self c.args.entries.now c.loop-name.name-index c.loop-name-item.result c.as_str.result.now c.in-Is.value
    c.loop-name.invariant c.loop-name-item.is c.loop-name-test.true (sym c.in-Is.is ∙ c.in_ok-value.ensures.value) c.in_ok-value.ensures.same c.in_ok-bind_lent.ensures c.as_str.ensures.value
