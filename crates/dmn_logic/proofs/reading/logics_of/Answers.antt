use Rattle.std.proofs.Common.{refl, sym, ap, ◌∙◌, ◌∷◌, [], map, List}
use Rattle.std.proofs.lemmas.List.{map-append}
use Rattle.dmn_form.specs.ModelView.{decision_view}
use Rattle.dmn_form.specs.declared.written.WrittenDecision.{WrittenDecision}
use Rattle.dmn_logic.specs.LogicView.{Read, logic_view}
use Rattle.dmn_logic.specs.Reading.{mapped, logic_reading, decisions_reading}
use Rattle.dmn_logic.specs.declared.reading.Reading.{Reading}
use Rattle.dmn_logic.proofs.Readings.{found_turn, parts_begun, parts_read, parts_refused, refused_turn, unread_turn}
use Rattle.dmn_logic.proofs.reading.logics_of.Goals as goal
use Rattle.dmn_logic.proofs.reading.logics_of.Goals.{in-Found+in_ok-push-in-Found, in-Refused}

abbrev part : WrittenDecision → Reading Read
part d = logic_reading (decision_view d).logic

abbrev each : List WrittenDecision → Reading (List Read)
each ds = decisions_reading (map decision_view ds)

pub loop-decision-init : goal.loop-decision-init
loop-decision-init c = parts_begun each (map logic_view c.in_ok-logics.logics.items) c.args.decisions.now (ap (map logic_view) c.in_ok-logics.ensures.items)

pub loop-decision-preserved : goal.loop-decision-preserved
loop-decision-preserved c =
    elim c.match-branch-3.branch [
      | in-Found+in_ok-push-in-Found w ↦
          found_turn part each (λ d ds. refl) _ c.loop-decision.is_refused _ (map logic_view c.loop-decision.logics.items) _ (logic_view w.in-Found.logic)
          c.args.decisions.now c.loop-decision.decision-index c.decision-item.result
          c.loop-decision.invariant c.decision-item.is c.loop-decision-test.true (sym (ap (mapped logic_view) w.in-Found.is) ∙ c.in_ok-logic.ensures)
          w.is_refused-is (ap (λ v. map logic_view v.items) w.logics-is ∙ ap (map logic_view) w.in_ok-push-in-Found.ensures.items ∙ map-append logic_view c.loop-decision.logics.items (w.in-Found.logic ∷ []))
      | in-Refused w ↦
          refused_turn part each (λ d ds. refl) _ c.loop-decision.is_refused _ (map logic_view c.loop-decision.logics.items) _
          c.args.decisions.now c.loop-decision.decision-index c.decision-item.result
          c.loop-decision.invariant c.decision-item.is c.loop-decision-test.true (sym (ap (mapped logic_view) w.in-Refused.is) ∙ c.in_ok-logic.ensures)
          w.is_refused-is (ap (λ v. map logic_view v.items) w.logics-is)
    ]

pub returns-in-Unread : goal.returns-in-Unread
returns-in-Unread c =
    unread_turn part each (λ d ds. refl) _ c.loop-decision.is_refused (map logic_view c.loop-decision.logics.items)
    c.args.decisions.now c.loop-decision.decision-index c.decision-item.result
    c.loop-decision.invariant c.decision-item.is c.loop-decision-test.true (sym (ap (mapped logic_view) c.in-Unread.is) ∙ c.in_ok-logic.ensures)

pub returns-then-is_refused : goal.returns-then-is_refused
returns-then-is_refused c =
    parts_refused each refl _ c.loop-decision.is_refused (map logic_view c.loop-decision.logics.items) c.args.decisions.now c.loop-decision.decision-index
    c.loop-decision.invariant c.loop-decision-test.false c.if-is_refused.true

pub returns : goal.returns
returns c =
    parts_read each refl _ c.loop-decision.is_refused (map logic_view c.loop-decision.logics.items) c.args.decisions.now c.loop-decision.decision-index
    c.loop-decision.invariant c.loop-decision-test.false c.if-is_refused.false
