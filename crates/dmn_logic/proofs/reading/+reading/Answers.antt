use Rattle.std.proofs.Common.{refl, ap, ap₂, sym, ◌∙◌, List, [], ◌∷◌, map, String, Global, string_bytes}
use Rattle.std.specs.declared.sync.ArcStr.{ArcStr}
use Rattle.std.proofs.lemmas.List.{map-append}
use Rattle.dmn_form.specs.Model.{Name, members_of, entries_of}
use Rattle.dmn_form.specs.LogicView.{logic_view as written_view, entry_view as written_entry}
use Rattle.dmn_form.specs.declared.written.WrittenLogic.{WrittenLogic}
use Rattle.dmn_logic.specs.LogicView.{Read, logic_view, entry_view}
use Rattle.dmn_logic.specs.Reading.{mapped, both, context_of, logic_reading, members_reading, entries_reading}
use Rattle.dmn_logic.specs.declared.logic.Logic.{Logic}
use Rattle.dmn_logic.specs.declared.reading.Reading.{Reading}
use Rattle.dmn_logic.specs.declared.reading.Reading.TheVariants.{Found}
use Rattle.dmn_logic.proofs.Boxes.{logic_view-Context}
use Rattle.dmn_logic.proofs.Readings.{found_turn, parts_begun, parts_read, parts_refused, refused_turn, unread_turn}
use Rattle.dmn_logic.proofs.ReadingSteps.{context_found, context_read, context_with_read}
use Rattle.dmn_logic.proofs.reading.+reading.Goals as goal
use Rattle.dmn_logic.proofs.reading.+reading.Goals.{members_of-in-Found+in_ok-push-in-Found, members_of-in-Refused, entries_of-in-Found+in_ok-from_str-in-Found+in_ok-push-in-Found, entries_of-in-Refused}

abbrev members_part : WrittenLogic → Reading Read
members_part b = logic_reading (written_view b)

abbrev members_each : List WrittenLogic → Reading (List Read)
members_each bs = members_reading (members_of (map written_view bs))

abbrev entries_part : (String Global × WrittenLogic) → Reading (Name × Read)
entries_part e = mapped (λ c. (string_bytes e.0, c)) (logic_reading (written_view e.1))

abbrev entries_each : List (String Global × WrittenLogic) → Reading (List (Name × Read))
entries_each es = entries_reading (entries_of (map written_entry es))

pub logic_of-returns-in-Found-3 : goal.logic_of-returns-in-Found-3
logic_of-returns-in-Found-3 t c =
    ap Found (logic_view-Context c.in-Found-3.entries)
    ∙ sym (context_read c.args.written.now c.in-Context.entries c.deref-in-Context.result.now _ c.in-Context.is c.deref-in-Context.ensures.value c.in_ok-entries-in-Context.ensures
    ∙ ap context_found c.in-Found-3.is)

pub logic_of-returns-in-Refused-3 : goal.logic_of-returns-in-Refused-3
logic_of-returns-in-Refused-3 t c =
    sym (context_read c.args.written.now c.in-Context.entries c.deref-in-Context.result.now _ c.in-Context.is c.deref-in-Context.ensures.value c.in_ok-entries-in-Context.ensures
    ∙ ap context_found c.in-Refused-3.is)

pub logic_of-returns-in-Unread-3 : goal.logic_of-returns-in-Unread-3
logic_of-returns-in-Unread-3 t c =
    sym (context_read c.args.written.now c.in-Context.entries c.deref-in-Context.result.now _ c.in-Context.is c.deref-in-Context.ensures.value c.in_ok-entries-in-Context.ensures
    ∙ ap context_found c.in-Unread-3.is)

pub logic_of-returns-in_ok-reading-in-ContextWith : goal.logic_of-returns-in_ok-reading-in-ContextWith
logic_of-returns-in_ok-reading-in-ContextWith t c =
    c.in_ok-reading-in-ContextWith.ensures
    ∙ ap₂ (both context_of) c.in_ok-entries-in-ContextWith.ensures c.in_ok-last-in-ContextWith.ensures
    ∙ sym (context_with_read c.args.written.now c.in-ContextWith.entries c.in-ContextWith.last c.deref-in-ContextWith.result.now c.deref-in-ContextWith-2.result.now
    c.in-ContextWith.is c.deref-in-ContextWith.ensures.value c.deref-in-ContextWith-2.ensures)

pub members_of-loop-member-preserved : goal.members_of-loop-member-preserved
members_of-loop-member-preserved t c =
    elim c.match-branch-3.branch [
      | members_of-in-Found+in_ok-push-in-Found w ↦
          found_turn members_part members_each (λ b bs. refl) _ c.loop-member.is_refused _ (map logic_view c.loop-member.members.items) _ (logic_view w.in-Found.member)
          c.args.written.now c.loop-member.member-index c.member-item.result
          c.loop-member.invariant c.member-item.is c.loop-member-test.true (sym (ap (mapped logic_view) w.in-Found.is) ∙ c.in_ok-member.ensures)
          w.is_refused-is (ap (λ v. map logic_view v.items) w.members-is ∙ ap (map logic_view) w.in_ok-push-in-Found.ensures.items ∙ map-append logic_view c.loop-member.members.items (w.in-Found.member ∷ []))
      | members_of-in-Refused w ↦
          refused_turn members_part members_each (λ b bs. refl) _ c.loop-member.is_refused _ (map logic_view c.loop-member.members.items) _
          c.args.written.now c.loop-member.member-index c.member-item.result
          c.loop-member.invariant c.member-item.is c.loop-member-test.true (sym (ap (mapped logic_view) w.in-Refused.is) ∙ c.in_ok-member.ensures)
          w.is_refused-is (ap (λ v. map logic_view v.items) w.members-is)
    ]

pub members_of-returns-in-Unread : goal.members_of-returns-in-Unread
members_of-returns-in-Unread t c =
    unread_turn members_part members_each (λ b bs. refl) _ c.loop-member.is_refused (map logic_view c.loop-member.members.items)
    c.args.written.now c.loop-member.member-index c.member-item.result
    c.loop-member.invariant c.member-item.is c.loop-member-test.true (sym (ap (mapped logic_view) c.in-Unread.is) ∙ c.in_ok-member.ensures)

pub entries_of-loop-name-preserved : goal.entries_of-loop-name-preserved
entries_of-loop-name-preserved t c =
    let named = mapped (λ logic. (string_bytes c.loop-name-item.result.0, logic)) in
    elim c.match-branch-3.branch [
      | entries_of-in-Found+in_ok-from_str-in-Found+in_ok-push-in-Found w ↦
          let pair : ArcStr Global × Logic = (w.in_ok-from_str-in-Found.field-0, w.in-Found.logic) in
          found_turn entries_part entries_each (λ e es. refl) _ c.loop-name.is_refused _ (map entry_view c.loop-name.entries.items) _ (entry_view pair)
          c.args.written.now c.loop-name.name-index c.loop-name-item.result
          c.loop-name.invariant c.loop-name-item.is c.loop-name-test.true
          (ap (λ name. Found (name, logic_view w.in-Found.logic)) (w.in_ok-from_str-in-Found.ensures.ok ∙ w.as_str.ensures.value) ∙ ap named (sym (ap (mapped logic_view) w.in-Found.is) ∙ c.in_ok-logic.ensures))
          w.is_refused-is (ap (λ v. map entry_view v.items) w.entries-is ∙ ap (map entry_view) w.in_ok-push-in-Found.ensures.items ∙ map-append entry_view c.loop-name.entries.items (pair ∷ []))
      | entries_of-in-Refused w ↦
          refused_turn entries_part entries_each (λ e es. refl) _ c.loop-name.is_refused _ (map entry_view c.loop-name.entries.items) _
          c.args.written.now c.loop-name.name-index c.loop-name-item.result
          c.loop-name.invariant c.loop-name-item.is c.loop-name-test.true (ap named (sym (ap (mapped logic_view) w.in-Refused.is) ∙ c.in_ok-logic.ensures))
          w.is_refused-is (ap (λ v. map entry_view v.items) w.entries-is)
    ]

pub entries_of-returns-in-Unread : goal.entries_of-returns-in-Unread
entries_of-returns-in-Unread t c =
    unread_turn entries_part entries_each (λ e es. refl) _ c.loop-name.is_refused (map entry_view c.loop-name.entries.items)
    c.args.written.now c.loop-name.name-index c.loop-name-item.result
    c.loop-name.invariant c.loop-name-item.is c.loop-name-test.true (ap (mapped (λ logic. (string_bytes c.loop-name-item.result.0, logic))) (sym (ap (mapped logic_view) c.in-Unread.is) ∙ c.in_ok-logic.ensures))

pub members_of-loop-member-init : goal.members_of-loop-member-init
members_of-loop-member-init t c = parts_begun members_each (map logic_view c.in_ok-members.members.items) c.args.written.now (ap (map logic_view) c.in_ok-members.ensures.items)

pub members_of-returns-then-is_refused : goal.members_of-returns-then-is_refused
members_of-returns-then-is_refused t c =
    parts_refused members_each refl _ c.loop-member.is_refused (map logic_view c.loop-member.members.items) c.args.written.now c.loop-member.member-index
    c.loop-member.invariant c.loop-member-test.false c.if-is_refused.true

pub members_of-returns : goal.members_of-returns
members_of-returns t c =
    parts_read members_each refl _ c.loop-member.is_refused (map logic_view c.loop-member.members.items) c.args.written.now c.loop-member.member-index
    c.loop-member.invariant c.loop-member-test.false c.if-is_refused.false

pub entries_of-loop-name-init : goal.entries_of-loop-name-init
entries_of-loop-name-init t c = parts_begun entries_each (map entry_view c.in_ok-entries.entries.items) c.args.written.now (ap (map entry_view) c.in_ok-entries.ensures.items)

pub entries_of-returns-then-is_refused : goal.entries_of-returns-then-is_refused
entries_of-returns-then-is_refused t c =
    parts_refused entries_each refl _ c.loop-name.is_refused (map entry_view c.loop-name.entries.items) c.args.written.now c.loop-name.name-index
    c.loop-name.invariant c.loop-name-test.false c.if-is_refused.true

pub entries_of-returns : goal.entries_of-returns
entries_of-returns t c =
    parts_read entries_each refl _ c.loop-name.is_refused (map entry_view c.loop-name.entries.items) c.args.written.now c.loop-name.name-index
    c.loop-name.invariant c.loop-name-test.false c.if-is_refused.false
