use Rattle.std.proofs.Common.{Some, refl, ap, sym, ◌∙◌}
use Rattle.std.specs.Option.{option_map}
use Rattle.serde_json.specs.View.{view, members_view}
use Rattle.dmn_form.specs.Draft.{logic_in, logic_of, members_at, members_in, entries_at, entries_in, entry_at}
use Rattle.dmn_form.specs.LogicView.{logic_view, entry_view, entries_view}
use Rattle.dmn_form.proofs.LogicSteps.{context_found, pair_form, no_entries, no_logic, no_result, both_found, entry_form, logic_named}
use Rattle.dmn_form.proofs.Readings.{array_of, item_refused, item_turn, items_begun, items_read}
use Rattle.dmn_form.proofs.logic.+logic.Goals as goal

pub members_of-loop-item-preserved : goal.members_of-loop-item-preserved
members_of-loop-item-preserved t c =
    item_turn logic_of members_in logic_view (λ d ds. refl) _ c.loop-item.members.items c.push.new.self.items c.in-Some.member c.deref-item-items.result.now c.loop-item.item-index c.item-item.result
    c.loop-item.invariant c.item-item.is c.loop-item-test.true (sym (ap (option_map logic_view) c.in-Some.is) ∙ c.in_ok-member.ensures) c.in_ok-push.ensures.items

pub entries_of-loop-item-preserved : goal.entries_of-loop-item-preserved
entries_of-loop-item-preserved t c =
    item_turn entry_at entries_in entry_view (λ d ds. refl) _ c.loop-item.entries.items c.push.new.self.items c.in-Some.entry c.deref-item-items.result.now c.loop-item.item-index c.item-item.result
    c.loop-item.invariant c.item-item.is c.loop-item-test.true (sym (ap (option_map entry_view) c.in-Some.is) ∙ c.in_ok-entry.ensures) c.in_ok-push.ensures.items

pub logic_in-returns-in_default-3 : goal.logic_in-returns-in_default-3
logic_in-returns-in_default-3 t c =
    no_result _ c.are_keys.result (view c.in-Some.value.now) (view c.in-Some-next.last.now) _
    (ap (λ es. logic_in (members_view es)) (sym c.iter-rest.ensures.rest)
    ∙ pair_form c.iter-rest.result c.next.new.self c.next-2.new.self (c.in-Some.key.now, c.in-Some.value.now) (c.in-Some-next.other.now, c.in-Some-next.last.now)
    c.as_str-2.result.now c.as_str-3.result.now c.are_keys.result c.in-Some.ensures.steps c.in-Some-next.ensures.steps c.in-None.ensures.steps.0
    c.as_str-2.ensures.value c.as_str-3.ensures.value c.are_keys.ensures)
    c.if-not-are_keys.false (sym (ap (option_map entries_view) c.in-Some-2.is) ∙ c.in_ok-entries.ensures) (sym (ap (option_map logic_view) c.in_default-3.is) ∙ c.in_ok-logic-2.ensures)

pub logic_in-returns-in-Ok : goal.logic_in-returns-in-Ok
logic_in-returns-in-Ok t c =
    both_found _ c.are_keys.result (view c.in-Some.value.now) (view c.in-Some-next.last.now) c.in-Some-2.entries c.in-Ok.logic
    (ap (λ es. logic_in (members_view es)) (sym c.iter-rest.ensures.rest)
    ∙ pair_form c.iter-rest.result c.next.new.self c.next-2.new.self (c.in-Some.key.now, c.in-Some.value.now) (c.in-Some-next.other.now, c.in-Some-next.last.now)
    c.as_str-2.result.now c.as_str-3.result.now c.are_keys.result c.in-Some.ensures.steps c.in-Some-next.ensures.steps c.in-None.ensures.steps.0
    c.as_str-2.ensures.value c.as_str-3.ensures.value c.are_keys.ensures)
    c.if-not-are_keys.false (sym (ap (option_map entries_view) c.in-Some-2.is) ∙ c.in_ok-entries.ensures)
    (ap (λ l. Some (logic_view l)) c.in-Ok.ensures.ok ∙ sym (ap (option_map logic_view) c.in-Some-3.is) ∙ c.in_ok-logic-2.ensures)

pub logic_under-returns-in-Some-2 : goal.logic_under-returns-in-Some-2
logic_under-returns-in-Some-2 t c =
    context_found c.args.key.now (view c.args.value.now) c.in-Some-2.entries c.in-context.is (sym (ap (option_map entries_view) c.in-Some-2.is) ∙ c.in_ok-entries-in-context.ensures)

pub entry_of-returns : goal.entry_of-returns
entry_of-returns t c =
    let text = rw c.in-Some-text_of.is at c.text_of.ensures in
    logic_named _ c.are_keys.result (view c.in-Some.value.now) (view c.in-Some-next.name.now) _ _
    (entry_form c.args.json.now c.in-Object.members c.next.new.self c.next-2.new.self c.iter-rest.result (c.in-Some.key.now, c.in-Some.value.now) (c.in-Some-next.other.now, c.in-Some-next.name.now)
    c.as_str.result.now c.as_str-2.result.now c.are_keys.result c.in-Object.is c.iter-rest.ensures.rest c.in-Some.ensures.steps c.in-Some-next.ensures.steps c.in-None.ensures.steps.0
    c.as_str.ensures.value c.as_str-2.ensures.value c.are_keys.ensures)
    c.if-not-are_keys.false (sym (ap (option_map logic_view) c.in-Some-2.is) ∙ c.in_ok-logic.ensures) (ap Some c.in_ok-from_str.ensures.ok ∙ text)

pub logic_in-returns-in_default-2 : goal.logic_in-returns-in_default-2
logic_in-returns-in_default-2 t c =
    no_entries _ c.are_keys.result (view c.in-Some.value.now) (view c.in-Some-next.last.now)
    (ap (λ es. logic_in (members_view es)) (sym c.iter-rest.ensures.rest)
    ∙ pair_form c.iter-rest.result c.next.new.self c.next-2.new.self (c.in-Some.key.now, c.in-Some.value.now) (c.in-Some-next.other.now, c.in-Some-next.last.now)
    c.as_str-2.result.now c.as_str-3.result.now c.are_keys.result c.in-Some.ensures.steps c.in-Some-next.ensures.steps c.in-None.ensures.steps.0
    c.as_str-2.ensures.value c.as_str-3.ensures.value c.are_keys.ensures)
    c.if-not-are_keys.false (sym (ap (option_map entries_view) c.in_default-2.is) ∙ c.in_ok-entries.ensures)

pub entry_of-returns-in_default-2 : goal.entry_of-returns-in_default-2
entry_of-returns-in_default-2 t c =
    no_logic _ c.are_keys.result (view c.in-Some.value.now) (view c.in-Some-next.name.now)
    (entry_form c.args.json.now c.in-Object.members c.next.new.self c.next-2.new.self c.iter-rest.result (c.in-Some.key.now, c.in-Some.value.now) (c.in-Some-next.other.now, c.in-Some-next.name.now)
    c.as_str.result.now c.as_str-2.result.now c.are_keys.result c.in-Object.is c.iter-rest.ensures.rest c.in-Some.ensures.steps c.in-Some-next.ensures.steps c.in-None.ensures.steps.0
    c.as_str.ensures.value c.as_str-2.ensures.value c.are_keys.ensures)
    c.if-not-are_keys.false (sym (ap (option_map logic_view) c.in_default-2.is) ∙ c.in_ok-logic.ensures)

pub members_of-loop-item-init : goal.members_of-loop-item-init
members_of-loop-item-init t c = items_begun members_in logic_view c.in_ok-members.members.items c.deref-item-items.result.now c.in_ok-members.ensures.items

pub members_of-returns-in_default-2 : goal.members_of-returns-in_default-2
members_of-returns-in_default-2 t c =
    item_refused logic_of members_in logic_view (λ d ds. refl) _ c.loop-item.members.items c.deref-item-items.result.now c.loop-item.item-index c.item-item.result
    c.loop-item.invariant c.item-item.is c.loop-item-test.true (sym (ap (option_map logic_view) c.in_default-2.is) ∙ c.in_ok-member.ensures)
    ∙ array_of members_at c.args.json.now c.in-Array.items c.deref-item-items.result.now c.in-Array.is c.deref-item-items.ensures.value

pub members_of-returns : goal.members_of-returns
members_of-returns t c =
    items_read members_in logic_view refl _ c.loop-item.members.items c.deref-item-items.result.now c.loop-item.item-index c.loop-item.invariant c.loop-item-test.false
    ∙ array_of members_at c.args.json.now c.in-Array.items c.deref-item-items.result.now c.in-Array.is c.deref-item-items.ensures.value

pub entries_of-loop-item-init : goal.entries_of-loop-item-init
entries_of-loop-item-init t c = items_begun entries_in entry_view c.in_ok-entries.entries.items c.deref-item-items.result.now c.in_ok-entries.ensures.items

pub entries_of-returns-in_default-2 : goal.entries_of-returns-in_default-2
entries_of-returns-in_default-2 t c =
    item_refused entry_at entries_in entry_view (λ d ds. refl) _ c.loop-item.entries.items c.deref-item-items.result.now c.loop-item.item-index c.item-item.result
    c.loop-item.invariant c.item-item.is c.loop-item-test.true (sym (ap (option_map entry_view) c.in_default-2.is) ∙ c.in_ok-entry.ensures)
    ∙ array_of entries_at c.args.json.now c.in-Array.items c.deref-item-items.result.now c.in-Array.is c.deref-item-items.ensures.value

pub entries_of-returns : goal.entries_of-returns
entries_of-returns t c =
    items_read entries_in entry_view refl _ c.loop-item.entries.items c.deref-item-items.result.now c.loop-item.item-index c.loop-item.invariant c.loop-item-test.false
    ∙ array_of entries_at c.args.json.now c.in-Array.items c.deref-item-items.result.now c.in-Array.is c.deref-item-items.ensures.value
