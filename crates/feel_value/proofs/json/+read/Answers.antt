use Rattle.std.proofs.Common.{◌≡◌, ◌+◌, ◌&&◌, Some, option_map, drop, sym, ap, ◌∙◌, arith, string_bytes}
use Rattle.std.proofs.lemmas.List.{drop_all}
use Rattle.std.proofs.lemmas.Result.{err_from_is_err_and}
use Rattle.serde_json.specs.View as seen
use Rattle.feel_value.specs.Json.{items_of_json, entries_of_json}
use Rattle.feel_value.specs.Datum.{null}
use Rattle.feel_value.specs.JsonKeys.{items_rise, members_rise}
use Rattle.feel_value.specs.Sizes.{size, size_of, grown_by, with_items, with_entries}
use Rattle.feel_value.specs.View.{datum_of, items_view as values_view, entries_view}
use Rattle.feel_value.proofs.Entries.{Entry}
use Rattle.feel_value.proofs.FromJson.{items_after, entries_after, items_after-all, entries_after-all, items_step, entries_step, items_stop, entries_stop, fault_of_whole, json_items_from}
use Rattle.feel_value.proofs.JsonKeys.{members_in_order, differ_from_json}
use Rattle.feel_value.proofs.Sums.{items_more, entries_more, context_size}
use Rattle.feel_value.proofs.json.+read.Goals as goal

pub read_items-returns-in_err-value-clause-due : goal.read_items-returns-in_err-value-clause-due
read_items-returns-in_err-value-clause-due t c =
    let rest = items_of_json (seen.items_view (drop (c.loop-item.item-index + 1) c.args.items.now)) in
    let here = c.loop-item.invariant.read ∙ ap (λ ds. option_map (items_after c.loop-item.values.items) (items_of_json ds)) (json_items_from c.args.items.now c.loop-item.item-index c.item-item.result c.item-item.is c.loop-item-test.true) in
    let p = err_from_is_err_and c.from_residual-in_err-value.result c.from_residual-in_err-value.ensures.1 in
    rw (p.1, p.2) (fault_of_whole _ _ _ (λ h. here ∙ items_stop c.loop-item.values.items _ rest h) c.in_err-value.ensures.due)

pub read_items-loop-item-preserved : goal.read_items-loop-item-preserved
read_items-loop-item-preserved t c =
    let vs = c.loop-item.values.items in
    let left = seen.items_view (drop (c.loop-item.item-index + 1) c.args.items.now) in
    let from = json_items_from c.args.items.now c.loop-item.item-index c.item-item.result c.item-item.is c.loop-item-test.true in record {
      read =
          c.loop-item.invariant.read ∙ ap (λ ds. option_map (items_after vs) (items_of_json ds)) from
          ∙ items_step vs c.in_ok-value.value _ (items_of_json left) c.in_ok-value.ensures.due ∙ ap (λ xs. option_map (items_after xs) (items_of_json left)) (sym c.in_ok-push.ensures.items);
      size =
          c.grown_by-size.ensures ∙ ap (λ s. grown_by s (size_of (datum_of c.in_ok-value.value))) c.loop-item.invariant.size
          ∙ sym (items_more (size null) vs c.in_ok-value.value) ∙ ap (λ xs. with_items (size null) (values_view xs)) (sym c.in_ok-push.ensures.items);
      rising = c.loop-item.invariant.rising ∙ ap items_rise from ∙ ap (λ b. b && items_rise left) c.in_ok-value.ensures.rising;
    }

pub read_items-returns-clause-due : goal.read_items-returns-clause-due
read_items-returns-clause-due t c =
    let vs = c.loop-item.values.items in
    c.loop-item.invariant.read ∙ ap (λ xs. option_map (items_after vs) (items_of_json (seen.items_view xs))) (drop_all c.loop-item.item-index c.args.items.now (omega arith)) ∙ ap Some (items_after-all vs ∙ sym c.of_size.ensures)

pub read_items-returns-clause-rising : goal.read_items-returns-clause-rising
read_items-returns-clause-rising t c = c.loop-item.invariant.rising ∙ ap (λ xs. items_rise (seen.items_view xs)) (drop_all c.loop-item.item-index c.args.items.now (omega arith))

pub read_members-returns-in_err-value-clause-due : goal.read_members-returns-in_err-value-clause-due
read_members-returns-in_err-value-clause-due t c =
    let xs = c.loop-key.entries.items in
    let rest = entries_of_json (seen.members_view c.next.new.self) in
    let here = c.loop-key.invariant.read ∙ ap (λ es. option_map (entries_after xs) (entries_of_json (seen.members_view es))) c.in-Some.ensures.steps in
    let p = err_from_is_err_and c.from_residual-in_err-value.result c.from_residual-in_err-value.ensures.1 in
    rw (p.1, p.2) (fault_of_whole _ _ _ (λ h. here ∙ entries_stop xs (string_bytes c.in-Some.key.now) _ rest h) c.in_err-value.ensures.due)

pub read_members-loop-key-preserved : goal.read_members-loop-key-preserved
read_members-loop-key-preserved t c =
    let xs = c.loop-key.entries.items in
    let x : Entry = (c.in_ok-name.name, c.in_ok-value.value) in
    let left = seen.members_view c.next.new.self in record {
      read =
          c.loop-key.invariant.read ∙ ap (λ es. option_map (entries_after xs) (entries_of_json (seen.members_view es))) c.in-Some.ensures.steps
          ∙ entries_step xs x (string_bytes c.in-Some.key.now) _ (entries_of_json left) (sym (c.in_ok-name.ensures.ok ∙ c.as_str.ensures.value)) c.in_ok-value.ensures.due
          ∙ ap (λ ys. option_map (entries_after ys) (entries_of_json left)) (sym c.in_ok-push.ensures.items);
      size =
          c.grown_by-size.ensures ∙ ap (λ s. grown_by s (size_of (datum_of c.in_ok-value.value))) c.loop-key.invariant.size
          ∙ sym (entries_more (size null) xs x) ∙ ap (λ ys. with_entries (size null) (entries_view ys)) (sym c.in_ok-push.ensures.items);
      rising = c.loop-key.invariant.rising ∙ ap (λ es. members_rise (seen.members_view es)) c.in-Some.ensures.steps ∙ ap (λ b. b && members_rise left) c.in_ok-value.ensures.rising;
    }

pub read_members-returns-clause-due : goal.read_members-returns-clause-due
read_members-returns-clause-due t c =
    let xs = c.loop-key.entries.items in
    c.loop-key.invariant.read ∙ ap (λ es. option_map (entries_after xs) (entries_of_json (seen.members_view es))) c.in-None.ensures.steps.0 ∙ ap Some (entries_after-all xs ∙ sym c.of_size.ensures)

pub read_members-of_size-requires : goal.read_members-of_size-requires
read_members-of_size-requires t c =
    let xs = c.loop-key.entries.items in
    let es = entries_view xs in
    let read : entries_of_json (seen.members_view c.args.members.now.entries) ≡ Some es =
    c.loop-key.invariant.read ∙ ap (λ ms. option_map (entries_after xs) (entries_of_json (seen.members_view ms))) c.in-None.ensures.steps.0 ∙ ap Some (entries_after-all xs) in
    let differ = differ_from_json (seen.members_view c.args.members.now.entries) es (members_in_order c.args.members.now c.iter-key-items.ensures.ordered) read in
    c.loop-key.invariant.size ∙ context_size es differ

pub read_members-returns-clause-rising : goal.read_members-returns-clause-rising
read_members-returns-clause-rising t c =
    (members_in_order c.args.members.now c.iter-key-items.ensures.ordered, c.loop-key.invariant.rising ∙ ap (λ es. members_rise (seen.members_view es)) c.in-None.ensures.steps.0)
