use Rattle.std.proofs.Common.{◌+◌, ◌∙◌, sym, ap, drop, arith, Bor}
use Rattle.feel_value.specs.Json.{json_of, json_items}
use Rattle.feel_value.specs.Limits.{depth, names_distinct, entries_depth, entries_distinct}
use Rattle.feel_value.specs.View.{datum_of, items_view, entries_view}
use Rattle.feel_value.specs.declared.value.Value.{Value}
use Rattle.feel_value.proofs.Entries.{Entry, items_from}
use Rattle.feel_value.proofs.Pairs.{no_deeper, item_depth, lent_depth}
use Rattle.json_writer.proofs.Distinct.{distinct_in_any_order, item_distinct, lent_distinct}
use Rattle.json_writer.specs.InOrder.{as_they_stand}
use Rattle.feel_value.specs.Names.{lent}
use Rattle.json_writer.proofs.Longer.{stopped, row_begun, row_more, object_begun}
use Rattle.json_writer.proofs.parts.+parts.Goals as goal

pub add_items-loop-item-init : goal.add_items-loop-item-init
add_items-loop-item-init t c = row_begun c.args.text.now c.push.new.self (json_items (items_view c.args.items.now)) c.in_ok-push.ensures

pub add_items-returns-then-is_long : goal.add_items-returns-then-is_long
add_items-returns-then-is_long t c = stopped c.loop-item.text _ _ (sym c.is_long.ensures ∙ c.if-is_long.true) c.loop-item.invariant

pub add_items-loop-item-preserved : goal.add_items-loop-item-preserved
add_items-loop-item-preserved t c =
    let x = c.item-item.result in
    let i = c.loop-item.item-index in
    row_more _ c.loop-item.text c.add_comma.new.text c.add_part.new.text c.loop-item.later _ (json_of (datum_of x)) (json_items (items_view (drop (i + 1) c.args.items.now))) c.loop-item.invariant
    (ap json_items (items_from c.args.items.now i x c.item-item.is c.loop-item-test.true)) c.in_ok-add_comma.ensures c.in_ok-add_part.ensures

pub add_members-loop-name-init : goal.add_members-loop-name-init
add_members-loop-name-init t c = object_begun c.args.text.now c.push.new.self (as_they_stand (entries_view (lent c.args.members.now))) c.in_ok-push.ensures

pub add_members-returns-then-is_long : goal.add_members-returns-then-is_long
add_members-returns-then-is_long t c = stopped c.loop-name.text _ _ (sym c.is_long.ensures ∙ c.if-is_long.true) c.loop-name.invariant

pub add_entries-add_members-requires : goal.add_entries-add_members-requires
add_entries-add_members-requires t c =
    let es = c.args.entries.now in
    let ms = c.in_ok-members.members.items in
    let same = c.in_ok-members.ensures.0 in
    let less = no_deeper es (lent ms) same in (
      omega (arith, c.decreases, less, ap (λ xs. entries_depth (entries_view (lent xs))) c.deref.ensures.value),
      ap (λ xs. entries_distinct (entries_view (lent xs))) c.deref.ensures.value ∙ distinct_in_any_order es (lent ms) same c.requires.distinct,
    )

pub add_items-add_part-requires : goal.add_items-add_part-requires
add_items-add_part-requires t c =
    let x = c.item-item.result in
    let less = item_depth c.args.items.now c.loop-item.item-index x c.loop-item-test.true in (
      omega (arith, c.decreases, less, ap (λ (y : Value). depth (datum_of y)) c.item-item.is),
      ap (λ (y : Value). names_distinct (datum_of y)) c.item-item.is ∙ item_distinct c.args.items.now c.loop-item.item-index x c.loop-item-test.true c.requires.distinct,
    )

pub add_members-add_part-requires : goal.add_members-add_part-requires
add_members-add_part-requires t c =
    let x = c.loop-name-item.result in
    let less = lent_depth c.args.members.now c.loop-name.name-index x c.loop-name-test.true in (
      omega (arith, c.decreases, less, ap (λ (y : Bor Entry). depth (datum_of y.now.1)) c.loop-name-item.is),
      ap (λ (y : Bor Entry). names_distinct (datum_of y.now.1)) c.loop-name-item.is ∙ lent_distinct c.args.members.now c.loop-name.name-index x c.loop-name-test.true c.requires.distinct,
    )
