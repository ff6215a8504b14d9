use Rattle.std.proofs.Common.{◌∙◌, ap, Bor, arith}
use Rattle.feel_value.specs.Limits.{depth, names_distinct, entries_depth, entries_distinct}
use Rattle.feel_value.specs.Names.{lent}
use Rattle.feel_value.specs.View.{datum_of, entries_view}
use Rattle.feel_value.specs.declared.value.Value.{Value}
use Rattle.feel_value.proofs.Entries.{Entry}
use Rattle.feel_value.proofs.Pairs.{no_deeper, item_depth, lent_depth}
use Rattle.json_writer.proofs.Distinct.{distinct_in_any_order, item_distinct, lent_distinct}
use Rattle.json_writer.proofs.value.+values.Goals as goal

pub add_entries-add_members-requires : goal.add_entries-add_members-requires
add_entries-add_members-requires t c =
    let es = c.args.entries.now in
    let ms = c.in_ok-members.members.items in
    let same = c.in_ok-members.ensures.0 in
    let less = no_deeper es (lent ms) same in (
      omega (arith, c.decreases, less, ap (λ xs. entries_depth (entries_view (lent xs))) c.deref.ensures.value),
      ap (λ xs. entries_distinct (entries_view (lent xs))) c.deref.ensures.value ∙ distinct_in_any_order es (lent ms) same c.requires.distinct,
    )

pub add_items-add_part-requires : goal.add_items-add_part-requires
add_items-add_part-requires t c =
    let x = c.item-item.result in
    let less = item_depth c.args.items.now c.loop-item.item-index x c.loop-item-test.true in (
      omega (arith, c.decreases, less, ap (λ (y : Value). depth (datum_of y)) c.item-item.is),
      ap (λ (y : Value). names_distinct (datum_of y)) c.item-item.is ∙ item_distinct c.args.items.now c.loop-item.item-index x c.loop-item-test.true c.requires.distinct,
    )

pub add_members-add_part-requires : goal.add_members-add_part-requires
add_members-add_part-requires t c =
    let x = c.loop-name-item.result in
    let less = lent_depth c.args.members.now c.loop-name.name-index x c.loop-name-test.true in (
      omega (arith, c.decreases, less, ap (λ (y : Bor Entry). depth (datum_of y.now.1)) c.loop-name-item.is),
      ap (λ (y : Bor Entry). names_distinct (datum_of y.now.1)) c.loop-name-item.is ∙ lent_distinct c.args.members.now c.loop-name.name-index x c.loop-name-test.true c.requires.distinct,
    )
