use Rattle.std.proofs.Common.{sym, ap, arith}
use Rattle.feel_value.specs.Limits.{depth}
use Rattle.feel_value.specs.View.{datum_of}
use Rattle.feel_value.proofs.Entries.{Entry}
use Rattle.feel_value.proofs.Pairs.{entry_depth, item_depth}
use Rattle.dmn_plan.proofs.Sameness.{other_items, other_entries}
use Rattle.dmn_plan.proofs.same.+same.Goals as goal

pub same_entries-returns-then-a-b : goal.same_entries-returns-then-a-b
same_entries-returns-then-a-b t c = sym (other_entries c.args.a.now c.args.b.now c.if-a-b.true)

pub same_items-returns-then-a-b : goal.same_items-returns-then-a-b
same_items-returns-then-a-b t c = sym (other_items c.args.a.now c.args.b.now c.if-a-b.true)

pub same_items-same_value-requires : goal.same_items-same_value-requires
same_items-same_value-requires t c =
    let x = c.index-a-i.result in
    let less = item_depth c.args.a.now c.loop-i.i x c.loop-i-test.true in
    (omega (arith, c.decreases, less, ap (λ y. depth (datum_of y)) c.index-a-i.is), tt)

pub same_entries-same_value-requires : goal.same_entries-same_value-requires
same_entries-same_value-requires t c =
    let x = c.index-a-i.result in
    let less = entry_depth c.args.a.now c.loop-i.i x c.loop-i-test.true in
    (omega (arith, c.decreases, less, ap (λ (y : Entry). depth (datum_of y.1)) c.index-a-i.is), tt)
