use Rattle.std.proofs.Common.{subst, sym, map}
use Rattle.std.proofs.lemmas.List.{length-map}
use Rattle.feel_text.specs.NameOrder.{AreAll, IsRising}
use Rattle.feel_text.proofs.Ordered.{as_they_stand, in_order}
use Rattle.feel_text.proofs.name_order.order_by_name.Goals as goal

pub returns-then-is_rising : goal.returns-then-is_rising
returns-then-is_rising g c =
    let names = map g.T.HasName.name_of c.args.items.now in
    as_they_stand names c.new-none.result.items c.new-none.ensures.items (subst (IsRising names) c.deref.ensures.value (c.is_rising.ensures c.if-is_rising.true))

pub returns-then-is_rising-2 : goal.returns-then-is_rising-2
returns-then-is_rising-2 g c =
    let names = map g.T.HasName.name_of c.args.items.now in
    in_order names c.in_ok-order.order.items
    (subst (λ n. AreAll n c.in_ok-order.order.items) (sym (length-map c.args.items.now g.T.HasName.name_of)) c.in_ok-order.ensures)
    (subst (IsRising names) c.deref-2.ensures.value (c.is_rising-2.ensures c.if-is_rising-2.true))
