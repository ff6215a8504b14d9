use Rattle.std.proofs.Common.{map, sym, ◌∙◌}
use Rattle.dmn_names.proofs.Seen.{at_first, after_turn}
use Rattle.dmn_names.proofs.distinct.many_have_twice.Goals as goal

pub loop-item-init : goal.loop-item-init
loop-item-init g c = at_first c.new-seen.result (map g.T.Named.name_of c.args.items.now) c.new-seen.ensures.empty

pub loop-item-preserved : goal.loop-item-preserved
loop-item-preserved g c =
    after_turn g.T.Named.name_of c.args.items.now c.loop-item.item-index c.item-item.result c.name.result c.loop-item.seen c.insert.new.self _
    c.loop-item.invariant c.item-item.is c.loop-item-test.true c.name.ensures c.in_ok-is_new.ensures.updates (sym c.if-not-is_new.false ∙ c.in_ok-is_new.ensures.added)
