use Rattle.dmn_check.proofs.Marking.{after_turn}
use Rattle.dmn_check.proofs.marks.marks_of.Goals as goal

pub loop-item-preserved : goal.loop-item-preserved
loop-item-preserved g c =
    after_turn c.args.fault g.T.Named.name_of c.args.items.now c.loop-item.item-index c.item-item.result c.name-name.result c.loop-item.seen c.insert.new.self c.loop-item.marks.items c.push.new.self.items _ c.is_in.result
    c.loop-item.invariant c.item-item.is c.loop-item-test.true c.name-name.ensures c.in_ok-is_new.ensures.updates c.in_ok-is_new.ensures.added c.is_in.ensures c.in_ok-push.ensures.items
