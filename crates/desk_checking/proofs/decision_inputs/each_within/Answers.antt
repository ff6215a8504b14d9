use Rattle.std.proofs.Common.{◌∙◌}
use Rattle.desk_checking.proofs.AskedWithin.{left_begin, left_more, wider_begin, wider_more}
use Rattle.desk_checking.proofs.decision_inputs.each_within.Goals as goal

pub loop-one-init : goal.loop-one-init
loop-one-init c = record {
  left = left_begin c.args.asked.items c.into_iter-one-iterator.result.rest.items c.in_ok-within.within.items c.in_ok-within.ensures.items c.into_iter-one-iterator.ensures.into_iter_gives.0;
  wider = wider_begin c.args.asked.items _ c.in_ok-within.ensures.items;
}

pub loop-one-preserved : goal.loop-one-preserved
loop-one-preserved c =
    let all = c.args.asked.items in
    let old = c.loop-one.within.items in
    let new = c.push.new.self.items in
    let rest = c.next.new.self.rest.items in
    let left = c.loop-one.invariant.left ∙ c.in-Some.ensures.steps.0 in record {
      left = left_more all old new rest c.in-Some.one c.asked_at.result left c.in_ok-push.ensures.items;
      wider = wider_more all old new rest c.in-Some.one c.asked_at.result c.loop-one.invariant.wider left c.in_ok-push.ensures.items c.asked_at.ensures;
    }

pub returns : goal.returns
returns c = c.loop-one.invariant.wider
