use Rattle.std.proofs.lemmas.Result.{on_ok_weaker}
use Rattle.desk_explaining.proofs.Telling.{explains}
use Rattle.desk_explaining.proofs.explanation.add_explanation.Goals as goal

pub decisions_text-requires : goal.decisions_text-requires
decisions_text-requires c = (rw c.in-Some.is at c.in_ok-course.ensures.course).within

pub add_inputs-requires : goal.add_inputs-requires
add_inputs-requires c = (rw c.in-Some.is at c.in_ok-course.ensures.course).within

pub returns : goal.returns
returns c =
    let course = rw c.in-Some.is at c.in_ok-course.ensures.course in
    let task = c.args.asked.now.task in
    on_ok_weaker c.add_ticket.result
    (λ is. explains c.args.number c.args.sum.now c.args.asked.now c.args.misses c.in-Some.course c.args.text.now.items _ _ _ _ _ _ _ course (c.in_ok-decisions.ensures task course) c.in_ok-add_begin.ensures
    c.in_ok-add_asked.ensures (c.in_ok-add_inputs.ensures task course) c.in_ok-add_middle.ensures c.in_ok-add_outcome.ensures is)
    c.add_ticket.ensures
