use Rattle.desk_explaining.proofs.Answered.{at_start}
use Rattle.desk_explaining.proofs.run.explain.Goals as goal

pub answer_at_once-requires-clause-starts : goal.answer_at_once-requires-clause-starts
answer_at_once-requires-clause-starts g c = rw c.new-session.ensures (at_start c.first_state.result c.args.options.now.clients c.first_state.ensures.starts)
