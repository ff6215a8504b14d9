use Rattle.desk_replaying.proofs.Turning.{at_start}
use Rattle.desk_replaying.proofs.run.replay_marked.Goals as goal

pub answer_at_once-requires-clause-starts : goal.answer_at_once-requires-clause-starts
answer_at_once-requires-clause-starts g c = rw c.new-session.ensures (at_start c.new.result c.new.ensures)
