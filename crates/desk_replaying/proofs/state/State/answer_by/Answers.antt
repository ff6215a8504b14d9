use Rattle.desk_replaying.proofs.Turning.{answered_by}
use Rattle.desk_replaying.proofs.state.State.answer_by.Goals as goal

pub returns-in-Ok : goal.returns-in-Ok
returns-in-Ok g c = answered_by _ _ _ _ _ _ _ c.in-Ok.ensures.ticket c.in-Ok.ensures.work c.ask.ensures
