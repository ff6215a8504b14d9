use Rattle.desk_replaying.proofs.Turning.{made, unmade}
use Rattle.desk_replaying.proofs.state.State.answer_with.Goals as goal

pub returns-in-Ok : goal.returns-in-Ok
returns-in-Ok g c = made _ _ _ _ _ _ c.in-Ok.ensures.ok (rw c.client_of.ensures at c.answer_by.ensures)

pub returns-in-Err : goal.returns-in-Err
returns-in-Err g c = unmade _ _ _ _ c.in-Err.ensures.err
