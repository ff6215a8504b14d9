use Rattle.desk_replaying.proofs.Turning.{answers_of, made, unmade}
use Rattle.desk_replaying.proofs.state.State.submit.Goals as goal

pub returns-in-Ok : goal.returns-in-Ok
returns-in-Ok g c = made _ _ _ _ _ _ c.in-Ok.ensures.ok (answers_of _ _ _ _ (rw c.client_of.ensures at c.ask.ensures))

pub returns-in-Err : goal.returns-in-Err
returns-in-Err g c = unmade _ _ _ _ c.in-Err.ensures.err
