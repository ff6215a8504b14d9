use Rattle.std.proofs.Common.{refl}
use Rattle.std.proofs.lemmas.Result.{on_ok_weaker}
use Rattle.desk_serving.proofs.state.State.settle.Goals as goal

pub put-requires : goal.put-requires
put-requires g c = let can = rw c.in-Asked.is at c.requires.can in record { few = c.requires.few; seat = can.0; yet = can.1 }

pub tell-requires : goal.tell-requires
tell-requires g c = record { seat = rw c.in-Refused.is at c.requires.can }

pub tell-requires-in-Closed : goal.tell-requires-in-Closed
tell-requires-in-Closed g c = record { seat = rw c.in-Closed.is at c.requires.can }

pub tell-requires-in-Resized : goal.tell-requires-in-Resized
tell-requires-in-Resized g c = record { seat = rw c.in-Resized.is at c.requires.can }

pub returns-in-Loaded-clause-settles : goal.returns-in-Loaded-clause-settles
returns-in-Loaded-clause-settles g c = rw c.in-Loaded.is (on_ok_weaker c.add_to.result (λ is. (refl, refl, is)) c.add_to.ensures)

pub returns-in-Told-clause-settles : goal.returns-in-Told-clause-settles
returns-in-Told-clause-settles g c = rw c.in-Told.is (on_ok_weaker c.add_to-in-Told.result (λ is. (refl, is)) c.add_to-in-Told.ensures)

pub returns-in-Refused-clause-settles : goal.returns-in-Refused-clause-settles
returns-in-Refused-clause-settles g c = rw c.in-Refused.is c.tell.ensures.answers

pub returns-in-Asked-clause-settles : goal.returns-in-Asked-clause-settles
returns-in-Asked-clause-settles g c = rw c.in-Asked.is (on_ok_weaker c.put.result (λ put lane at. put c.args.text.now.items lane at) c.put.ensures.answers)

pub returns-in-Closed-clause-settles : goal.returns-in-Closed-clause-settles
returns-in-Closed-clause-settles g c = rw c.in-Closed.is c.tell-in-Closed.ensures.answers

pub returns-in-Resized-clause-settles : goal.returns-in-Resized-clause-settles
returns-in-Resized-clause-settles g c = rw c.in-Resized.is c.tell-in-Resized.ensures.answers
