use Rattle.std.proofs.Common.{refl}
use Rattle.desk_serving.proofs.Hearing.{kept_script}
use Rattle.desk_serving.proofs.CatchingUp.{caught_in_part, ok_caught}
use Rattle.desk_serving.proofs.answering.StateClerk.catch_up.Goals as goal

pub returns-clause-keeps : goal.returns-clause-keeps
returns-clause-keeps g c = λ lines said.
    let old = c.args.self.now in
    kept_script old (record { rt = old.rt; lanes = c.hand_out_until_read.new.lanes; plan = old.plan; marks = old.marks; texts = old.texts }) lines said c.hand_out_until_read.ensures.same

pub returns-clause-said : goal.returns-clause-said
returns-clause-said g c =
    let old = c.args.self.now in
    ok_caught old (record { rt = old.rt; lanes = c.hand_out_until_read.new.lanes; plan = old.plan; marks = old.marks; texts = old.texts }) _ _ _ _ c.hand_out_until_read.result c.hand_out_until_read.ensures.names refl c.hand_out_until_read.ensures.handed.ok

pub returns-clause-write : goal.returns-clause-write
returns-clause-write g c = λ h. let part = c.hand_out_until_read.ensures.handed.write h in (part.0, caught_in_part c.args.self.now part.1)

pub returns-clause-memory : goal.returns-clause-memory
returns-clause-memory g c = λ h. caught_in_part c.args.self.now (c.hand_out_until_read.ensures.handed.memory h)
