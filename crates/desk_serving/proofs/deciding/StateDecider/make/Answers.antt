use Rattle.serde_json.specs.View.{view}
use Rattle.dmn_plan.specs.Request.{request_of}
use Rattle.desk_requests.proofs.Models.{due_task}
use Rattle.desk_serving.proofs.deciding.StateDecider.make.Goals as goal

pub returns-in_default-clause-made : goal.returns-in_default-clause-made
returns-in_default-clause-made g c = λ _. c.in_default.is

pub returns-in_ok-work-in-Ok-clause-made : goal.returns-in_ok-work-in-Ok-clause-made
returns-in_ok-work-in-Ok-clause-made g c = λ _. (_, c.in-Some.is, c.in-Ok.task, c.in-Ok.ensures.ok, c.in_ok-work-in-Ok.ensures.ok)

pub returns-in_default-fault-clause-made : goal.returns-in_default-fault-clause-made
returns-in_default-fault-clause-made g c = λ _.
    (_, c.in-Some.is, due_task (request_of _ c.args.service.now (view c.args.inputs.now)) c.in-Err.fault c.in-Err.ensures.err c.in_default-fault.not-Memory)
