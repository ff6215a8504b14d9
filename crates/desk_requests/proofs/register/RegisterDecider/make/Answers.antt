use Rattle.std.proofs.Common.{◌≡◌, Some, option_map, refl, sym, ap, ◌∙◌}
use Rattle.std.specs.Arc.{arc_value}
use Rattle.serde_json.specs.View.{view}
use Rattle.dmn_plan.specs.Request.{request_of}
use Rattle.desk_requests.specs.Register.{force_of}
use Rattle.desk_requests.proofs.Models.{due_task}
use Rattle.desk_requests.proofs.register.RegisterDecider.make.Goals as goal

pub returns-in_default-clause-made : goal.returns-in_default-clause-made
returns-in_default-clause-made c = λ _. ap (option_map arc_value) c.in_default.is

pub returns-in-Ok-clause-made : goal.returns-in-Ok-clause-made
returns-in-Ok-clause-made c = λ _.
    let some : force_of c.args.self.now ≡ Some c.in_ok-plan.plan.value = ap (option_map arc_value) c.in-Some.is ∙ ap Some (sym c.in_ok-plan.ensures) in
    (c.in_ok-plan.plan.value, some, c.in-Ok.task, c.in-Ok.ensures.ok, refl)

pub returns-in_default-fault-clause-made : goal.returns-in_default-fault-clause-made
returns-in_default-fault-clause-made c = λ _.
    let some : force_of c.args.self.now ≡ Some c.in_ok-plan.plan.value = ap (option_map arc_value) c.in-Some.is ∙ ap Some (sym c.in_ok-plan.ensures) in
    let bad = due_task (request_of c.in_ok-plan.plan.value c.args.service.now (view c.args.inputs.now)) c.in-Err.fault c.in-Err.ensures.err c.in_default-fault.not-Memory in
    (c.in_ok-plan.plan.value, some, bad)
