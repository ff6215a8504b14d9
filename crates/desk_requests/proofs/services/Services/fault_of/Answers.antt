use Rattle.std.proofs.Common.{sym}
use Rattle.serde_json.specs.View.{view}
use Rattle.desk_requests.proofs.Taken.{lawful, unlawful}
use Rattle.desk_requests.proofs.services.Services.fault_of.Goals as goal

pub returns-then-have-clause-fault : goal.returns-then-have-clause-fault
returns-then-have-clause-fault c = λ before.
    lawful c.args.plan.now c.args.service.now (view c.args.inputs.now) c.in-Some.names.now (c.in_ok-is_there.ensures.known before c.args.service.now c.in-Some.names.now (sym c.in-Some.ensures.value))
    (c.in_ok-have.ensures.all c.if-have.true)

pub returns-clause-fault : goal.returns-clause-fault
returns-clause-fault c = λ before.
    unlawful c.args.plan.now c.args.service.now (view c.args.inputs.now) c.in-Some.names.now (c.in_ok-is_there.ensures.known before c.args.service.now c.in-Some.names.now (sym c.in-Some.ensures.value))
    (c.in_ok-have.ensures.none c.if-have.false)
