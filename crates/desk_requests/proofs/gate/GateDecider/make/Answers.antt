use Rattle.std.proofs.Common.{◌≡◌, ◌∙◌, refl, rules, sym}
use Rattle.std.specs.Arc.{arc_value}
use Rattle.serde_json.specs.View.{view}
use Rattle.dmn_plan.specs.Request.{request_of}
use Rattle.desk_requests.specs.Services.{fault_in}
use Rattle.desk_requests.proofs.Models.{has_fault, has_request}
use Rattle.desk_requests.proofs.gate.GateDecider.make.Goals as goal

pub returns-in-Some-clause-made : goal.returns-in-Some-clause-made
returns-in-Some-clause-made c = λ knows.
    let is : c.in_ok-fault.fault ≡ fault_in (request_of (arc_value c.args.self.now.plan) c.args.service.now (view c.args.inputs.now)) = search rules in
    (_, refl, has_fault (request_of (arc_value c.args.self.now.plan) c.args.service.now (view c.args.inputs.now)) c.in-Some.fault (sym c.in-Some.is ∙ is))

pub returns-in-None-clause-made : goal.returns-in-None-clause-made
returns-in-None-clause-made c = λ knows.
    let is : c.in_ok-fault.fault ≡ fault_in (request_of (arc_value c.args.self.now.plan) c.args.service.now (view c.args.inputs.now)) = search rules in
    let q = has_request (request_of (arc_value c.args.self.now.plan) c.args.service.now (view c.args.inputs.now)) (sym c.in-None.is ∙ is) in
    (_, refl, q.0, q.1, tt)
