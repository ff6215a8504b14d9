use Rattle.std.proofs.Common.{string_bytes}
use Rattle.dmn_plan.specs.ReadModel.{read_text}
use Rattle.dmn_plan.proofs.Requested.{serves}
use Rattle.dmn_plan.proofs.plan.Plan.values_for.Goals as goal

pub values_at-requires : goal.values_at-requires
values_at-requires c =
    let t = string_bytes c.self.inside.text in
    let items = c.self.inside.items.items in
    let s = serves (read_text t) items c.self.inside.services c.args.service.now c.in-Some.plan.now c.self.invariant.0 c.in-Some.ensures.value in
    rw (c.deref.ensures.value, c.deref-2.ensures.value) s.within.parameters
