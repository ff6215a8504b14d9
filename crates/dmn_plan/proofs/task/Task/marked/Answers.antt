use Rattle.std.proofs.Common.{◌≡◌, sym, subst, length, List, ℕ, Ok}
use Rattle.std.specs.Arc.{arc_value}
use Rattle.serde_json.specs.View.{view}
use Rattle.dmn_plan.specs.Request.{TakesValues, request_of}
use Rattle.dmn_plan.proofs.Requested.{takes}
use Rattle.dmn_plan.proofs.task.Task.marked.Goals as goal

pub invariant_of-result : goal.invariant_of-result
invariant_of-result g c =
    let t = arc_value c.args.plan in
    let n = c.args.service.now in
    let d = view c.args.inputs.now in
    let vs = c.in_ok-values.values.items in
    let made : request_of t n d ≡ Ok (record { text = t; service = n; values = vs })
    = subst (λ (s : List ℕ). request_of s n d ≡ Ok (record { text = s; service = n; values = vs })) c.deref.ensures c.in_ok-values.ensures.ok in
    (subst (λ (s : List ℕ). TakesValues t s (length vs)) (sym c.in_ok-service.ensures.ok) (takes t n d (record { text = t; service = n; values = vs }) made), c.requires)
