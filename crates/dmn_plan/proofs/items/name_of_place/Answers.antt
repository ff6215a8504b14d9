use Rattle.std.proofs.Common.{◌≡◌, ◌∙◌, ◌-◌, ◌<◌, ap, length, get_or, arith}
use Rattle.dmn_plan.proofs.Filling.{decision_there}
use Rattle.dmn_plan.proofs.items.name_of_place.Goals as goal

pub returns-in-Some : goal.returns-in-Some
returns-in-Some c =
    let m = c.args.model.now in
    let d = c.in-Some.decision.now in
    let q = c.args.place in
    let size : c.len-inputs.result ≡ length m.inputs.items = omega (arith, c.len-inputs.ensures, m.inputs.ok.0) in
    let here : d ≡ get_or m.decisions.items (q - length m.inputs.items) d =
    c.in-Some.ensures.lookup.1 ∙ ap (λ ds. get_or ds (q - c.len-inputs.result) d) c.deref.ensures.value ∙ ap (λ n. get_or m.decisions.items (q - n) d) size in
    let within : q - length m.inputs.items < length m.decisions.items =
    omega (arith, c.in-Some.ensures.lookup.3.0, size, ap length c.deref.ensures.value) in
    c.as_str-in-Some.ensures.value ∙ decision_there m q d (omega (arith, size, c.if-place-inputs.false)) here within
