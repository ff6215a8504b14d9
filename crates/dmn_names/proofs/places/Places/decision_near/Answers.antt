use Rattle.std.proofs.Common.{◌∙◌, ap, Some, None, arith, refl, length}
use Rattle.dmn_names.specs.Places.{place_among}
use Rattle.dmn_names.proofs.Placing.{decision_within, behind_inputs}
use Rattle.dmn_names.proofs.places.Places.decision_near.Goals as goal

pub returns-in_err-place : goal.returns-in_err-place
returns-in_err-place c =
    let model = c.args.self.now.model.now in
    rw c.from_residual.ensures
    (behind_inputs model c.args.name.now None (length model.inputs.items) (c.in_err-place.ensures ∙ ap (λ ns. place_among ns c.args.name.now) c.args.self.now.decisions_placed) refl)

pub overflow_add-result : goal.overflow_add-result
overflow_add-result c =
    let model = c.args.self.now.model.now in
    let within = decision_within model.decisions.items c.args.name.now c.in_ok-place.place (c.in_ok-place.ensures ∙ ap (λ ns. place_among ns c.args.name.now) c.args.self.now.decisions_placed) in
    omega (arith, within, model.decisions.small, model.decisions.ok, model.inputs.small, model.inputs.ok, c.len-inputs.ensures)

pub returns : goal.returns
returns c =
    let model = c.args.self.now.model.now in
    behind_inputs model c.args.name.now (Some c.in_ok-place.place) c.len-inputs.result (c.in_ok-place.ensures ∙ ap (λ ns. place_among ns c.args.name.now) c.args.self.now.decisions_placed)
    (c.len-inputs.ensures ∙ model.inputs.ok.0)
