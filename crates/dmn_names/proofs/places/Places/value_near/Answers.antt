use Rattle.std.proofs.Common.{◌∙◌, sym, ap}
use Rattle.dmn_names.specs.Places.{decision_place}
use Rattle.dmn_names.specs.Index.{first_of}
use Rattle.dmn_names.specs.PlacedModel.{placed_model}
use Rattle.dmn_names.proofs.Placing.{inputs_first}
use Rattle.dmn_names.proofs.places.Places.value_near.Goals as goal

pub returns-in_default : goal.returns-in_default
returns-in_default c =
    let model = placed_model c.args.self.now in
    let name = c.args.name.now in
    c.decision_near.ensures ∙ ap (λ o. first_of o (decision_place model name)) c.in_default.ensures ∙ sym (inputs_first model name)

pub returns : goal.returns
returns c =
    let model = placed_model c.args.self.now in
    let name = c.args.name.now in
    ap (λ o. first_of o (decision_place model name)) c.in-Some.ensures ∙ sym (inputs_first model name)
