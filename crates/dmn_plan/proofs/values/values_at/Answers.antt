use Rattle.std.proofs.Common.{◌∙◌, sym, map}
use Rattle.serde_json.specs.Find.{get}
use Rattle.serde_json.specs.View.{view}
use Rattle.dmn_service.specs.Places.{name_at}
use Rattle.dmn_plan.specs.Request.{value_under}
use Rattle.dmn_plan.proofs.Requested.{each_mapped, of_object}
use Rattle.dmn_plan.proofs.values.values_at.Goals as goal

pub returns : goal.returns
returns c =
    let d = view c.args.inputs.now in
    let name = name_at c.args.items.now in
    c.in_ok-values.ensures ∙ each_mapped (λ n. value_under (get n d)) name c.args.places.now
    ∙ of_object (map name c.args.places.now) d (sym c.is_object.ensures ∙ c.if-not-is_object.false)
