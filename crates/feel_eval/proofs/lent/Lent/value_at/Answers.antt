use Rattle.std.proofs.Common.{◌∙◌, ap}
use Rattle.feel_text.specs.Needed.{found_at}
use Rattle.feel_text.proofs.Needed.{value_there}
use Rattle.feel_eval.proofs.lent.Lent.value_at.Goals as goal

pub returns : goal.returns
returns c =
    let here = c.self.inside in
    c.value_found.ensures ∙ ap (found_at here.found.now) c.place.ensures
    ∙ value_there here.found.now here.needs.now here.count c.args.position c.args.self.now c.self.invariant c.self.view_is c.requires
