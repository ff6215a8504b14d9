use Rattle.std.proofs.Common.{◌≡◌, ◌∙◌, sym, ap, Some, option_map}
use Rattle.feel_text.specs.Needed.{value_at}
use Rattle.feel_text.specs.Places.{last_place}
use Rattle.feel_text.proofs.Needed.{bound_at, last_taken, last_lent}
use Rattle.feel_eval.proofs.lent.Lent.find_at.Goals as goal

pub returns-then-stands_at_once : goal.returns-then-stands_at_once
returns-then-stands_at_once c =
    let here = c.self.inside in
    let name = c.args.reference.now.name in
    let stands : last_place name here.needs.now ≡ Some c.in-Some.position =
    c.stands_at_once.ensures c.if-stands_at_once.true in
    let last : last_place name c.args.self.now ≡ Some c.in-Some.position =
    sym (last_lent name here.found.now here.needs.now here.count c.args.self.now c.self.view_is)
    ∙ last_taken name here.needs.now c.in-Some.position here.count stands c.if-position-self.true in
    c.value_at.ensures ∙ sym (bound_at name c.args.self.now ∙ ap (option_map (value_at c.args.self.now)) last)
