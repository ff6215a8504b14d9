use Rattle.std.proofs.Common.{◌∙◌, sym, ap}
use Rattle.feel_text.specs.Meaning.{den}
use Rattle.dmn_analysis.proofs.Ranks.{place_of_constant}
use Rattle.dmn_analysis.proofs.ranking.constant_place.Goals as goal

pub returns-in-Some : goal.returns-in-Some
returns-in-Some c = λ m v e.
    place_of_constant c.args.listed.now c.args.expr.now c.in-Some.value m v (ap (λ x. den x m) (sym c.tree.ensures) ∙ rw c.in-Some.is at c.number_value.ensures m) e ∙ sym c.place_of-place.ensures
