use Rattle.std.proofs.Common.{◌∙◌, sym, ap, rules, FitsSigned, w64}
use Rattle.std.proofs.lemmas.Int.{to_z-of_z}
use Rattle.feel_value.specs.Datum.{number}
use Rattle.feel_value.specs.View.{datum_of}
use Rattle.dmn_ranges.specs.Steps.{given}
use Rattle.dmn_ranges.proofs.Forms.{literal_number}
use Rattle.dmn_ranges.proofs.expression.constant.Goals as goal

pub returns-in-Number : goal.returns-in-Number
returns-in-Number c =
    let fits : FitsSigned w64 c.in-Number.n = search rules in
    c.given-in-Number.ensures ∙ ap given c.point.ensures
    ∙ literal_number c.args.constant.now _ c.value.ensures.meaning (ap number (to_z-of_z w64 c.in-Number.n fits) ∙ sym (ap datum_of c.in-Number.is) ∙ c.value-2.ensures.same ∙ c.value.ensures.same)
