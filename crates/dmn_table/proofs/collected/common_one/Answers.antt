use Rattle.std.proofs.Common.{◌≡◌, ◌∷◌, map, sym, ap, ◌∙◌, if◌then◌else◌, rules}
use Rattle.feel_value.specs.Datum.{null}
use Rattle.feel_value.specs.Outcome.{held}
use Rattle.feel_value.specs.declared.feel.Outcome.TheVariants.{Is}
use Rattle.feel_value.proofs.Views.{datum_of-Null}
use Rattle.feel_value.specs.Found.{value_of}
use Rattle.dmn_table.specs.Parts.{column_view}
use Rattle.dmn_table.proofs.Wholes.{common}
use Rattle.dmn_table.proofs.collected.common_one.Goals as goal

pub returns-in-Some-true : goal.returns-in-Some-true
returns-in-Some-true c =
    let d = c.in-Is.output in
    let split : c.args.rules.now ≡ c.in-Some.rule.now ∷ c.in-Some.rest.now = search rules in
    sym (common (map column_view c.args.outputs.now) c.args.env.now c.args.rules.now c.in-Some.rest.now c.in-Some.rule.now d _ split
    (sym c.in_ok-output.ensures ∙ ap value_of c.in-Is.is) (sym c.in_ok-all_equal.ensures ∙ c.in-Some-true.is)
    ∙ ap (λ b. Is (if b then d else null)) c.in-Some-true.field-0-test)

pub returns-in-Some-false : goal.returns-in-Some-false
returns-in-Some-false c =
    let d = c.in-Is.output in
    let split : c.args.rules.now ≡ c.in-Some.rule.now ∷ c.in-Some.rest.now = search rules in
    c.of-in-Some-false.ensures ∙ ap held datum_of-Null
    ∙ sym (common (map column_view c.args.outputs.now) c.args.env.now c.args.rules.now c.in-Some.rest.now c.in-Some.rule.now d _ split
    (sym c.in_ok-output.ensures ∙ ap value_of c.in-Is.is) (sym c.in_ok-all_equal.ensures ∙ c.in-Some-false.is)
    ∙ ap (λ b. Is (if b then d else null)) c.in-Some-false.field-0-test)
