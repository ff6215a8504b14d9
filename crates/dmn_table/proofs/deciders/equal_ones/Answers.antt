use Rattle.std.proofs.Common.{◌≡◌, ◌∷◌, [], map, sym, ap, ◌∙◌, Some, if◌then◌else◌, rules}
use Rattle.feel_value.specs.Found.{value_of}
use Rattle.dmn_table.specs.Parts.{column_view}
use Rattle.dmn_table.proofs.Wholes.{all_or_none}
use Rattle.dmn_table.proofs.deciders.equal_ones.Goals as goal

pub returns-in-Some-true : goal.returns-in-Some-true
returns-in-Some-true c =
    let ns = c.args.numbers.now in
    let split : c.args.rules.now ≡ c.in-Some.rule.now ∷ c.in-Some.rest.now = search rules in
    ap Some c.in_ok-from_slice-in-Some-true.ensures.items
    ∙ sym (all_or_none (map column_view c.args.outputs.now) c.args.env.now c.args.rules.now c.in-Some.rest.now c.in-Some.rule.now c.in-Is.output _ ns split
    (sym c.in_ok-output.ensures ∙ ap value_of c.in-Is.is) (sym c.in_ok-all_equal.ensures ∙ c.in-Some-true.is)
    ∙ ap (λ b. Some (if b then ns else [])) c.in-Some-true.field-0-test)

pub returns-in-Some-false : goal.returns-in-Some-false
returns-in-Some-false c =
    let ns = c.args.numbers.now in
    let split : c.args.rules.now ≡ c.in-Some.rule.now ∷ c.in-Some.rest.now = search rules in
    ap Some c.new.ensures.items
    ∙ sym (all_or_none (map column_view c.args.outputs.now) c.args.env.now c.args.rules.now c.in-Some.rest.now c.in-Some.rule.now c.in-Is.output _ ns split
    (sym c.in_ok-output.ensures ∙ ap value_of c.in-Is.is) (sym c.in_ok-all_equal.ensures ∙ c.in-Some-false.is)
    ∙ ap (λ b. Some (if b then ns else [])) c.in-Some-false.field-0-test)
