use Rattle.std.proofs.Common.{◌≡◌, ◌++◌, ◌∷◌, [], map, sym, ap, ◌∙◌, false}
use Rattle.feel_value.specs.Datum.{list, items_of}
use Rattle.feel_value.specs.Limits.{is_value}
use Rattle.feel_value.specs.Found.{value_of}
use Rattle.dmn_table.specs.Parts.{column_view}
use Rattle.dmn_table.proofs.Turns.{one_refused}
use Rattle.dmn_table.proofs.collected.list_of.Goals as goal

pub returns-then-not-branch : goal.returns-then-not-branch
returns-then-not-branch c =
    let ms = c.loop-rule.values in
    let d = c.in-Is.value in
    let refused : is_value (list (items_of (ms ++ d ∷ []))) ≡ false = sym c.in_ok-push.ensures.fits ∙ c.if-not-branch.true in
    sym (c.loop-rule.invariant
    ∙ one_refused (map column_view c.args.outputs.now) c.args.env.now c.args.rules.now c.loop-rule.rule-index c.rule-item.result c.rule-item.is c.loop-rule-test.true ms d
    (sym c.in_ok-value.ensures ∙ ap value_of c.in-Is.is) refused)
