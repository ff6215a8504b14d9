use Rattle.std.proofs.Common.{◌≡◌, map, sym, ap, ◌∙◌, subst, IfOk, arith}
use Rattle.feel_value.specs.Outcome.{held}
use Rattle.feel_value.proofs.Views.{datum_of-Null}
use Rattle.dmn_table.specs.Parts.{column_view}
use Rattle.dmn_table.proofs.Wholes.{first_alone, several}
use Rattle.dmn_table.proofs.collected.only_one.Goals as goal

pub returns-then-rules-le1 : goal.returns-then-rules-le1
returns-then-rules-le1 c =
    subst (λ d. IfOk c.first.result (λ o. o ≡ d)) (first_alone (map column_view c.args.outputs.now) c.args.env.now c.args.rules.now (omega arith)) c.first.ensures

pub returns : goal.returns
returns c =
    c.of.ensures ∙ ap held datum_of-Null
    ∙ sym (several (map column_view c.args.outputs.now) c.args.env.now c.args.rules.now (omega arith) (sym c.in_ok-have_outputs.ensures ∙ c.if-not-branch.false))
