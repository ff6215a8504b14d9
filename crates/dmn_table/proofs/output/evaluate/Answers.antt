use Rattle.std.proofs.Common.{refl, sym, ap, ◌∙◌, Option}
use Rattle.feel_value.specs.Datum.{Datum}
use Rattle.feel_text.specs.Expr.{Expr}
use Rattle.feel_text.specs.Meaning.{den, Bindings}
use Rattle.feel_value.specs.Found.{value_of}
use Rattle.dmn_table.specs.Hits.{values_of}
use Rattle.dmn_table.proofs.Each.{rest_begun, rest_done, rest_more, rest_none}
use Rattle.dmn_table.proofs.output.evaluate.Goals as goal

abbrev found : Bindings → Expr → Option Datum
found m e = value_of (den e m)

pub loop-expression-init : goal.loop-expression-init
loop-expression-init c = rest_begun (values_of c.args.env.now) c.clear.new.self.items c.args.expressions.now c.clear.ensures.items

pub loop-expression-preserved : goal.loop-expression-preserved
loop-expression-preserved c =
    rest_more (found c.args.env.now) (values_of c.args.env.now) (λ e es. refl) _ c.loop-expression.values.items c.push.new.self.items c.in-Is.value c.args.expressions.now c.loop-expression.expression-index c.expression-item.result
    c.loop-expression.invariant c.expression-item.is c.loop-expression-test.true (ap value_of (sym c.in_ok-value.ensures ∙ c.in-Is.is)) c.in_ok-push-in-Is.ensures.items

pub returns-in-Limit : goal.returns-in-Limit
returns-in-Limit c =
    rest_none (found c.args.env.now) (values_of c.args.env.now) (λ e es. refl) _ c.loop-expression.values.items c.args.expressions.now c.loop-expression.expression-index c.expression-item.result
    c.loop-expression.invariant c.expression-item.is c.loop-expression-test.true (ap value_of (sym c.in_ok-value.ensures ∙ c.in-Limit.is))

pub returns : goal.returns
returns c = rest_done (values_of c.args.env.now) refl _ c.loop-expression.values.items c.args.expressions.now c.loop-expression.expression-index c.loop-expression.invariant c.loop-expression-test.false
