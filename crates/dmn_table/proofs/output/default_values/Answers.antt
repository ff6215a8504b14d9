use Rattle.std.proofs.Common.{List, map, refl, sym, ap, ◌∙◌, Option}
use Rattle.feel_value.specs.Datum.{Datum}
use Rattle.feel_text.specs.Meaning.{Bindings}
use Rattle.dmn_table.specs.declared.table.Output.{Output}
use Rattle.feel_value.specs.Found.{value_of}
use Rattle.dmn_table.specs.Parts.{column_view}
use Rattle.dmn_table.specs.Result.{default_of, default_values}
use Rattle.dmn_table.proofs.Each.{rest_begun, rest_done, rest_more, rest_none}
use Rattle.dmn_table.proofs.output.default_values.Goals as goal

abbrev found : Bindings → Output → Option Datum
found m o = value_of (default_of m (column_view o).fallback)

abbrev defaults : Bindings → List Output → Option (List Datum)
defaults m os = default_values (map column_view os) m

pub loop-output-init : goal.loop-output-init
loop-output-init c = rest_begun (defaults c.args.env.now) c.in_ok-values.values.items c.args.outputs.now c.in_ok-values.ensures.items

pub loop-output-preserved : goal.loop-output-preserved
loop-output-preserved c =
    rest_more (found c.args.env.now) (defaults c.args.env.now) (λ o os. refl) _ c.loop-output.values.items c.push.new.self.items c.in-Is.value c.args.outputs.now c.loop-output.output-index c.output-item.result
    c.loop-output.invariant c.output-item.is c.loop-output-test.true (ap value_of (sym c.in_ok-value.ensures ∙ c.in-Is.is)) c.in_ok-push-in-Is.ensures.items

pub returns-in-Limit : goal.returns-in-Limit
returns-in-Limit c =
    rest_none (found c.args.env.now) (defaults c.args.env.now) (λ o os. refl) _ c.loop-output.values.items c.args.outputs.now c.loop-output.output-index c.output-item.result
    c.loop-output.invariant c.output-item.is c.loop-output-test.true (ap value_of (sym c.in_ok-value.ensures ∙ c.in-Limit.is))

pub returns : goal.returns
returns c = rest_done (defaults c.args.env.now) refl _ c.loop-output.values.items c.args.outputs.now c.loop-output.output-index c.loop-output.invariant c.loop-output-test.false
