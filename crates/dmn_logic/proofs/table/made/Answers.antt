use Rattle.std.proofs.Common.{List, ◌∙◌, sym, ap}
use Rattle.dmn_table.specs.declared.table.Output.{Output}
use Rattle.feel_value.specs.Distinct.{are_distinct}
use Rattle.dmn_table.specs.Parts.{names_of}
use Rattle.dmn_logic.specs.declared.reading.Reading.TheVariants.{Found}
use Rattle.dmn_logic.proofs.ReadingSteps.{made_found, made_refused, made_with_twice}
use Rattle.dmn_logic.proofs.table.made.Goals as goal

pub returns-in_ok-table-in-Ok : goal.returns-in_ok-table-in-Ok
returns-in_ok-table-in-Ok c =
    ap Found c.in_ok-table-in-Ok.ensures ∙ made_found c.args.hit.now c.args.inputs.items c.args.outputs.items c.args.rules.items c.in-Ok.table c.in-Ok.ensures.ok

pub returns-in-Err : goal.returns-in-Err
returns-in-Err c = made_refused c.args.hit.now c.args.inputs.items c.args.outputs.items c.args.rules.items c.in-Err.field-0 c.in-Err.ensures.err

pub returns-then-not-branch : goal.returns-then-not-branch
returns-then-not-branch c =
    made_with_twice c.args.hit.now c.args.inputs.items c.args.outputs.items c.args.rules.items
    (ap (λ (os : List Output). are_distinct (names_of os)) (sym c.deref.ensures.value) ∙ sym c.in_ok-names_are_distinct.ensures ∙ c.if-not-branch.true)
