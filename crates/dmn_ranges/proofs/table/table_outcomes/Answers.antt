use Rattle.std.proofs.Common.{◌∙◌, ap}
use Rattle.dmn_ranges.specs.Tables.{column_outcomes, shape_of, tally_rules}
use Rattle.dmn_ranges.specs.declared.rule.Shape.{Shape}
use Rattle.dmn_ranges.proofs.SoundTable.{table_told}
use Rattle.dmn_ranges.proofs.table.table_outcomes.Goals as goal

pub returns : goal.returns
returns c =
    let t = c.args.table.now in
    let xs = c.args.names.now in
    let os = c.in_ok-columns.columns.items in
    let tally = c.tally_of-tally.ensures ∙ ap (λ (s : Shape). tally_rules s c.deref.result.now xs t.rules) c.in_ok-shape.ensures ∙ ap (λ cs. tally_rules (shape_of t.outputs) cs xs t.rules) c.deref.ensures.value in
    table_told t xs os c.deref-2.result.now c.deref-3.result.now c.tally_of-tally.result c.in_ok-tally.tally c.some_limit.result c.with_tally.result
    (c.in_ok-columns.ensures ∙ ap (column_outcomes xs) c.inputs.ensures) c.deref-2.ensures.value c.deref-3.ensures.value tally c.in_ok-tally.ensures c.some_limit.ensures c.with_tally.ensures
