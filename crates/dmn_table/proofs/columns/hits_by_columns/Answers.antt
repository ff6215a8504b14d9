use Rattle.std.proofs.Common.{◌∙◌, ap, map, Some}
use Rattle.dmn_table.specs.Columns.{asked_view, hitting}
use Rattle.dmn_table.specs.Parts.{rule_view}
use Rattle.dmn_table.proofs.OneByOne.{at_first, at_last, unasked_keep}
use Rattle.dmn_table.proofs.columns.hits_by_columns.Goals as goal

pub loop-column-init : goal.loop-column-init
loop-column-init c =
    let rules = c.args.rules.now in
    let asked = asked_view c.in_ok-asked.asked.items in
    record {
      found = at_first c.args.env.now c.args.inputs.now rules asked c.in_ok-asked.ensures;
      keep = λ kept. unasked_keep rules asked c.in_ok-asked.ensures (c.requires kept);
    }

pub returns : goal.returns
returns c =
    ap Some (c.in_ok-hits.ensures ∙ ap (λ xs. hitting (asked_view xs)) c.deref-2.ensures.value)
    ∙ at_last c.args.env.now c.args.inputs.now (map rule_view c.args.rules.now) c.loop-column.column (asked_view c.loop-column.asked.items) c.loop-column.invariant.found c.loop-column-test.false
