use Rattle.std.proofs.Common.{◌∙◌, sym, ap, ap₂}
use Rattle.feel_value.specs.Distinct.{are_distinct}
use Rattle.dmn_table.proofs.Outputs.{names_same}
use Rattle.dmn_ranges.proofs.table.shape_of.Goals as goal

pub returns : goal.returns
returns c = ap₂ (λ a b. record { single = a; distinct = b }) c.has_one_output.ensures (c.in_ok-distinct.ensures ∙ sym (ap are_distinct (names_same c.args.outputs.now)))
