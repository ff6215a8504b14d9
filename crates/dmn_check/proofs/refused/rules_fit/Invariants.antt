use Rattle.std.proofs.Common.{◌≡◌, map, drop, length}
use Rattle.std.specs.List.{list_all}
use Rattle.dmn_table.specs.Faults.{fits_columns}
use Rattle.dmn_check.proofs.refused.rules_fit.Given as goal

abbrev pub invariant-loop-rule : goal.invariant-loop-rule
invariant-loop-rule l =
    list_all (fits_columns l.inputs l.outputs) (map (λ r. (length r.tests.items, length r.gives.items)) l.rules)
    ≡ list_all (fits_columns l.inputs l.outputs) (map (λ r. (length r.tests.items, length r.gives.items)) (drop l.rule-index l.rules))
