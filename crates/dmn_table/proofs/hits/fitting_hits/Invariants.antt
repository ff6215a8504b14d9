use Rattle.std.proofs.Common.{◌≡◌, drop, map, true}
use Rattle.feel_value.specs.Datum.{list, items_of}
use Rattle.feel_value.specs.Limits.{is_value}
use Rattle.feel_value.specs.Found.{each}
use Rattle.dmn_table.specs.Hits.{hit_of}
use Rattle.dmn_table.specs.Parts.{column_view}
use Rattle.dmn_table.specs.RuleOutputs.{rules_view}
use Rattle.dmn_table.specs.View.{hit_view}
use Rattle.dmn_table.proofs.Each.{after}
use Rattle.dmn_table.proofs.hits.fitting_hits.Given as goal

abbrev pub invariant-loop-rule : goal.invariant-loop-rule
invariant-loop-rule l =
    (each (hit_of (map column_view l.outputs) l.env) (rules_view l.rules) ≡ after (map hit_view l.hits.items) (each (hit_of (map column_view l.outputs) l.env) (rules_view (drop l.rule-index l.rules))))
    × (l.values ≡ map (λ h. h.output) (map hit_view l.hits.items))
    × (is_value (list (items_of l.values)) ≡ true)
