use Rattle.std.proofs.Common.{◌≡◌, drop, map, length, true}
use Rattle.feel_value.specs.declared.feel.Outcome.TheVariants.{Is}
use Rattle.feel_value.specs.Found.{each, outcome_from}
use Rattle.dmn_table.specs.Hits.{hit_of, output_of}
use Rattle.dmn_table.specs.Parts.{column_view}
use Rattle.dmn_table.specs.RuleOutputs.{rules_view, have_entries}
use Rattle.dmn_table.specs.View.{ranked_hit}
use Rattle.dmn_table.proofs.FirstInPriority.{highest_output, from_best, hits_from}
use Rattle.dmn_table.proofs.policy.highest.Given as goal

-- what is found for all rules is found from the best hit so far and the rest
abbrev pub invariant-loop-rule : goal.invariant-loop-rule
invariant-loop-rule l =
    (outcome_from (λ hs. Is (highest_output hs)) (each (hit_of (map column_view l.outputs) l.env) (rules_view l.rules)) ≡ from_best (ranked_hit (map column_view l.outputs) l.best) (hits_from (map column_view l.outputs) l.env l.rest l.rule-index))
    × (length l.best.places.items ≡ length (map column_view l.outputs))
    × (have_entries (length (map column_view l.outputs)) (rules_view (drop l.rule-index l.rest)) ≡ true)
    × (output_of (map column_view l.outputs) l.best.values.items ≡ Is (ranked_hit (map column_view l.outputs) l.best).output)
