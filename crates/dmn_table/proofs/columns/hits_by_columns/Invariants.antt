use Rattle.std.proofs.Common.{◌≡◌, drop, map, IsTrue}
use Rattle.feel_value.specs.Found.{◌>>=◌}
use Rattle.dmn_table.specs.Columns.{asked_view, hits_by, left_hits, KeepTheirLimits}
use Rattle.dmn_table.specs.Hits.{values_of}
use Rattle.dmn_table.specs.Parts.{rule_view}
use Rattle.dmn_table.proofs.columns.hits_by_columns.Given as goal

abbrev pub invariant-loop-column : goal.invariant-loop-column
invariant-loop-column l = record {
  found : hits_by l.env l.inputs (map rule_view l.rules) ≡ (values_of l.env (drop l.column l.inputs) >>= λ values. left_hits l.env values l.column (asked_view l.asked.items));
  keep : IsTrue l.keep_limits → KeepTheirLimits (asked_view l.asked.items);
}
