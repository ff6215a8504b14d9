use Rattle.std.proofs.Common.{◌≡◌}
use Rattle.std.specs.List.{fold, zip}
use Rattle.std.specs.Slice.Iter.{iter_rest}
use Rattle.std.specs.Iterator.Adapters.{zip_first, zip_second}
use Rattle.dmn_ranges.specs.Tables.{ask_entry, rule_hits}
use Rattle.dmn_ranges.proofs.rule.rule_hits.Given as goal

abbrev pub invariant-loop-entry : goal.invariant-loop-entry
invariant-loop-entry l = rule_hits l.names (zip l.entries l.columns) ≡ fold (ask_entry l.names) l.hits (zip (iter_rest (zip_first l.entry-iterator)) (iter_rest (zip_second l.entry-iterator)))
