use Rattle.std.proofs.Common.{drop, IsTrue}
use Rattle.dmn_table.specs.Columns.{asked_view, KeepTheirLimits}
use Rattle.dmn_table.proofs.OneByOne.{GoesOn}
use Rattle.dmn_table.proofs.columns.ask_rules.Given as goal

abbrev pub invariant-loop-one : goal.invariant-loop-one
invariant-loop-one l = record {
  goes_on : GoesOn l.env l.value l.column (asked_view l.asked) (asked_view l.left.items) (asked_view (drop l.one-index l.asked));
  keep : IsTrue l.keep_limits → KeepTheirLimits (asked_view l.left.items);
}
