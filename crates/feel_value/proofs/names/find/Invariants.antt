use Rattle.std.proofs.Common.{◌≡◌, drop}
use Rattle.feel_value.specs.Datum.{value_at}
use Rattle.feel_value.specs.View.{entries_view}
use Rattle.feel_value.proofs.names.find.Given as goal

abbrev pub invariant-loop-key : goal.invariant-loop-key
invariant-loop-key l = value_at l.name (entries_view l.entries) ≡ value_at l.name (entries_view (drop l.key-index l.entries))
