use Rattle.std.proofs.Common.{◌≡◌, drop}
use Rattle.feel_value.specs.Limits.{names_differ}
use Rattle.feel_value.specs.View.{entries_view}
use Rattle.feel_value.proofs.names.no_name_repeats.Given as goal

abbrev pub invariant-loop-i : goal.invariant-loop-i
invariant-loop-i l = names_differ (entries_view l.entries) ≡ names_differ (entries_view (drop l.i l.entries))
