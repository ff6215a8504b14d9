use Rattle.std.proofs.Common.{◌≡◌, drop}
use Rattle.feel_value.specs.Comparison.{names_within}
use Rattle.feel_value.specs.View.{entries_view}
use Rattle.feel_value.proofs.comparison.names_within.Given as goal

abbrev pub invariant-loop-i : goal.invariant-loop-i
invariant-loop-i l = names_within (entries_view l.a) (entries_view l.b) ≡ names_within (entries_view (drop l.i l.a)) (entries_view l.b)
