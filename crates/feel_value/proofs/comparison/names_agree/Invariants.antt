use Rattle.std.proofs.Common.{◌≡◌, drop}
use Rattle.feel_value.specs.Names.{same_names}
use Rattle.feel_value.specs.View.{entries_view}
use Rattle.feel_value.proofs.comparison.names_agree.Given as goal

abbrev pub invariant-loop-i : goal.invariant-loop-i
invariant-loop-i l = same_names (entries_view l.a) (entries_view l.b) ≡ same_names (entries_view (drop l.i l.a)) (entries_view (drop l.i l.b))
