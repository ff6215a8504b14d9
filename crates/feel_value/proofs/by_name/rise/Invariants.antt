use Rattle.std.proofs.Common.{◌≡◌, drop}
use Rattle.std.specs.Arc.{arc_str_bytes}
use Rattle.feel_value.specs.Names.{names_rise, rises_after, lent}
use Rattle.feel_value.specs.View.{entries_view}
use Rattle.feel_value.proofs.by_name.rise.Given as goal

abbrev pub invariant-loop-name : goal.invariant-loop-name
invariant-loop-name l = names_rise (entries_view (lent l.entries)) ≡ rises_after (arc_str_bytes l.last) (entries_view (lent (drop l.name-index l.others)))
