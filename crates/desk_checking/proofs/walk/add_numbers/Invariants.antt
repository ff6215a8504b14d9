use Rattle.std.proofs.Common.{◌≡◌, ◌++◌, ◌-◌}
use Rattle.desk_checking.specs.ComesView.{number_views, numbers_from}
use Rattle.desk_checking.proofs.walk.add_numbers.Given as goal

-- with those that are left they are all
abbrev pub invariant-loop-number : goal.invariant-loop-number
invariant-loop-number l = number_views l.numbers.items ++ numbers_from l.decision l.number (l.count - l.number) ≡ number_views l.initial.numbers.items ++ numbers_from l.decision 0 l.count
