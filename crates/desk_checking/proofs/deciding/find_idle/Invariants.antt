use Rattle.std.proofs.Common.{◌≡◌, ◌<◌, ℕ, []}
use Rattle.desk_checking.specs.Deciding.{CanDecide}
use Rattle.desk_checking.proofs.deciding.find_idle.Given as goal

abbrev pub invariant-loop-rule : goal.invariant-loop-rule
invariant-loop-rule l = l.idle.items ≡ [] → (i : ℕ) → i < l.rule → CanDecide l.table i
