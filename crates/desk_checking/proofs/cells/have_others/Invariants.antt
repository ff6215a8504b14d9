use Rattle.std.proofs.Common.{◌≡◌, drop}
use Rattle.desk_checking.specs.TableTold.{have_others}
use Rattle.desk_checking.proofs.cells.have_others.Given as goal

abbrev pub invariant-loop-place : goal.invariant-loop-place
invariant-loop-place l = have_others l.cells l.kinds ≡ have_others (drop l.place l.cells) (drop l.place l.kinds)
