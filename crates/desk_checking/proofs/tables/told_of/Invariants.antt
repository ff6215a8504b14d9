use Rattle.std.proofs.Common.{◌≤◌, take}
use Rattle.desk_checking.specs.ComesView.{number_views}
use Rattle.desk_checking.specs.Looking.{IsTold}
use Rattle.desk_checking.specs.TablesView.{placed_views}
use Rattle.desk_checking.proofs.tables.told_of.Given as goal

-- the tables so far were looked at
abbrev pub invariant-loop-place : goal.invariant-loop-place
invariant-loop-place l = IsTold l.inputs (placed_views (take l.place l.tables)) (number_views (take l.place l.numbers)) l.telling × (l.telling.untold ≤ l.place)
