use Rattle.std.proofs.Common.{◌≡◌, map, take}
use Rattle.feel_text.specs.View.{view}
use Rattle.desk_checking.proofs.same_tree.+same.Given as goal

-- the expressions so far are the same
abbrev pub invariant-are_all_same-loop-place : goal.invariant-are_all_same-loop-place
invariant-are_all_same-loop-place l = map view (take l.place l.ones) ≡ map view (take l.place l.others)
