use Rattle.std.proofs.Common.{map, take}
use Rattle.dmn_table.specs.Parts.{rule_view}
use Rattle.desk_checking.specs.Answering.{AreAgainst}
use Rattle.desk_checking.proofs.answers.faults_among.Given as goal

-- the overlaps so far were judged
abbrev pub invariant-loop-place : goal.invariant-loop-place
invariant-loop-place l = AreAgainst l.policy (map rule_view l.rules) (take l.place l.found) l.faults
