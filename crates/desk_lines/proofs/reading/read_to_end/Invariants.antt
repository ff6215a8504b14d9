use Rattle.rtrb.specs.Ring.{sent}
use Rattle.desk_lines.specs.Ahead.{Reaches}
use Rattle.desk_lines.proofs.reading.read_to_end.Given as goal

abbrev pub invariant-loop : goal.invariant-loop
invariant-loop g l = Reaches g.J.Input.input (g.D.Read.remaining l.device) (sent l.given)
