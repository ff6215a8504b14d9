use Rattle.serde_json.specs.View.{members_view, view}
use Rattle.desk_requests.proofs.Taken.{AreLeft}
use Rattle.desk_requests.proofs.services.have_values.Given as goal

abbrev pub invariant-loop-key : goal.invariant-loop-key
invariant-loop-key l = AreLeft l.names (view l.inputs) (members_view l.key-iterator)
