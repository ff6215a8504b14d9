use Rattle.std.proofs.Common.{◌≡◌, ℕ, take}
use Rattle.std.specs.Prelude.{nat_eq}
use Rattle.dmn_graph.specs.Reach.{has_same}
use Rattle.dmn_graph.specs.WalkState.{has_place}
use Rattle.dmn_graph.proofs.walk.set_of.Given as goal

abbrev pub invariant-loop-place : goal.invariant-loop-place
invariant-loop-place l = (q : ℕ) → has_place l.set q ≡ has_same nat_eq (take l.place-index l.places) q
