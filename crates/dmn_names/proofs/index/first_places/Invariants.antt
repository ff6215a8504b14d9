use Rattle.dmn_names.proofs.FirstPlaces.{SoFar}
use Rattle.dmn_names.proofs.index.first_places.Given as goal

abbrev pub invariant-loop-place : goal.invariant-loop-place
invariant-loop-place l = SoFar l.names l.place l.places
