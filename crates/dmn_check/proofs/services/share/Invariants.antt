use Rattle.std.proofs.Common.{◌≡◌, drop}
use Rattle.dmn_plan.specs.ServicesByPlace.{do_share}
use Rattle.dmn_check.proofs.services.share.Given as goal

abbrev pub invariant-loop-place : goal.invariant-loop-place
invariant-loop-place l = do_share l.places l.fn.others ≡ do_share (drop l.place-index l.places) l.fn.others
