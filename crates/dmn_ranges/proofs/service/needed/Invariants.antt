use Rattle.std.proofs.Common.{◌≡◌, ◌++◌, drop}
use Rattle.dmn_service.specs.Places.{name_at}
use Rattle.dmn_ranges.specs.Services.{needs_scope, views}
use Rattle.dmn_ranges.proofs.service.needed.Given as goal

abbrev pub invariant-loop-place : goal.invariant-loop-place
invariant-loop-place l = needs_scope (name_at l.items) (l.told, views l.known) l.needs ≡ l.names ++ needs_scope (name_at l.items) (l.told, views l.known) (drop l.place-index l.needs)
