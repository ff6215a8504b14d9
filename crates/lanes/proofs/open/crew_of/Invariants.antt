use Rattle.std.proofs.Common.{◌≡◌, map, vec_len}
use Rattle.lanes.specs.Links.{empties}
use Rattle.lanes.specs.Workers.{ports_of}
use Rattle.lanes.proofs.open.crew_of.Given as goal

abbrev pub invariant-loop : goal.invariant-loop
invariant-loop g l = record {
  empty : map ports_of l.crew.items ≡ empties l.counter;
  len : vec_len l.crew ≡ l.counter;
}
