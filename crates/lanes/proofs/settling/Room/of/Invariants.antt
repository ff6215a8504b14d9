use Rattle.std.proofs.Common.{◌≡◌, take, vec_len, vec_capacity}
use Rattle.lanes.specs.Rooms.{AllHaveRoom}
use Rattle.lanes.proofs.settling.Room.of.Given as goal

abbrev pub invariant-loop-client : goal.invariant-loop-client
invariant-loop-client g l = record {
  lefts : AllHaveRoom l.fn.workers (take l.client-index l.fn.clients.items) l.lefts.items;
  len : vec_len l.lefts ≡ l.client-index;
  capacity : vec_capacity l.lefts ≡ vec_len l.fn.clients;
}
