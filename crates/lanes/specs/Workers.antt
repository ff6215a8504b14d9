-- What a clause says of a worker's end.
use Rattle.std.specs.Prelude.{◌≡◌, ℕ, ◌<◌, List, length, map, slice_index_or}
use Rattle.lanes.specs.Ends.{LaneEnd, WorkerEnd}
use Rattle.lanes.specs.Links.{Link}

module _ {W O : Type 0} where
  -- the worker's ends of the lanes, in the clients' order
  abbrev pub ports_of : WorkerEnd W O → List (LaneEnd W O)
  ports_of worker = worker.lanes

  abbrev pub port_link : LaneEnd W O → Link
  port_link p = p.link

  abbrev pub port_links : List (LaneEnd W O) → List Link
  port_links ports = map (λ p. port_link p) ports

  -- which end it is: its links to the clients, in their order
  abbrev pub worker_links : WorkerEnd W O → List Link
  worker_links worker = port_links worker.lanes

  -- the same ends, in the same order
  pub record SameEnds (old new : List (WorkerEnd W O)) : Type 0 where
    pub count : length new ≡ length old
    pub links : (i : ℕ) (d : WorkerEnd W O) → i < length old → worker_links (slice_index_or new i d) ≡ worker_links (slice_index_or old i d)
