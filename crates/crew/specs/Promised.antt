-- Internal: which ends the threads were started with.
use Rattle.std.specs.Prelude.{List, map}
use Rattle.std.specs.declared.thread.PromisedHandle.{PromisedHandle}
use Rattle.lanes.specs.Ends.{WorkerEnd}
use Rattle.lanes.specs.Links.{Link}
use Rattle.lanes.specs.Workers.{worker_links}
use Rattle.crew.specs.declared.promise.SameEnd.{SameEnd}

module _ {W O : Type 0} where
  -- the links of the ends that the threads will give back, in order
  abbrev pub promised_links : List (PromisedHandle (WorkerEnd W O) (SameEnd W O)) → List (List Link)
  promised_links handles = map (λ h. worker_links h.promise.0.value) handles
