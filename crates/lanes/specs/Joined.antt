-- Internal: what the books of one lane say once some of its workers' passes were taken in.
use Rattle.std.specs.Prelude.{◌≡◌, ◌-◌, ◌≤◌, List, ◌++◌, length, map, flat_map, IsPermutation}
use Rattle.std.specs.declared.alloc.Global.{Global}
use Rattle.rtrb.specs.Ring.{received}
use Rattle.rtrb.specs.declared.consumer.Consumer.{Consumer}
use Rattle.rtrb.specs.declared.AnyItems.{AnyItems}
use Rattle.box_core.specs.Answer.{Ticketed}
use Rattle.lanes.specs.declared.book.Book.{Book}
use Rattle.lanes.specs.Books.{book}
use Rattle.lanes.specs.Ends.{LaneEnd}
use Rattle.lanes.specs.Ports.{sent_at}
use Rattle.lanes.specs.Settling.{AreBeginnings, taken_by, sent_by, answers_by, jobs_by}

-- all that came out of the rings, one ring after the other
abbrev pub received_of : {T : Type 0} → List (Consumer T Global AnyItems) → List T
received_of rings = flat_map (λ answers. answers) (map (λ r. received r) rings)

module _ {W O : Type 0} where
  -- The owner's book v became w as the passes of these ports were taken in. `answers` were taken in, and `jobs` are left.
  pub record Joins (ports : List (LaneEnd W O)) (rings : List (Consumer (Ticketed W) Global AnyItems)) (v w : Book (Ticketed W)) (answers jobs : List (Ticketed W)) : Type 0 where
    pub joined : List (Ticketed W)
    pub view : w ≡ book v.live (v.out - length ports) v.put (v.taken ++ joined)
    pub moved : IsPermutation joined (taken_by ports)
    pub arrived : IsPermutation (received_of rings ++ answers) (sent_by ports ++ answers_by ports)
    pub held : IsPermutation jobs (jobs_by ports)
    pub beginnings : AreBeginnings (map (λ r. received r) rings) (map (λ p. sent_at p) ports)
    pub count : length rings ≡ length ports
    pub fewer : length jobs ≤ length ports
