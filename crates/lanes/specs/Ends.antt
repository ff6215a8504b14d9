-- The ends of lanes as a clause sees them.
use Rattle.std.specs.Prelude.{◌≡◌, ℕ, true, List, ◌++◌, drop, length, map}
use Rattle.box_core.specs.Answer.{Ticketed}
use Rattle.box_core.specs.Mail.{Mail, accepted_in}
use Rattle.lanes.specs.Accounts.{works_of, taken_of, all_true}
use Rattle.lanes.specs.Books.{ticket_of, work_of, counting, do_rise}
use Rattle.lanes.specs.Held.{held_in}
use Rattle.lanes.specs.Links.{Link}
use Rattle.lanes.specs.declared.port.Held.{Held}

-- a client's end of its lane
pub record ClientEnd (W O : Type 0) : Type 0 where
  -- what the client put, in order
  pub put : List (Ticketed W)
  -- the answers that it took in, of each worker's its own list in their order
  pub came : List (List (Ticketed W))
  -- its mailbox
  pub mail : Mail W O
  -- which end it is: its links to the workers, in their order
  pub links : List Link
  -- what was put has the tickets 0, 1, 2, .. and is what the mailbox accepted
  pub numbered : map ticket_of put ≡ counting 0 (length put)
  pub count : length put ≡ accepted_in mail
  -- what was put from the ticket on that is handed out next is what is outstanding in the mailbox
  pub works : map work_of (drop mail.handed put) ≡ works_of mail.outstanding

-- a worker's end of one lane
pub record LaneEnd (W O : Type 0) : Type 0 where
  -- which end it is: its link to the client, and its number among the lane's ends
  pub link : Link
  pub number : ℕ
  -- how many answers wait in its ring at most, until the client takes them in
  pub room : ℕ
  pub is_of_four : room ≡ 4
  -- the jobs that the worker took from the lane, and the answers that it sent to it, each in order
  pub taken : List (Ticketed W)
  pub sent : List (Ticketed W)
  -- the job or the answer of the lane that it holds, if any
  pub held : Held W O
  -- what it took has rising tickets
  pub rises : do_rise (map ticket_of taken) ≡ true
  -- what it took it has sent, or holds
  pub carried : sent ++ held_in held ≡ taken

-- a worker's end of every lane: its ends of each, in the clients' order
pub record WorkerEnd (W O : Type 0) : Type 0 where
  pub lanes : List (LaneEnd W O)

-- a client's end once it is settled
pub record SettledEnd (W O : Type 0) : Type 0 where
  -- what the client had put, in order
  pub put : List (Ticketed W)
  -- its mailbox
  pub mail : Mail W O
  -- the jobs that are left to give
  pub left : List (Ticketed W)
  -- what was put has the tickets 0, 1, 2, .. and is what the mailbox accepted
  pub numbered : map ticket_of put ≡ counting 0 (length put)
  pub count : length put ≡ accepted_in mail
  -- what was put from the ticket on that is handed out next is what is outstanding in the mailbox, and counts as taken
  pub works : map work_of (drop mail.handed put) ≡ works_of mail.outstanding
  pub running : taken_of mail.outstanding ≡ all_true mail.outstanding
