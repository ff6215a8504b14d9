-- What a clause says of a client's end.
use Rattle.std.specs.Prelude.{ℕ, List, Option, Some, None, flat_map}
use Rattle.box_core.specs.Answer.{Ticketed}
use Rattle.box_core.specs.Mail.{Mail}
use Rattle.box_core.specs.declared.work.Reply.{Reply}
use Rattle.lanes.specs.Ends.{ClientEnd}
use Rattle.lanes.specs.Links.{Link}

module _ {W O : Type 0} where
  -- what the client put, in order
  abbrev pub put_of : ClientEnd W O → List (Ticketed W)
  put_of client = client.put

  -- the answers that the client took in, one worker's after the other's
  abbrev pub came_to : ClientEnd W O → List (Ticketed W)
  came_to client = flat_map (λ answers. answers) client.came

  -- the client's mailbox
  abbrev pub mail_of : ClientEnd W O → Mail W O
  mail_of client = client.mail

  -- which end it is
  abbrev pub client_links : ClientEnd W O → List Link
  client_links client = client.links

-- a reply as a ticket and an outcome
abbrev pub reply_of : {W O : Type 0} → Option (Reply W O) → Option (ℕ × O)
reply_of None = None
reply_of (Some reply) = Some (reply.ticket, reply.outcome)
