-- What a poll did to a client's mailbox.
use Rattle.std.specs.Prelude.{◌≡◌, ℕ, ◌++◌, List, [], ◌∷◌, Option, Some, None, IsPermutation}
use Rattle.box_core.specs.Answer.{Ticketed}
use Rattle.box_core.specs.Mail.{Mail, status_in, next_in, with_kept, with_handed}
use Rattle.box_core.specs.History.{Report, Kept}
use Rattle.box_core.specs.Table.{AnswerReport}

module _ {W R O : Type 0} (request : W → R) (result_of : R → O) where
  -- what an answer leaves, by its report: one that isn't kept changes nothing
  abbrev pub left_by : Report W O → Ticketed W → Mail W O → Mail W O
  left_by Kept done mail = with_kept (result_of (request done.work)) done.ticket mail
  left_by report done mail = mail

  -- these answers were taken in, one after another
  abbrev pub TakenIn : Mail W O → List (Ticketed W) → Mail W O → Type 0
  TakenIn old [] new = new ≡ old
  TakenIn old (done ∷ others) new =
      (report : Report W O) × AnswerReport request (status_in old done.ticket) done.work report × TakenIn (left_by report done old) others new

  -- a release: the outcome that is kept for the next ticket, if it is kept
  abbrev pub Releases : Mail W O → Option (ℕ × O) → Mail W O → Type 0
  Releases old (Some reply) new = (reply.0 ≡ old.handed) × (next_in old ≡ Some reply.1) × (new ≡ with_handed old)
  Releases old None new = (next_in old ≡ None) × (new ≡ old)

  -- a poll: the answers that came out of the rings are taken in, then the next reply is released
  pub record Polls (received received' : List (Ticketed W)) (old new : Mail W O) (reply : Option (ℕ × O)) : Type 0 where
    pub answers : List (Ticketed W)
    pub came : IsPermutation received' (answers ++ received)
    pub mid : Mail W O
    pub taken_in : TakenIn old answers mid
    pub released : Releases mid reply new
