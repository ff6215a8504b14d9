-- What each lane comes to where its ends are settled.
use Rattle.std.specs.Prelude.{◌≡◌, ℕ, suc, All, List, [], ◌∷◌, ◌++◌, map, flat_map, Contains, IsPermutation, Option, Some, None, slice_get}
use Rattle.box_core.specs.Answer.{Ticketed}
use Rattle.box_core.specs.History.{Kept}
use Rattle.box_core.specs.Mail.{Mail, status_in, open_in, with_kept}
use Rattle.box_core.specs.Table.{AnswerReport}
use Rattle.lanes.specs.Books.{ticket_of, AreApart}
use Rattle.lanes.specs.Ends.{ClientEnd, LaneEnd, SettledEnd}
use Rattle.lanes.specs.Clients.{put_of, mail_of, came_to}
use Rattle.lanes.specs.Held.{jobs_in, answers_in}
use Rattle.lanes.specs.Ports.{taken_at, sent_at}
use Rattle.lanes.specs.Rest.{put_in, mail_in, left_in}

-- the member, as a list
abbrev pub one_or_none : {T : Type 0} → Option T → List T
one_or_none None = []
one_or_none (Some x) = x ∷ []

-- the c-th member of each list
abbrev pub column : {T : Type 0} → ℕ → List (List T) → List T
column c rows = flat_map (λ row. one_or_none (slice_get row c)) rows

module _ {T : Type 0} where
  abbrev pub IsBeginning : List T → List T → Type 0
  IsBeginning xs ys = (rest : List T) × (xs ++ rest ≡ ys)

  -- each of these lists is the beginning of the one at its place
  abbrev pub AreBeginnings : List (List T) → List (List T) → Type 0
  AreBeginnings [] [] = Unit {0}
  AreBeginnings (xs ∷ xss) (ys ∷ yss) = IsBeginning xs ys × AreBeginnings xss yss
  AreBeginnings xss yss = ⊥

module _ {W O : Type 0} where
  -- all that the workers took from the lane, what they sent to it, and what they hold for it
  abbrev pub taken_by : List (LaneEnd W O) → List (Ticketed W)
  taken_by ports = flat_map (λ p. taken_at p) ports

  abbrev pub sent_by : List (LaneEnd W O) → List (Ticketed W)
  sent_by ports = flat_map (λ p. sent_at p) ports

  abbrev pub answers_by : List (LaneEnd W O) → List (Ticketed W)
  answers_by ports = flat_map (λ p. answers_in p.held) ports

  abbrev pub jobs_by : List (LaneEnd W O) → List (Ticketed W)
  jobs_by ports = flat_map (λ p. jobs_in p.held) ports

module _ {W R O : Type 0} (request : W → R) (result_of : R → O) where
  -- these answers were taken in, one after another, and each was kept
  abbrev pub AllKept : Mail W O → List (Ticketed W) → Mail W O → Type 0
  AllKept old [] new = new ≡ old
  AllKept old (done ∷ others) new =
      AnswerReport {O = O} request (status_in old done.ticket) done.work Kept × AllKept (with_kept (result_of (request done.work)) done.ticket old) others new

  -- One lane: its client's end, the workers' ports of it, and what the client's end came to.
  pub record Settles (client : ClientEnd W O) (ports : List (LaneEnd W O)) (end : SettledEnd W O) : Type 0 where
    -- the jobs that waited, and the answers that were taken in
    pub waited : List (Ticketed W)
    pub answers : List (Ticketed W)
    pub put : put_in end ≡ put_of client
    -- what was put waited or was taken, and no ticket twice
    pub carried : IsPermutation (put_of client) (waited ++ taken_by ports)
    pub apart : AreApart ticket_of (waited ++ taken_by ports)
    -- what came out of each ring is the beginning of what was sent into it
    pub came : AreBeginnings client.came (map (λ p. sent_at p) ports)
    -- each answer that was sent or is held was taken in, before or now, and those of now were kept
    pub taken_in : IsPermutation (came_to client ++ answers) (sent_by ports ++ answers_by ports)
    pub kept : AllKept (mail_of client) answers (mail_in end)
    -- what is left waited or is held as a job, and is what was put and has no answer, each once
    pub left : IsPermutation (left_in end) (jobs_by ports ++ waited)
    pub once : IsPermutation (put_of client) ((came_to client ++ answers) ++ left_in end)
    pub unanswered : All (λ job. open_in (mail_in end) job.ticket ≡ Some job.work) (left_in end)
    pub all_left : (ticket : ℕ) (work : W) → open_in (mail_in end) ticket ≡ Some work → Contains (left_in end) (record { ticket = ticket; work = work })

  -- Each lane, from the c-th on.
  abbrev pub AllSettle : ℕ → List (List (LaneEnd W O)) → List (ClientEnd W O) → List (SettledEnd W O) → Type 0
  AllSettle c ports [] [] = Unit {0}
  AllSettle c ports (client ∷ clients) (end ∷ ends) = Settles client (column c ports) end × AllSettle (suc c) ports clients ends
  AllSettle c ports clients ends = ⊥
