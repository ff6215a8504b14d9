-- The reports that are due, and the histories in which each report was due.
use Rattle.std.specs.Prelude.{◌≡◌, ◌≢◌, ℕ, Bool, true, false, nat_le, ◌⊎◌, if◌then◌else◌, List, [], ◌∷◌, ◌++◌, length, slice_get, Option, Some, None}
use Rattle.std.specs.Option.{option_map}
use Rattle.box_core.specs.Mail.{Mail, Status, Unknown, Waiting, Running, Settled, refusal_by, refusal_in, accepted_in, status_in, next_in, fresh, changed_at, is_no_capacity, resize_refusal_by, resize_refusal_in, with_request, with_taken, with_kept, with_handed, with_close, with_capacity}
use Rattle.box_core.specs.History.{Event, AddClient, Submit, Take, Answer, Release, Close, Resize, Report, Added, NotAdded, Accepted, Taken, Kept, Strange, Repeated, Handed, Nothing, Closed, Resized, Refused, History, added, capacity, accepted, handed, kept, is_closed, status}
use Rattle.box_core.specs.declared.faults.Refusal.{Refusal}
use Rattle.box_core.specs.declared.faults.Refusal.TheVariants as refusal
use Rattle.box_core.specs.declared.faults.AddRefusal.TheVariants as unadded

-- The rows of the table. Each gives the first report that applies.

module _ {W O : Type 0} where
  abbrev pub add_report : ℕ → ℕ → Report W O
  add_report capacity clients =
      if is_no_capacity capacity then NotAdded unadded.Capacity
      else (if nat_le 64 clients then NotAdded unadded.Many
      else Added clients)

  abbrev pub submit_report : Option Refusal → ℕ → Report W O
  submit_report None next = Accepted next
  submit_report (Some why) next = Refused why

  abbrev pub take_report : ℕ → Status W → Report W O
  take_report ticket (Waiting work) = Taken (record { ticket = ticket; work = work })
  take_report ticket Unknown = Refused refusal.NotWaiting
  take_report ticket (Running work) = Refused refusal.NotWaiting
  take_report ticket Settled = Refused refusal.NotWaiting

  -- the ticket to hand next, and the outcome that is kept for it
  abbrev pub release_report : ℕ → Option O → Report W O
  release_report ticket None = Nothing
  release_report ticket (Some outcome) = Handed ticket outcome

  abbrev pub close_report : Bool → Report W O
  close_report false = Closed
  close_report true = Refused refusal.Closed

  abbrev pub resize_report : Option Refusal → ℕ → Report W O
  resize_report None n = Resized n
  resize_report (Some why) n = Refused why

  -- what may stand in place of a report where memory is refused: of a client added, a work taken and a capacity given
  abbrev pub without_memory : Report W O → Report W O
  without_memory (Added client) = NotAdded unadded.Memory
  without_memory (Taken job) = Refused refusal.Memory
  without_memory (Resized n) = Refused refusal.Memory
  without_memory report = report

  abbrev pub OrMemory : Report W O → Report W O → Type 0
  OrMemory due report = (report ≡ due) ⊎ (report ≡ without_memory due)

  -- the same, where memory is refused only under a condition
  abbrev pub OrMemoryWhere : Type 0 → Report W O → Report W O → Type 0
  OrMemoryWhere condition due report = (report ≡ due) ⊎ (condition × (report ≡ without_memory due))

  -- a report to a call on a client, which has this capacity if it was added
  abbrev pub ForClient : {A : Type 0} → Option A → (A → Type 0) → Report W O → Type 0
  ForClient None row report = report ≡ Refused refusal.NoClient
  ForClient (Some client) row report = row client

module _ {W R O : Type 0} (request : W → R) where
  -- an answer with the work done, for a ticket that stands so
  abbrev pub AnswerReport : Status W → W → Report W O → Type 0
  AnswerReport Unknown done report = report ≡ Strange
  AnswerReport (Waiting work) done report = report ≡ Strange
  AnswerReport Settled done report = report ≡ Repeated
  AnswerReport (Running work) done report =
      ((request work ≡ request done) × (report ≡ Kept)) ⊎ ((request work ≢ request done) × (report ≡ Strange))

module _ {W R O : Type 0} (request : W → R) (result_of : R → O) where
  -- the report may be given to the event after the history
  abbrev pub Reports : History W O → Event W → Report W O → Type 0
  Reports history (AddClient capacity) report = OrMemory (add_report capacity (length (added history))) report
  Reports history (Submit c work) report =
      ForClient (capacity history c)
      (λ capacity. report ≡ submit_report (refusal_by (is_closed history c) capacity (length (accepted history c)) (length (handed history c))) (length (accepted history c)))
      report
  Reports history (Take c t) report =
      ForClient (capacity history c) (λ _. OrMemory (take_report t (status history c t)) report) report
  Reports history (Answer c done) report =
      ForClient (capacity history c) (λ _. AnswerReport request (status history c done.ticket) done.work report) report
  Reports history (Release c) report =
      ForClient (capacity history c)
      (λ _. report ≡ release_report (length (handed history c)) (option_map (λ work. result_of (request work)) (kept history c (length (handed history c)))))
      report
  Reports history (Close c) report =
      ForClient (capacity history c) (λ _. report ≡ close_report (is_closed history c)) report
  Reports history (Resize c n) report =
      ForClient (capacity history c)
      (λ capacity. OrMemoryWhere (n ≢ capacity) (resize_report (resize_refusal_by (is_closed history c) (length (accepted history c)) (length (handed history c)) n) n) report)
      report

  -- each report of the pairs may be given after the pairs before it
  abbrev pub LegalAfter : History W O → History W O → Type 0
  LegalAfter before [] = Unit {0}
  LegalAfter before (pair ∷ pairs) = Reports before pair.0 pair.1 × LegalAfter (before ++ pair ∷ []) pairs

  abbrev pub Legal : History W O → Type 0
  Legal = LegalAfter []

  -- The same table, asked of a state alone.

  abbrev pub ReportsIn : List (Mail W O) → Event W → Report W O → Type 0
  ReportsIn mails (AddClient capacity) report = OrMemory (add_report capacity (length mails)) report
  ReportsIn mails (Submit c work) report =
      ForClient (slice_get mails c) (λ mail. report ≡ submit_report (refusal_in mail) (accepted_in mail)) report
  ReportsIn mails (Take c t) report =
      ForClient (slice_get mails c) (λ mail. OrMemory (take_report t (status_in mail t)) report) report
  ReportsIn mails (Answer c done) report =
      ForClient (slice_get mails c) (λ mail. AnswerReport request (status_in mail done.ticket) done.work report) report
  ReportsIn mails (Release c) report =
      ForClient (slice_get mails c) (λ mail. report ≡ release_report mail.handed (next_in mail)) report
  ReportsIn mails (Close c) report =
      ForClient (slice_get mails c) (λ mail. report ≡ close_report mail.closed) report
  ReportsIn mails (Resize c n) report =
      ForClient (slice_get mails c) (λ mail. OrMemoryWhere (n ≢ mail.capacity) (resize_report (resize_refusal_in mail n) n) report) report

  -- what a call leaves, by its report
  abbrev pub after : List (Mail W O) → Event W → Report W O → List (Mail W O)
  after mails (AddClient capacity) (Added c) = mails ++ fresh 0 capacity ∷ []
  after mails (Submit c work) (Accepted t) = changed_at (with_request work false) mails c
  after mails (Take c t) (Taken job) = changed_at (with_taken t) mails c
  after mails (Answer c done) Kept = changed_at (with_kept (result_of (request done.work)) done.ticket) mails c
  after mails (Release c) (Handed t outcome) = changed_at with_handed mails c
  after mails (Close c) Closed = changed_at with_close mails c
  after mails (Resize c n) (Resized given) = changed_at (with_capacity n) mails c
  after mails event report = mails

  -- one call
  pub record Step (old : List (Mail W O)) (event : Event W) (report : Report W O) (new : List (Mail W O)) : Type 0 where
    pub reported : ReportsIn old event report
    pub left : new ≡ after old event report
