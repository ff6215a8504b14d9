-- A report is due to each event, whatever the history before it.
use Rattle.std.proofs.Common.{◌≡◌, ◌≢◌, ◌⊎◌, inl, inr, ℕ, Option, Some, None, List, length, refl}
use Rattle.std.specs.Option.{option_map}
use Rattle.box_core.specs.Mail.{Status, Unknown, Waiting, Running, Settled, refusal_by, resize_refusal_by}
use Rattle.box_core.specs.History.{Event, AddClient, Submit, Take, Answer, Release, Close, Resize, Report, Kept, Strange, Repeated, Refused, History, added, capacity, accepted, handed, kept, is_closed, status}
use Rattle.box_core.specs.Table.{Reports, ForClient, OrMemory, OrMemoryWhere, AnswerReport, add_report, submit_report, take_report, release_report, close_report, resize_report}
use Rattle.box_core.specs.declared.faults.Refusal.TheVariants as refusal

module _ {W R O : Type 0} (request : W → R) (result_of : R → O) (decide : (a b : R) → (a ≡ b) ⊎ (a ≢ b)) where
  for_client : {A : Type 0} (o : Option A) (row : A → Report W O → Type 0) → ((a : A) → (r : Report W O) × row a r)
      → (r : Report W O) × ForClient o (λ a. row a r) r
  for_client None row due = (Refused refusal.NoClient, refl)
  for_client (Some a) row due = due a

  by_request : (w done : W) → (request w ≡ request done) ⊎ (request w ≢ request done)
      → (r : Report W O) × AnswerReport request (Running w) done r
  by_request w done (inl same) = (Kept, inl (same, refl))
  by_request w done (inr other) = (Strange, inr (other, refl))

  answer_for : (s : Status W) (done : W) → (r : Report W O) × AnswerReport request s done r
  answer_for Unknown done = (Strange, refl)
  answer_for (Waiting w) done = (Strange, refl)
  answer_for (Running w) done = by_request w done (decide (request w) (request done))
  answer_for Settled done = (Repeated, refl)

  pub report_for : (h : History W O) (e : Event W) → (r : Report W O) × Reports request result_of h e r
  report_for h (AddClient n) = (add_report n (length (added h)), inl refl)
  report_for h (Submit c w) =
      for_client (capacity h c)
      (λ n r. r ≡ submit_report (refusal_by (is_closed h c) n (length (accepted h c)) (length (handed h c))) (length (accepted h c)))
      (λ n. (submit_report (refusal_by (is_closed h c) n (length (accepted h c)) (length (handed h c))) (length (accepted h c)), refl))
  report_for h (Take c t) =
      for_client (capacity h c) (λ n r. OrMemory (take_report t (status h c t)) r) (λ n. (take_report t (status h c t), inl refl))
  report_for h (Answer c done) =
      for_client (capacity h c) (λ n r. AnswerReport request (status h c done.ticket) done.work r) (λ n. answer_for (status h c done.ticket) done.work)
  report_for h (Release c) =
      for_client (capacity h c)
      (λ n r. r ≡ release_report (length (handed h c)) (option_map (λ work. result_of (request work)) (kept h c (length (handed h c)))))
      (λ n. (release_report (length (handed h c)) (option_map (λ work. result_of (request work)) (kept h c (length (handed h c)))), refl))
  report_for h (Close c) = for_client (capacity h c) (λ n r. r ≡ close_report (is_closed h c)) (λ n. (close_report (is_closed h c), refl))
  report_for h (Resize c n) =
      for_client (capacity h c)
      (λ m r. OrMemoryWhere (n ≢ m) (resize_report (resize_refusal_by (is_closed h c) (length (accepted h c)) (length (handed h c)) n) n) r)
      (λ m. (resize_report (resize_refusal_by (is_closed h c) (length (accepted h c)) (length (handed h c)) n) n, inl refl))
