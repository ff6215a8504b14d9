-- Answers are taken in, one after another.
use Rattle.std.proofs.Common.{◌≡◌, ◌≢◌, ℕ, ◌-◌, ◌<◌, List, [], ◌∷◌, ◌++◌, Some, refl, ap, ◌∙◌, subst, arith}
use Rattle.box_core.specs.Answer.{Ticketed}
use Rattle.box_core.specs.History.{Report, Kept, Strange, Repeated}
use Rattle.box_core.specs.Mail.{Mail, accepted_in, status_in, with_kept}
use Rattle.box_core.specs.Table.{AnswerReport}
use Rattle.box_core.specs.Views.{answered_report}
use Rattle.box_core.specs.declared.faults.Answered.{Answered}
use Rattle.box_core.specs.declared.faults.Answered.TheVariants as answered
use Rattle.lanes.specs.Polls.{left_by, TakenIn}
use Rattle.lanes.proofs.Mails
use mathlib.Core.List.{IsPrefix}

module _ {W R O : Type 0} (request : W → R) (result_of : R → O) where
  pub taken_append : (old mid new : Mail W O) (xs ys : List (Ticketed W)) → TakenIn request result_of old xs mid → TakenIn request result_of mid ys new → TakenIn request result_of old (xs ++ ys) new
  taken_append old mid new [] ys a b = subst (λ m. TakenIn request result_of m ys new) a b
  taken_append old mid new (x ∷ xs) ys a b = (a.0, a.1, taken_append (left_by request result_of a.0 x old) mid new xs ys a.2 b)

  -- one answer, by what the mailbox said of it
  pub taken_one : (old new : Mail W O) (x : Ticketed W) (a : Answered) → AnswerReport {O = O} request (status_in old x.ticket) x.work (answered_report a)
      → (a ≡ answered.Kept → new ≡ with_kept (result_of (request x.work)) x.ticket old) → (a ≢ answered.Kept → new ≡ old) → TakenIn request result_of old (x ∷ []) new
  taken_one old new x answered.Kept due kept dropped = (Kept, due, kept refl)
  taken_one old new x answered.Strange due kept dropped = (Strange, due, dropped (λ e. cc))
  taken_one old new x answered.Repeated due kept dropped = (Repeated, due, dropped (λ e. cc))

  pub taken_more : (old mid new : Mail W O) (xs : List (Ticketed W)) (x : Ticketed W) (a : Answered) → TakenIn request result_of old xs mid → AnswerReport {O = O} request (status_in mid x.ticket) x.work (answered_report a)
      → (a ≡ answered.Kept → new ≡ with_kept (result_of (request x.work)) x.ticket mid) → (a ≢ answered.Kept → new ≡ mid) → TakenIn request result_of old (xs ++ x ∷ []) new
  taken_more old mid new xs x a before due kept dropped = taken_append old mid new xs (x ∷ []) before (taken_one mid new x a due kept dropped)

  -- it changes neither what was handed nor how many are outstanding
  left_count : (report : Report W O) (x : Ticketed W) (mail : Mail W O) → accepted_in (left_by request result_of report x mail) ≡ accepted_in mail
  left_count Kept x mail = let n = Mails.changed_length (λ place. record { work = place.work; taken = place.taken; kept = Some (result_of (request x.work)) }) mail.outstanding (x.ticket - mail.handed) in omega (arith, n)
  left_count report x mail = refl

  pub taken_count : (old new : Mail W O) (xs : List (Ticketed W)) → TakenIn request result_of old xs new → accepted_in new ≡ accepted_in old
  taken_count old new [] t = ap (λ m. accepted_in m) t
  taken_count old new (x ∷ xs) t = taken_count (left_by request result_of t.0 x old) new xs t.2 ∙ left_count t.0 x old

abbrev first_or : {A : Type 0} → A → List A → A
first_or d [] = d
first_or d (x ∷ xs) = x

-- the answer that was seen in front is the one that is popped
pub front_below : {W : Type 0} (known rest : List (Ticketed W)) (a b : Ticketed W) (ticket n m : ℕ) → IsPrefix (a ∷ []) known → known ≡ b ∷ rest → ticket ≡ a.ticket → ticket < n → n ≡ m → b.ticket < m
front_below known rest a b ticket n m front known_is ticket_is less same =
    let e : a ≡ b = ap (λ l. first_or a l) (front.1 ∙ known_is) in
    let t : a.ticket ≡ b.ticket = ap (λ x. x.ticket) e in
    omega (arith, ticket_is, less, same, t)
