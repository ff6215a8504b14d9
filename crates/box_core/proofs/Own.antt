-- What the work under a ticket leaves there as its answer.
use Rattle.std.proofs.Common.{◌≡◌, ◌≢◌, ℕ, ◌<◌, ◌≤◌, ◌-◌, Bool, true, false, nat_lt, List, length, get_or, set, slice_get, Option, Some, None, Result, Ok, Err, IfOk, refl, ap, sym, ◌∙◌, inl, arith}
use Rattle.std.proofs.lemmas.Bool.Decides.{nat_tests}
use Rattle.box_core.specs.Mail.{Mail, Place, Status, Waiting, Running, Settled, Unknown, status_by, status_in, status_of_place, with_kept}
use Rattle.box_core.specs.Own.{own_answer, AnswersOwn}
use Rattle.box_core.specs.declared.faults.Answered.{Answered}
use Rattle.box_core.specs.declared.faults.Answered.TheVariants as answered
use Rattle.box_core.proofs.Calls.{answer_step}
use Rattle.box_core.proofs.Places.{set-changed_at, set-same}

below_false : (a b : ℕ) → b ≤ a → nat_lt a b ≡ false
below_false a b h = grind (arith, nat_tests)

strange_is_unkept : answered.Strange ≡ answered.Kept → ⊥
strange_is_unkept e = cc

repeated_is_unkept : answered.Repeated ≡ answered.Kept → ⊥
repeated_is_unkept e = cc

module _ {W O : Type 0} where
  -- a request that runs is its place's
  runs : (w work : W) (taken : Bool) (kept : Option O) → status_by (Some w) taken kept ≡ Running work → w ≡ work
  runs w work false kept is = cc
  runs w work true None is = cc
  runs w work true (Some outcome) is = cc

  status_at : (mail : Mail W O) (t : ℕ) (place : Place W O) → mail.handed ≤ t → slice_get mail.outstanding (t - mail.handed) ≡ Some place →
      status_in mail t ≡ status_of_place (Some place)
  status_at mail t place above at = rw (below_false t mail.handed above) (ap status_of_place at)

  pub running_at : (mail : Mail W O) (t : ℕ) (place : Place W O) (work : W) → mail.handed ≤ t → slice_get mail.outstanding (t - mail.handed) ≡ Some place →
      status_in mail t ≡ Running work → (status_of_place (Some place) ≡ Running work) × (place.work ≡ work)
  running_at mail t place work above at is =
      let here : status_of_place (Some place) ≡ Running work = sym (status_at mail t place above at) ∙ is in
      (here, runs place.work work place.taken place.kept here)

module _ {W R O : Type 0} (request : W → R) (result_of : R → O) where
  -- the mailbox where the place of a ticket is written, if the place has its outcome
  pub kept_own : (mail : Mail W O) (t : ℕ) (place new : Place W O) (told : Answered) →
      mail.handed ≤ t → slice_get mail.outstanding (t - mail.handed) ≡ Some place → place ≡ get_or mail.outstanding (t - mail.handed) place →
      told ≡ own_answer (status_of_place (Some place)) →
      (told ≡ answered.Kept → new ≡ record { work = place.work; taken = place.taken; kept = Some (result_of (request place.work)) }) →
      (work : W) → status_in mail t ≡ Running work →
      record { capacity = mail.capacity; closed = mail.closed; handed = mail.handed; outstanding = set mail.outstanding (t - mail.handed) new }
      ≡ with_kept (result_of (request work)) t mail
  kept_own mail t place new told above at lent called kept work is =
      let running = running_at mail t place work above at is in
      let written : new ≡ record { work = place.work; taken = place.taken; kept = Some (result_of (request work)) } =
      kept (called ∙ ap own_answer running.0) ∙ ap (λ w. record { work = place.work; taken = place.taken; kept = Some (result_of (request w)) }) running.1 in
      ap (λ places. record { capacity = mail.capacity; closed = mail.closed; handed = mail.handed; outstanding = places })
      (ap (λ it. set mail.outstanding (t - mail.handed) it) written
      ∙ set-changed_at (λ it. record { work = it.work; taken = it.taken; kept = Some (result_of (request work)) }) mail.outstanding (t - mail.handed) place lent)

  -- a mailbox that answers a ticket by its own work is the step of the broker
  pub own_step : (mails : List (Mail W O)) (c t : ℕ) (mail new : Mail W O) (told : Answered) →
      mail ≡ get_or mails c mail → c < length mails →
      told ≡ own_answer (status_in mail t) →
      ((work : W) → status_in mail t ≡ Running work → new ≡ with_kept (result_of (request work)) t mail) →
      (told ≢ answered.Kept → new ≡ mail) →
      (status : Status W) → status_in mail t ≡ status →
      AnswersOwn request result_of mails c t (Some status) (Some told) (set mails c new)
  own_step mails c t mail new told lent below called kept dropped Unknown is =
      let strange : told ≡ answered.Strange = called ∙ ap own_answer is in
      (ap Some strange, ap (λ m. set mails c m) (dropped (λ k. strange_is_unkept (sym strange ∙ k))) ∙ set-same mails c mail lent)
  own_step mails c t mail new told lent below called kept dropped (Waiting work) is =
      let strange : told ≡ answered.Strange = called ∙ ap own_answer is in
      (ap Some strange, ap (λ m. set mails c m) (dropped (λ k. strange_is_unkept (sym strange ∙ k))) ∙ set-same mails c mail lent)
  own_step mails c t mail new told lent below called kept dropped Settled is =
      let repeated : told ≡ answered.Repeated = called ∙ ap own_answer is in
      (ap Some repeated, ap (λ m. set mails c m) (dropped (λ k. repeated_is_unkept (sym repeated ∙ k))) ∙ set-same mails c mail lent)
  own_step mails c t mail new told lent below called kept dropped (Running work) is = (
    ap Some (called ∙ ap own_answer is),
    answer_step request result_of mails c mail new lent below (record { ticket = t; work = work }) answered.Kept
        (rw is (inl (refl, refl)))
        (λ _. kept work is) (λ unkept. absurd (unkept refl)),
  )

-- where two facts hold of an answer, so does what follows from both
pub IfOk-both : {X E : Type 0} (r : Result X E) (P Q S : X → Type 0) → ((x : X) → P x → Q x → S x) → IfOk r P → IfOk r Q → IfOk r S
IfOk-both (Ok x) P Q S f p q = f x p q
IfOk-both (Err e) P Q S f p q = tt
