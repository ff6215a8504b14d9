-- What a release and an answer leave of a client's accounts.
use Rattle.std.proofs.Common.{◌≡◌, ◌≢◌, ℕ, ◌+◌, ◌-◌, Bool, true, not, ◌⊎◌, inl, inr, List, [], ◌∷◌, length, slice_get, Option, Some, None, is_some, IfSome, IfNone, refl, ap, sym, ◌∙◌, subst, arith}
use Rattle.box_core.specs.Answer.{Ticketed}
use Rattle.box_core.specs.Mail.{Mail, Place, accepted_in, status_in, next_in, with_kept, with_handed}
use Rattle.box_core.specs.Table.{AnswerReport}
use Rattle.box_core.specs.Views.{answered_report}
use Rattle.box_core.specs.declared.faults.Answered.{Answered}
use Rattle.box_core.specs.declared.faults.Answered.TheVariants as answered
use Rattle.box_core.specs.declared.work.Reply.{Reply}
use Rattle.lanes.specs.Accounts.{is_open}
use Rattle.lanes.specs.Clients.{reply_of}
use Rattle.lanes.specs.Polls.{Releases}
use Rattle.lanes.proofs.Accounting.{Fits, fits_handed_out, fits_answered}
use Rattle.lanes.proofs.Mails

module _ {W R O : Type 0} (request : W → R) (result_of : R → O) where
  pub answered_fits : (put : List (Ticketed W)) (mail mail' : Mail W O) (x : Ticketed W) (a : Answered) → Fits request result_of put mail → AnswerReport {O = O} request (status_in mail x.ticket) x.work (answered_report a)
      → (a ≡ answered.Kept → mail' ≡ with_kept (result_of (request x.work)) x.ticket mail) → (a ≢ answered.Kept → mail' ≡ mail) → Fits request result_of put mail'
  answered_fits put mail mail' x answered.Kept f due kept dropped = subst (λ m. Fits request result_of put m) (sym (kept refl)) (fits_answered request result_of put mail x f due)
  answered_fits put mail mail' x answered.Strange f due kept dropped = subst (λ m. Fits request result_of put m) (sym (dropped (λ e. cc))) f
  answered_fits put mail mail' x answered.Repeated f due kept dropped = subst (λ m. Fits request result_of put m) (sym (dropped (λ e. cc))) f

  pub released_fits : (put : List (Ticketed W)) (mail mail' : Mail W O) (r : Option (Reply W O)) → Fits request result_of put mail
      → IfSome r (λ reply. (next_in mail ≡ Some reply.outcome) × (reply.ticket ≡ mail.handed) × (mail' ≡ with_handed mail)) → IfNone r ((next_in mail ≡ None) × (mail' ≡ mail)) → Fits request result_of put mail'
  released_fits put mail mail' (Some reply) f some none = subst (λ m. Fits request result_of put m) (sym some.2) (fits_handed_out request result_of put mail reply.outcome f some.0).0
  released_fits put mail mail' None f some none = subst (λ m. Fits request result_of put m) (sym none.1) f

  pub released_right : (put : List (Ticketed W)) (mail mail' : Mail W O) (r : Option (Reply W O)) → Fits request result_of put mail
      → IfSome r (λ reply. (next_in mail ≡ Some reply.outcome) × (reply.ticket ≡ mail.handed) × (mail' ≡ with_handed mail))
      → IfSome r (λ reply. (x : Ticketed W) → slice_get put reply.ticket ≡ Some x → reply.outcome ≡ result_of (request x.work))
  released_right put mail mail' (Some reply) f some = λ x is. (fits_handed_out request result_of put mail reply.outcome f some.0).1 x (ap (λ k. slice_get put k) (sym some.1) ∙ is)
  released_right put mail mail' None f some = tt

  pub releases : (mail mail' : Mail W O) (r : Option (Reply W O)) → IfSome r (λ reply. (next_in mail ≡ Some reply.outcome) × (reply.ticket ≡ mail.handed) × (mail' ≡ with_handed mail)) → IfNone r ((next_in mail ≡ None) × (mail' ≡ mail))
      → Releases request result_of mail (reply_of r) mail'
  releases mail mail' (Some reply) some none = (some.1, some.0, some.2)
  releases mail mail' None some none = none

module _ {W O : Type 0} where
  -- where nothing is handed out, all was, or the next has no answer
  next_none : (capacity : ℕ) (closed : Bool) (handed : ℕ) (places : List (Place W O)) → next_in (record { capacity = capacity; closed = closed; handed = handed; outstanding = places }) ≡ None
      → (handed ≡ handed + length places) ⊎ (is_open (record { capacity = capacity; closed = closed; handed = handed; outstanding = places }) handed ≡ true)
  next_none capacity closed handed [] e = inl (omega arith)
  next_none capacity closed handed (p ∷ ps) e =
      let mail : Mail W O = record { capacity = capacity; closed = closed; handed = handed; outstanding = p ∷ ps } in
      let front : slice_get (p ∷ ps) (handed - handed) ≡ Some p = (let z : handed - handed ≡ 0 = omega arith in ap (λ k. slice_get (p ∷ ps) k) z) in
      inr (Mails.open_place mail handed p (omega arith) front ∙ ap (λ k. not (is_some k)) e)

  pub released_none : (mail mail' : Mail W O) (r : Option (Reply W O)) → IfNone r ((next_in mail ≡ None) × (mail' ≡ mail)) → IfNone r ((mail.handed ≡ accepted_in mail) ⊎ (is_open mail mail.handed ≡ true))
  released_none mail mail' (Some reply) none = tt
  released_none mail mail' None none = next_none mail.capacity mail.closed mail.handed mail.outstanding none.0
