-- What a lane comes to, once all passes are in and what waited is popped.
use Rattle.std.proofs.Common.{◌≡◌, ◌≢◌, ℕ, zero, suc, ◌+◌, ◌-◌, ◌<◌, ◌≤◌, true, false, not, ⊎_elim, All, List, [], ◌∷◌, ◌++◌, length, get_or, slice_get, Option, Some, None, is_some, refl, ap, sym, ◌∙◌, subst, arith}
use Rattle.std.specs.Prelude.{IsPermutation, Contains}
use Rattle.std.proofs.lemmas.Bool.{lt-ltb, le-ltb}
use Rattle.std.proofs.lemmas.List.Elements.{All-contains_itself, All-contains, Contains-append_cases, Contains-append_right}
use Rattle.std.proofs.lemmas.List.Sorted.{IsPermutation-trans, IsPermutation-middle, Contains-permutation}
use Rattle.box_core.specs.Answer.{Ticketed}
use Rattle.box_core.specs.History.{Report, Kept, Strange}
use Rattle.box_core.specs.Mail.{Mail, Place, open_in, open_of_place, status_in, status_by, with_kept}
use Rattle.box_core.specs.Table.{AnswerReport}
use Rattle.box_core.proofs.Small.{bool_case}
use Rattle.lanes.specs.Books.{ticket_of}
use Rattle.lanes.specs.Accounts.{is_open, IsCredited}
use Rattle.lanes.specs.Polls.{left_by, TakenIn}
use Rattle.lanes.specs.Settling.{AllKept}
use Rattle.lanes.proofs.Accounting.{Fits, Credits, Answers, answered, put_at, taken_at}
use Rattle.lanes.proofs.Mails
use Rattle.lanes.proofs.Accounting
use Rattle.lanes.proofs.Once.{entry_is, apart, counts_at}

get_lent : {A : Type 0} (xs : List A) (i : ℕ) (d : A) → i < length xs → slice_get xs i ≡ Some (get_or xs i d)
get_lent [] i d h = absurd (omega (arith, h))
get_lent (x ∷ xs) zero d h = refl
get_lent (x ∷ xs) (suc i) d h = get_lent xs i d (omega (arith, h))

get_is : {A : Type 0} (xs : List A) (i : ℕ) (x : A) → slice_get xs i ≡ Some x → (i < length xs) × (get_or xs i x ≡ x)
get_is [] i x e = absurd (Mails.none_is_not x e)
get_is (y ∷ xs) zero x e = (omega arith, Mails.some_is y x e)
get_is (y ∷ xs) (suc i) x e = let r = get_is xs i x e in (omega (arith, r.0), r.1)

module _ {W R O : Type 0} (request : W → R) (result_of : R → O) where
  -- an open ticket has its place
  place_of : (put : List (Ticketed W)) (mail : Mail W O) (t : ℕ) → Fits request result_of put mail → t < length put → is_open mail t ≡ true
      → (p : Place W O) × (mail.handed ≤ t) × (slice_get mail.outstanding (t - mail.handed) ≡ Some p) × (p.kept ≡ None) × (p.taken ≡ true)
  place_of put mail t f below is = ⊎_elim
      (λ h. absurd (clash (sym is ∙ Mails.closed_below mail t h)))
      (λ (h : mail.handed ≤ t).
      let place = Mails.got mail.outstanding (t - mail.handed) (let n = f.count in omega (arith, n, below, h)) in
      (place.0, h, place.1, Mails.option_case place.0.kept (λ e. e) (λ o e. absurd (clash (sym is ∙ Mails.open_place mail t place.0 h place.1 ∙ ap (λ k. not (is_some k)) e))), taken_at request result_of mail.outstanding (t - mail.handed) place.0 place.1 f.running))
      (Mails.order t mail.handed)
    where
      clash : true ≡ false → ⊥
      clash e = cc

  -- an answer to an open ticket for the request that was put under it is kept
  due_kept : (put : List (Ticketed W)) (mail : Mail W O) (x : Ticketed W) (report : Report W O) → Fits request result_of put mail → slice_get put x.ticket ≡ Some x → is_open mail x.ticket ≡ true
      → AnswerReport request (status_in mail x.ticket) x.work report → report ≡ Kept
  due_kept put mail x report f at is due =
      let place = place_of put mail x.ticket f (get_is put x.ticket x at).0 is in
      let p = place.0 in
      let due' : AnswerReport {O = O} request (status_by {W = W} {O = O} (Some p.work) true None) x.work report = subst (λ s. AnswerReport {O = O} request s x.work report)
      (Mails.status_place mail x.ticket p place.1 place.2 ∙ (λ i. status_by {W = W} {O = O} (Some p.work) (place.4 i) (place.3 i))) due in
      ⊎_elim (λ (e : (request p.work ≡ request x.work) × (report ≡ Kept)). e.1)
      (λ (e : (request p.work ≢ request x.work) × (report ≡ Strange)). absurd (e.0 (ap request (sym (put_at request result_of put mail x.ticket p x f place.1 place.2 at))))) due'

  -- of what is put, what came in time and what is left have no ticket in common
  open_in_time : (put : List (Ticketed W)) (mail : Mail W O) (came rest : List (Ticketed W)) (x : Ticketed W) → Fits request result_of put mail → Credits request result_of put mail came → IsPermutation put (came ++ rest) → Contains rest x
      → (slice_get put x.ticket ≡ Some x) × (is_open mail x.ticket ≡ true)
  open_in_time put mail came rest x f c p has =
      let entry = entry_is ticket_of put (came ++ rest) x f.numbered p (Contains-append_right came rest x has) in (
        get_lent put x.ticket x entry.0 ∙ ap Some entry.1,
        bool_case (is_open mail x.ticket) (λ e. e) (λ closed. absurd (c.accounted x.ticket entry.0 closed
            (λ k d h. apart ticket_of put came rest (get_or came k d) x f.numbered p (All-contains_itself came k d h) has))),
      )

  pub record Ends (put : List (Ticketed W)) (old : Mail W O) (came answers : List (Ticketed W)) (new : Mail W O) : Type 0 where
    pub kept : AllKept request result_of old answers new
    pub fits : Fits request result_of put new
    pub credits : Credits request result_of put new (answers ++ came)

  pub kept_all : (put : List (Ticketed W)) (mail mail' : Mail W O) (came answers left : List (Ticketed W)) → Fits request result_of put mail → Credits request result_of put mail came
      → IsPermutation put (came ++ (answers ++ left)) → TakenIn request result_of mail answers mail' → Ends put mail came answers mail'
  kept_all put mail mail' came [] left f c p taken = record {
    kept = taken;
    fits = subst (λ m. Fits request result_of put m) (sym taken) f;
    credits = subst (λ m. Credits request result_of put m came) (sym taken) c;
  }
  kept_all put mail mail' came (x ∷ answers) left f c p taken =
      let first : Contains (x ∷ (answers ++ left)) x = (0, omega arith, refl) in
      let mine = open_in_time put mail came (x ∷ (answers ++ left)) x f c p first in
      let is : taken.0 ≡ Kept = due_kept put mail x taken.0 f mine.0 mine.1 taken.1 in
      let due : AnswerReport {O = O} request (status_in mail x.ticket) x.work Kept = subst (λ r. AnswerReport {O = O} request (status_in mail x.ticket) x.work r) is taken.1 in
      let one = answered request result_of put mail came x Kept f c (get_is put x.ticket x mine.0).0 due in
      let after : TakenIn request result_of (with_kept (result_of (request x.work)) x.ticket mail) answers mail' = subst (λ r. TakenIn request result_of (left_by request result_of r x mail) answers mail') is taken.2 in
      let moved : IsPermutation put ((x ∷ came) ++ (answers ++ left)) = IsPermutation-trans put (came ++ x ∷ (answers ++ left)) (x ∷ (came ++ (answers ++ left))) p (IsPermutation-middle came x (answers ++ left)) in
      let rest = kept_all put (with_kept (result_of (request x.work)) x.ticket mail) mail' (x ∷ came) answers left one.fits one.credits moved after in
      record {
        kept = (due, rest.kept);
        fits = rest.fits;
        credits = Accounting.credits_order request result_of put mail' (answers ++ x ∷ came) (x ∷ (answers ++ came)) (IsPermutation-middle answers x came) rest.credits;
      }

  -- the jobs that are left are open, with the works that were put
  pub all_are_open : (put : List (Ticketed W)) (mail : Mail W O) (came left : List (Ticketed W)) → Fits request result_of put mail → Credits request result_of put mail came → IsPermutation put (came ++ left)
      → All (λ job. open_in mail job.ticket ≡ Some job.work) left
  all_are_open put mail came left f c p k d h =
      let x : Ticketed W = get_or left k d in
      let mine = open_in_time put mail came left x f c p (All-contains_itself left k d h) in
      let place = place_of put mail x.ticket f (get_is put x.ticket x mine.0).0 mine.1 in
      open_work mail x.ticket place.0 place.1 place.2 place.3 ∙ ap Some (sym (put_at request result_of put mail x.ticket place.0 x f place.1 place.2 mine.0))
    where
      open_work : (mail : Mail W O) (t : ℕ) (p : Place W O) → mail.handed ≤ t → slice_get mail.outstanding (t - mail.handed) ≡ Some p → p.kept ≡ None → open_in mail t ≡ Some p.work
      open_work mail t p h at none = rw (le-ltb t mail.handed h) (rw at (rw none refl))

  -- and each open ticket is left
  pub open_is_left : (put : List (Ticketed W)) (mail : Mail W O) (came left : List (Ticketed W)) → Fits request result_of put mail → Credits request result_of put mail came → IsPermutation put (came ++ left)
      → (t : ℕ) (w : W) → open_in mail t ≡ Some w → Contains left (record { ticket = t; work = w })
  open_is_left put mail came left f c p t w is = ⊎_elim
      (λ h. absurd (Mails.none_is_not w (sym (below h) ∙ is)))
      (λ h. ⊎_elim
      (λ inside. found h inside)
      (λ past. absurd (Mails.none_is_not w (sym (beyond h past) ∙ is)))
      (Mails.order t (length put)))
      (Mails.order t mail.handed)
    where
      below : t < mail.handed → open_in mail t ≡ None
      below h = rw (lt-ltb t mail.handed h) refl

      beyond : mail.handed ≤ t → length put ≤ t → open_in mail t ≡ None
      beyond h past = rw (le-ltb t mail.handed h) (rw (Mails.get_past mail.outstanding (t - mail.handed) (let n = f.count in omega (arith, n, past, h))) refl)

      open_kept : (k : Option O) (v : W) → open_of_place {W = W} {O = O} (Some (record { work = v; taken = true; kept = k })) ≡ Some w → v ≡ w
      open_kept None v e = Mails.some_is v w e
      open_kept (Some o) v e = absurd (Mails.none_is_not w e)

      clash : true ≡ false → ⊥
      clash e = cc

      found : mail.handed ≤ t → t < length put → Contains left (record { ticket = t; work = w })
      found h inside =
          let place = Mails.got mail.outstanding (t - mail.handed) (let n = f.count in omega (arith, n, inside, h)) in
          let y = Mails.got put t inside in
          let opened : open_of_place {W = W} {O = O} (Some place.0) ≡ Some w = sym (rw (le-ltb t mail.handed h) (rw place.1 refl)) ∙ is in
          let work_is : y.0.work ≡ w = put_at request result_of put mail t place.0 y.0 f h place.1 y.1 ∙ open_kept place.0.kept place.0.work opened in
          let ticket_is : y.0.ticket ≡ t = (let g = get_is put t y.0 y.1 in ap ticket_of (sym g.1) ∙ counts_at ticket_of 0 put t y.0 f.numbered inside ∙ (let z : 0 + t ≡ t = omega arith in z)) in
          let same : y.0 ≡ record { ticket = t; work = w } = λ i. record { ticket = ticket_is i; work = work_is i } in
          let has : Contains put y.0 = (let g = get_is put t y.0 y.1 in (t, g.0, g.1)) in
          subst (λ z. Contains left z) same (⊎_elim
          (λ in_came. absurd (clash (sym (ap is_some is) ∙ subst (λ k. is_open mail k ≡ false) ticket_is ((All-contains (IsCredited request put mail) came y.0 c.credited in_came).1 y.0 (ap (λ k. slice_get put k) ticket_is ∙ y.1) refl))))
          (λ in_left. in_left)
          (Contains-append_cases came left y.0 (Contains-permutation put (came ++ left) y.0 p has)))
