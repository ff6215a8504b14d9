-- The accounts of a client are kept by each call on its mailbox.
use Rattle.std.proofs.Common.{◌≡◌, ◌≢◌, ℕ, zero, suc, ◌+◌, ◌-◌, ◌<◌, ◌≤◌, Bool, true, false, not, if◌then◌else◌, ⊎_elim, All, List, [], ◌∷◌, ◌++◌, length, map, drop, slice_get, Option, Some, None, is_some, refl, ap, sym, ◌∙◌, subst, arith}
use Rattle.std.specs.Prelude.{IsPermutation}
use Rattle.std.proofs.lemmas.Bool.{lt-ltb, le-ltb}
use Rattle.std.proofs.lemmas.List.Elements.{All-cons, All-tail, All-head}
use Rattle.std.proofs.lemmas.List.Sorted.{All-permutation, IsPermutation-sym, IsPermutation-middle, length_permutation}
use Rattle.std.proofs.lemmas.List.{drop-map, map-append}
use mathlib.Core.Logic.{dite}
use native.Mathlib.Decide.{ℕ_discrete}
use lib.ListN.{length-append}
use Rattle.box_core.specs.Answer.{Ticketed}
use Rattle.box_core.specs.History.{Report, Kept, Strange, Repeated}
use Rattle.box_core.specs.Mail.{Mail, Place, changed_at, accepted_in, status_in, status_by, next_in, with_request, with_kept, with_handed}
use Rattle.box_core.specs.Table.{AnswerReport}
use Rattle.lanes.specs.Books.{ticket_of, work_of, CountsFrom}
use Rattle.lanes.specs.Accounts.{is_open, works_of, taken_of, all_true, kept_count, kept_or, results_of, kept_of, IsCredited, AreAccounted}
use Rattle.lanes.specs.Polls.{left_by, TakenIn, Releases}
use Rattle.lanes.proofs.Carried.{counts_more}
use Rattle.lanes.proofs.Mails

module _ {W R O : Type 0} (request : W → R) (result_of : R → O) where
  -- the mailbox's outstanding requests are the last of what was put, and each outcome that it keeps is the right one
  pub record Fits (put : List (Ticketed W)) (mail : Mail W O) : Type 0 where
    pub numbered : CountsFrom ticket_of 0 put
    pub count : length put ≡ accepted_in mail
    pub works : map work_of (drop mail.handed put) ≡ works_of mail.outstanding
    pub running : taken_of mail.outstanding ≡ all_true mail.outstanding
    pub due : kept_of request result_of mail.outstanding ≡ results_of request result_of mail.outstanding

  -- the answers that came are credited, and each ticket that is not open had one
  pub record Credits (put : List (Ticketed W)) (mail : Mail W O) (came : List (Ticketed W)) : Type 0 where
    pub credited : All (IsCredited request put mail) came
    pub accounted : AreAccounted put mail came
    pub few : mail.handed + kept_count mail.outstanding ≤ length came

  pub credits_order : (put : List (Ticketed W)) (mail : Mail W O) (came came' : List (Ticketed W)) → IsPermutation came came' → Credits put mail came → Credits put mail came'
  credits_order put mail came came' p h = record {
    credited = All-permutation (IsCredited request put mail) came came' p h.credited;
    accounted = λ t below closed all. h.accounted t below closed (All-permutation (λ x. x.ticket ≢ t) came' came (IsPermutation-sym came came' p) all);
    few = (let f = h.few in let n = length_permutation came came' p in omega (arith, f, n));
  }

  -- what became of the mailbox as an answer came
  pub record Answers (put : List (Ticketed W)) (mail : Mail W O) (came : List (Ticketed W)) : Type 0 where
    pub fits : Fits put mail
    pub credits : Credits put mail came

  -- A mailbox in which the same requests are outstanding: it may be closed, or have another capacity.
  pub same_places : (put : List (Ticketed W)) (mail mail' : Mail W O) (came : List (Ticketed W)) → mail'.handed ≡ mail.handed → mail'.outstanding ≡ mail.outstanding → Fits put mail → Credits put mail came → Answers put mail' came
  same_places put mail mail' came handed outstanding f c =
      subst (λ m. Answers put m came) (λ i. record { capacity = mail'.capacity; closed = mail'.closed; handed = sym handed i; outstanding = sym outstanding i })
      (record {
        fits = record { numbered = f.numbered; count = f.count; works = f.works; running = f.running; due = f.due };
        credits = record { credited = c.credited; accounted = c.accounted; few = c.few };
      })

  -- one that is not kept
  unkept : (put : List (Ticketed W)) (mail : Mail W O) (came : List (Ticketed W)) (x : Ticketed W) → Fits put mail → Credits put mail came → IsCredited request put mail x → Answers put mail (x ∷ came)
  unkept put mail came x f c is = record {
    fits = f;
    credits = record {
      credited = All-cons (IsCredited request put mail) x came is c.credited;
      accounted = λ t below closed all. c.accounted t below closed (All-tail (λ y. y.ticket ≢ t) x came all);
      few = (let n = c.few in omega (arith, n));
    };
  }

  -- the work of an outstanding place is the work that was put under its ticket
  pub put_at : (put : List (Ticketed W)) (mail : Mail W O) (t : ℕ) (p : Place W O) (y : Ticketed W) → Fits put mail → mail.handed ≤ t → slice_get mail.outstanding (t - mail.handed) ≡ Some p → slice_get put t ≡ Some y → y.work ≡ p.work
  put_at put mail t p y f h at is =
      let there : t ≡ mail.handed + (t - mail.handed) = omega (arith, h) in
      Mails.get_image work_of (λ (q : Place W O). q.work) (drop mail.handed put) mail.outstanding (t - mail.handed) y p f.works
      (Mails.get_drop mail.handed (t - mail.handed) t put there ∙ is) at

  due_at : (places : List (Place W O)) (i : ℕ) (p : Place W O) (o : O) → slice_get places i ≡ Some p → o ≡ result_of (request p.work) → kept_of request result_of places ≡ results_of request result_of places
      → kept_of request result_of (changed_at (λ place. record { work = place.work; taken = place.taken; kept = Some o }) places i) ≡ results_of request result_of (changed_at (λ place. record { work = place.work; taken = place.taken; kept = Some o }) places i)
  due_at [] i p o at is e = refl
  due_at (q ∷ qs) zero p o at is e =
      let same : o ≡ result_of (request q.work) = is ∙ ap (λ (z : Place W O). result_of (request z.work)) (sym (Mails.some_is q p at)) in
      λ i. same i ∷ (ap (λ (l : List O). drop 1 l) e) i
  due_at (q ∷ qs) (suc k) p o at is e =
      let rest = due_at qs k p o at is (ap (λ (l : List O). drop 1 l) e) in
      let head : kept_or (result_of (request q.work)) q.kept ≡ result_of (request q.work) = Mails.get_image (λ (z : Place W O). kept_or (result_of (request z.work)) z.kept) (λ (z : Place W O). result_of (request z.work)) (q ∷ qs) (q ∷ qs) 0 q q e refl refl in
      λ i. head i ∷ rest i

  -- the part of it that speaks of no answer that came
  pub fits_kept : (put : List (Ticketed W)) (mail : Mail W O) (x : Ticketed W) (p : Place W O) → Fits put mail → mail.handed ≤ x.ticket → slice_get mail.outstanding (x.ticket - mail.handed) ≡ Some p → request p.work ≡ request x.work
      → Fits put (with_kept (result_of (request x.work)) x.ticket mail)
  fits_kept put mail x p f h at same =
      let o : O = result_of (request x.work) in let t : ℕ = x.ticket in
      let keep : Place W O → Place W O = λ place. record { work = place.work; taken = place.taken; kept = Some o } in
      record {
        numbered = f.numbered;
        count = (let n = f.count in let m = Mails.changed_length keep mail.outstanding (t - mail.handed) in omega (arith, n, m));
        works = f.works ∙ sym (Mails.changed_map (λ (q : Place W O). q.work) keep (λ q. refl) mail.outstanding (t - mail.handed));
        running = Mails.changed_map (λ (q : Place W O). q.taken) keep (λ q. refl) mail.outstanding (t - mail.handed) ∙ f.running ∙ sym (Mails.changed_map (λ (q : Place W O). true) keep (λ q. refl) mail.outstanding (t - mail.handed));
        due = due_at mail.outstanding (t - mail.handed) p o at (ap result_of (sym same)) f.due;
      }

  -- one that is kept
  kept : (put : List (Ticketed W)) (mail : Mail W O) (came : List (Ticketed W)) (x : Ticketed W) (p : Place W O) → Fits put mail → Credits put mail came → x.ticket < length put
      → mail.handed ≤ x.ticket → slice_get mail.outstanding (x.ticket - mail.handed) ≡ Some p → request p.work ≡ request x.work
      → Answers put (with_kept (result_of (request x.work)) x.ticket mail) (x ∷ came)
  kept put mail came x p f c below h at same =
      let o : O = result_of (request x.work) in let t : ℕ = x.ticket in
      let new : Mail W O = with_kept o t mail in
      let stays : (s : ℕ) → is_open mail s ≡ false → is_open new s ≡ false = λ s e. Mails.kept_closed mail t s o p h at e in
      record {
        fits = fits_kept put mail x p f h at same;
        credits = record {
          credited = All-cons (IsCredited request put new) x came (below, λ y is eq. Mails.kept_here mail t o p h at)
              (λ k d in_range. let old = c.credited k d in_range in (old.0, λ y is eq. stays _ (old.1 y is eq)));
          accounted = λ s less closed all. dite (ℕ_discrete s t)
              (λ (e : s ≡ t). All-head (λ y. y.ticket ≢ s) x came all (sym e))
              (λ ne. c.accounted s less (sym (Mails.kept_other mail t s o h ne) ∙ closed) (All-tail (λ y. y.ticket ≢ s) x came all));
          few = (let n = c.few in let m = Mails.kept_more o mail.outstanding (t - mail.handed) in omega (arith, n, m));
        };
      }

  pub taken_at : (places : List (Place W O)) (i : ℕ) (p : Place W O) → slice_get places i ≡ Some p → taken_of places ≡ all_true places → p.taken ≡ true
  taken_at places i p at e = Mails.get_image (λ (q : Place W O). q.taken) (λ (q : Place W O). true) places places i p p e at at

  -- an answer for an accepted ticket was taken in
  pub answered : (put : List (Ticketed W)) (mail : Mail W O) (came : List (Ticketed W)) (x : Ticketed W) (report : Report W O) → Fits put mail → Credits put mail came → x.ticket < length put
      → AnswerReport request (status_in mail x.ticket) x.work report → Answers put (left_by request result_of report x mail) (x ∷ came)
  answered put mail came x report f c below due = ⊎_elim before after (Mails.order x.ticket mail.handed)
    where
      After : Report W O → Type 0
      After r = Answers put (left_by request result_of r x mail) (x ∷ came)

      repeated : is_open mail x.ticket ≡ false → report ≡ Repeated → After report
      repeated closed e = subst After (sym e) (unkept put mail came x f c (below, λ y is eq. closed))

      before : x.ticket < mail.handed → After report
      before h = repeated (Mails.closed_below mail x.ticket h) (rw (lt-ltb x.ticket mail.handed h) at due)

      running : (p : Place W O) → mail.handed ≤ x.ticket → slice_get mail.outstanding (x.ticket - mail.handed) ≡ Some p → p.kept ≡ None → After report
      running p h at none =
          let due' : AnswerReport {O = O} request (status_by {W = W} {O = O} (Some p.work) true None) x.work report = subst (λ s. AnswerReport {O = O} request s x.work report)
          (Mails.status_place mail x.ticket p h at ∙ (λ i. status_by {W = W} {O = O} (Some p.work) (taken_at mail.outstanding (x.ticket - mail.handed) p at f.running i) (none i))) due in
          ⊎_elim
          (λ (is : (request p.work ≡ request x.work) × (report ≡ Kept)). subst After (sym is.1) (kept put mail came x p f c below h at is.0))
          (λ (is : (request p.work ≢ request x.work) × (report ≡ Strange)). subst After (sym is.1)
          (unkept put mail came x f c (below, λ y there eq. absurd (is.0 (ap request (sym (put_at put mail x.ticket p y f h at there)) ∙ sym eq)))))
          due'

      settled : (p : Place W O) (o : O) → mail.handed ≤ x.ticket → slice_get mail.outstanding (x.ticket - mail.handed) ≡ Some p → p.kept ≡ Some o → After report
      settled p o h at is =
          repeated (Mails.open_place mail x.ticket p h at ∙ ap (λ k. not (is_some k)) is)
          (subst (λ s. AnswerReport {O = O} request s x.work report)
          (Mails.status_place mail x.ticket p h at ∙ (λ i. status_by {W = W} {O = O} (Some p.work) (taken_at mail.outstanding (x.ticket - mail.handed) p at f.running i) (is i))) due)

      after : mail.handed ≤ x.ticket → After report
      after h =
          let place = Mails.got mail.outstanding (x.ticket - mail.handed) (let n = f.count in omega (arith, n, below, h)) in
          Mails.option_case place.0.kept (running place.0 h place.1) (λ o is. settled place.0 o h place.1 is)

  -- answers for accepted tickets were taken in, one after another
  pub answered_all : (put : List (Ticketed W)) (mail mail' : Mail W O) (came answers : List (Ticketed W)) → Fits put mail → Credits put mail came → All (λ x. x.ticket < length put) answers
      → TakenIn request result_of mail answers mail' → Answers put mail' (answers ++ came)
  answered_all put mail mail' came [] f c below taken = subst (λ m. Answers put m came) (sym taken) (record { fits = f; credits = c })
  answered_all put mail mail' came (x ∷ answers) f c below taken =
      let one = answered put mail came x taken.0 f c (All-head (λ y. y.ticket < length put) x answers below) taken.1 in
      let rest = answered_all put (left_by request result_of taken.0 x mail) mail' (x ∷ came) answers one.fits one.credits (All-tail (λ y. y.ticket < length put) x answers below) taken.2 in
      record { fits = rest.fits; credits = credits_order put mail' (answers ++ x ∷ came) (x ∷ (answers ++ came)) (IsPermutation-middle answers x came) rest.credits }

  -- the answers that were in the rings were taken in
  pub polled : (put : List (Ticketed W)) (mail mail' : Mail W O) (came came' more : List (Ticketed W)) → Fits put mail → Credits put mail came → IsPermutation came' (more ++ came)
      → TakenIn request result_of mail more mail' → All (λ x. x.ticket < accepted_in mail) more → Answers put mail' came'
  polled put mail mail' came came' more f c p taken below =
      let all = answered_all put mail mail' came more f c (subst (λ n. All (λ x. x.ticket < n) more) (sym f.count) below) taken in
      record { fits = all.fits; credits = credits_order put mail' (more ++ came) came' (IsPermutation-sym came' (more ++ came) p) all.credits }

  -- one more request was put
  pub requested : (put : List (Ticketed W)) (mail : Mail W O) (came : List (Ticketed W)) (job : Ticketed W) → Fits put mail → Credits put mail came → job.ticket ≡ length put
      → Answers (put ++ job ∷ []) (with_request job.work true mail) came
  requested put mail came job f c t =
      let place : Place W O = record { work = job.work; taken = true; kept = None } in
      let new : Mail W O = with_request job.work true mail in
      let n : length put ≡ mail.handed + length mail.outstanding = f.count in
      let here : is_open new (length put) ≡ true = Mails.open_place new (length put) place (omega (arith, n)) (Mails.get_last mail.outstanding place (length put - mail.handed) (omega (arith, n))) in
      let there : (s : ℕ) → s < length put → is_open new s ≡ is_open mail s = λ s less. ⊎_elim
      (λ below. Mails.closed_below new s below ∙ sym (Mails.closed_below mail s below))
      (λ above. Mails.open_same mail new s above above (Mails.get_append mail.outstanding (place ∷ []) (s - mail.handed) (omega (arith, n, less, above))))
      (Mails.order s mail.handed) in
      record {
        fits = record {
          numbered = counts_more ticket_of 0 put job f.numbered (omega (arith, t));
          count = (let a = length-append put (job ∷ []) in let b = length-append mail.outstanding (place ∷ []) in omega (arith, n, a, b));
          works = ap (map work_of) (Mails.drop_snoc mail.handed put job (omega (arith, n))) ∙ map-append work_of (drop mail.handed put) (job ∷ []) ∙ ap (λ l. l ++ job.work ∷ []) f.works
              ∙ sym (map-append (λ (q : Place W O). q.work) mail.outstanding (place ∷ []));
          running = map-append (λ (q : Place W O). q.taken) mail.outstanding (place ∷ []) ∙ ap (λ l. l ++ true ∷ []) f.running ∙ sym (map-append (λ (q : Place W O). true) mail.outstanding (place ∷ []));
          due = map-append (λ (q : Place W O). kept_or (result_of (request q.work)) q.kept) mail.outstanding (place ∷ []) ∙ ap (λ l. l ++ result_of (request job.work) ∷ []) f.due ∙ sym (map-append (λ (q : Place W O). result_of (request q.work)) mail.outstanding (place ∷ []));
        };
        credits = record {
          credited = λ k d in_range. let old = c.credited k d in_range in (
            (let o = old.0 in let a = length-append put (job ∷ []) in omega (arith, o, a)),
            λ y is eq. there _ old.0 ∙ old.1 y (sym (Mails.get_append put (job ∷ []) _ old.0) ∙ is) eq,
          );
          accounted = λ s less closed all. dite (ℕ_discrete s (length put))
              (λ (e : s ≡ length put). not_both (sym here ∙ ap (is_open new) (sym e) ∙ closed))
              (λ ne. let below : s < length put = (let a = length-append put (job ∷ []) in omega (arith, less, a, ne)) in c.accounted s below (sym (there s below) ∙ closed) all);
          few = (let m = c.few in let k = kept_snoc mail.outstanding in omega (arith, m, k));
        };
      }
    where
      not_both : true ≡ false → ⊥
      not_both e = cc

      kept_snoc : (places : List (Place W O)) → kept_count (places ++ record { work = job.work; taken = true; kept = None } ∷ []) ≡ kept_count places
      kept_snoc [] = refl
      kept_snoc (p ∷ ps) = ap (λ n. (if is_some p.kept then 1 else 0) + n) (kept_snoc ps)

  pub fits_hand : (put : List (Ticketed W)) (capacity : ℕ) (closed : Bool) (handed : ℕ) (p : Place W O) (ps : List (Place W O)) → Fits put (record { capacity = capacity; closed = closed; handed = handed; outstanding = p ∷ ps })
      → Fits put (record { capacity = capacity; closed = closed; handed = handed + 1; outstanding = ps })
  fits_hand put capacity closed handed p ps f = record {
    numbered = f.numbered;
    count = (let n : length put ≡ handed + suc (length ps) = f.count in omega (arith, n));
    works = ap (map work_of) (Mails.drop_suc handed put) ∙ sym (drop-map work_of 1 (drop handed put)) ∙ ap (λ (l : List W). drop 1 l) f.works;
    running = ap (λ (l : List Bool). drop 1 l) f.running;
    due = ap (λ (l : List O). drop 1 l) f.due;
  }

  -- the outcome that is handed out is the result of the request that was put next
  hand_result : (put : List (Ticketed W)) (capacity : ℕ) (closed : Bool) (handed : ℕ) (p : Place W O) (ps : List (Place W O)) (outcome : O) → Fits put (record { capacity = capacity; closed = closed; handed = handed; outstanding = p ∷ ps })
      → p.kept ≡ Some outcome → (y : Ticketed W) → slice_get put handed ≡ Some y → outcome ≡ result_of (request y.work)
  hand_result put capacity closed handed p ps outcome f next y is =
      let mail : Mail W O = record { capacity = capacity; closed = closed; handed = handed; outstanding = p ∷ ps } in
      let front : slice_get mail.outstanding (handed - handed) ≡ Some p = ap (λ k. slice_get (p ∷ ps) k) (let z : handed - handed ≡ 0 = omega arith in z) in
      let kept_is : kept_or (result_of (request p.work)) p.kept ≡ result_of (request p.work) = Mails.get_image (λ (z : Place W O). kept_or (result_of (request z.work)) z.kept) (λ (z : Place W O). result_of (request z.work)) (p ∷ ps) (p ∷ ps) 0 p p f.due refl refl in
      sym (ap (λ k. kept_or (result_of (request p.work)) k) next) ∙ kept_is ∙ ap (λ w. result_of (request w)) (sym (put_at put mail handed p y f (omega arith) front is))

  pub submitted : (put put' : List (Ticketed W)) (mail mail' : Mail W O) (came : List (Ticketed W)) (work : W) (job : Ticketed W) → Fits put mail → Credits put mail came
      → put' ≡ put ++ job ∷ [] → mail' ≡ with_request work true mail → job.work ≡ work → job.ticket ≡ accepted_in mail → Answers put' mail' came
  submitted put put' mail mail' came work job f c put_is mail_is work_is ticket_is =
      subst (λ p. Answers p mail' came) (sym put_is) (subst (λ m. Answers (put ++ job ∷ []) m came) (sym (mail_is ∙ ap (λ w. with_request w true mail) (sym work_is)))
      (requested put mail came job f c (ticket_is ∙ sym f.count)))

  -- what is handed out next is the result of the request that was put next
  pub record Hands (put : List (Ticketed W)) (mail : Mail W O) (came : List (Ticketed W)) (outcome : O) : Type 0 where
    pub answers : Answers put (with_handed mail) came
    pub result : (y : Ticketed W) → slice_get put mail.handed ≡ Some y → outcome ≡ result_of (request y.work)

  hand : (put : List (Ticketed W)) (came : List (Ticketed W)) (capacity : ℕ) (closed : Bool) (handed : ℕ) (places : List (Place W O)) (outcome : O)
      → Fits put (record { capacity = capacity; closed = closed; handed = handed; outstanding = places })
      → Credits put (record { capacity = capacity; closed = closed; handed = handed; outstanding = places }) came
      → next_in (record { capacity = capacity; closed = closed; handed = handed; outstanding = places }) ≡ Some outcome
      → Hands put (record { capacity = capacity; closed = closed; handed = handed; outstanding = places }) came outcome
  hand put came capacity closed handed [] outcome f c next = absurd (Mails.none_is_not outcome next)
  hand put came capacity closed handed (p ∷ ps) outcome f c next =
      let mail : Mail W O = record { capacity = capacity; closed = closed; handed = handed; outstanding = p ∷ ps } in
      let new : Mail W O = record { capacity = capacity; closed = closed; handed = handed + 1; outstanding = ps } in
      let n : length put ≡ handed + suc (length ps) = f.count in
      let front : slice_get mail.outstanding (handed - handed) ≡ Some p = ap (λ k. slice_get (p ∷ ps) k) (let z : handed - handed ≡ 0 = omega arith in z) in
      let first : is_open mail handed ≡ false = Mails.open_place mail handed p (omega arith) front ∙ ap (λ k. not (is_some k)) next in
      let same : (s : ℕ) → is_open new s ≡ is_open mail s = λ s. ⊎_elim
      (λ below. Mails.closed_below new s (omega (arith, below)) ∙ sym (Mails.closed_below mail s below))
      (λ above. dite (ℕ_discrete s handed)
      (λ (e : s ≡ handed). Mails.closed_below new s (omega (arith, e)) ∙ sym (ap (is_open mail) e ∙ first))
      (λ ne. Mails.open_same mail new s above (omega (arith, above, ne)) (let k : s - handed ≡ suc (s - (handed + 1)) = omega (arith, above, ne) in sym (ap (λ j. slice_get (p ∷ ps) j) k))))
      (Mails.order s handed) in
      record {
        answers = record {
          fits = fits_hand put capacity closed handed p ps f;
          credits = record {
            credited = λ k d in_range. let old = c.credited k d in_range in (old.0, λ y is eq. same _ ∙ old.1 y is eq);
            accounted = λ s less e all. c.accounted s less (sym (same s) ∙ e) all;
            few = (let m = c.few in let b : Mails.bit p.kept ≡ 1 = ap Mails.bit next in fewer p.kept m b);
          };
        };
        result = hand_result put capacity closed handed p ps outcome f next;
      }
    where
      fewer : (k : Option O) → handed + ((if is_some k then 1 else 0) + kept_count ps) ≤ length came → Mails.bit k ≡ 1 → (handed + 1) + kept_count ps ≤ length came
      fewer None m b = absurd (omega (arith, b))
      fewer (Some o) m b = omega (arith, m)

  pub handed_out : (put : List (Ticketed W)) (mail : Mail W O) (came : List (Ticketed W)) (outcome : O) → Fits put mail → Credits put mail came → next_in mail ≡ Some outcome → Hands put mail came outcome
  handed_out put mail came outcome f c next = hand put came mail.capacity mail.closed mail.handed mail.outstanding outcome f c next

  -- a client's accounts, by what came to its mailbox and what that handed out
  pub released : (put : List (Ticketed W)) (mail mail' : Mail W O) (came : List (Ticketed W)) (reply : Option (ℕ × O)) → Answers put mail came → Releases request result_of mail reply mail' → Answers put mail' came
  released put mail mail' came None a r = subst (λ m. Answers put m came) (sym r.1) a
  released put mail mail' came (Some reply) a r = subst (λ m. Answers put m came) (sym r.2) (handed_out put mail came reply.1 a.fits a.credits r.1).answers

  -- the same where no answer that came is spoken of
  fits_out : (put : List (Ticketed W)) (capacity : ℕ) (closed : Bool) (handed : ℕ) (places : List (Place W O)) (outcome : O)
      → Fits put (record { capacity = capacity; closed = closed; handed = handed; outstanding = places })
      → next_in (record { capacity = capacity; closed = closed; handed = handed; outstanding = places }) ≡ Some outcome
      → Fits put (with_handed (record { capacity = capacity; closed = closed; handed = handed; outstanding = places })) × ((y : Ticketed W) → slice_get put handed ≡ Some y → outcome ≡ result_of (request y.work))
  fits_out put capacity closed handed [] outcome f next = absurd (Mails.none_is_not outcome next)
  fits_out put capacity closed handed (p ∷ ps) outcome f next = (fits_hand put capacity closed handed p ps f, hand_result put capacity closed handed p ps outcome f next)

  pub fits_handed_out : (put : List (Ticketed W)) (mail : Mail W O) (outcome : O) → Fits put mail → next_in mail ≡ Some outcome
      → Fits put (with_handed mail) × ((y : Ticketed W) → slice_get put mail.handed ≡ Some y → outcome ≡ result_of (request y.work))
  fits_handed_out put mail outcome f next = fits_out put mail.capacity mail.closed mail.handed mail.outstanding outcome f next

  pub fits_answered : (put : List (Ticketed W)) (mail : Mail W O) (x : Ticketed W) → Fits put mail
      → AnswerReport {O = O} request (status_in mail x.ticket) x.work Kept → Fits put (with_kept (result_of (request x.work)) x.ticket mail)
  fits_answered put mail x f due = ⊎_elim before after (Mails.order x.ticket mail.handed)
    where
      Goal : Type 0
      Goal = Fits put (with_kept (result_of (request x.work)) x.ticket mail)

      not_repeated : ◌≡◌ {A = Report W O} Kept Repeated → ⊥
      not_repeated e = cc

      not_strange : ◌≡◌ {A = Report W O} Kept Strange → ⊥
      not_strange e = cc

      before : x.ticket < mail.handed → Goal
      before h = absurd (not_repeated (rw (lt-ltb x.ticket mail.handed h) at due))

      after : mail.handed ≤ x.ticket → Goal
      after h = Mails.option_case (slice_get mail.outstanding (x.ticket - mail.handed))
          (λ none. absurd (not_strange (rw none at (rw (le-ltb x.ticket mail.handed h) at due))))
          (λ p at. Mails.option_case p.kept
          (λ none.
          let due' : AnswerReport {O = O} request (status_by {W = W} {O = O} (Some p.work) true None) x.work Kept = subst (λ s. AnswerReport {O = O} request s x.work Kept)
          (Mails.status_place mail x.ticket p h at ∙ (λ i. status_by {W = W} {O = O} (Some p.work) (taken_at mail.outstanding (x.ticket - mail.handed) p at f.running i) (none i))) due in
          ⊎_elim (λ (is : (request p.work ≡ request x.work) × (◌≡◌ {A = Report W O} Kept Kept)). fits_kept put mail x p f h at is.0) (λ (is : (request p.work ≢ request x.work) × (◌≡◌ {A = Report W O} Kept Strange)). absurd (not_strange is.1)) due')
          (λ o is. absurd (not_repeated (subst (λ s. AnswerReport {O = O} request s x.work Kept)
          (Mails.status_place mail x.ticket p h at ∙ (λ i. status_by {W = W} {O = O} (Some p.work) (taken_at mail.outstanding (x.ticket - mail.handed) p at f.running i) (is i))) due))))
