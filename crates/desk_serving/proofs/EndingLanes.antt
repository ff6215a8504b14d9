-- What is left once the workers ended.
use Rattle.std.proofs.Common.{◌≡◌, ◌≢◌, ◌⊎◌, inl, inr, ⊎_elim, ◌+◌, ◌-◌, ◌<◌, ◌≤◌, nat_lt, ℕ, zero, suc, true, false, Bool, if◌then◌else◌, List, [], ◌∷◌, ◌++◌, Option, Some, None, is_some, length, map, drop, get_or, slice_get, slice_set, All, refl, sym, ap, ◌∙◌, subst, arith, append_assoc}
use Rattle.std.specs.Prelude.{Contains}
use Rattle.std.proofs.lemmas.Bool.{lt-ltb, le-ltb}
use Rattle.std.proofs.lemmas.List.Elements.{All-cons, All-nil, All-contains, Contains-get_or, Contains-push, Contains-push_cases, Contains-append_left}
use Rattle.std.proofs.lemmas.List.{drop_all, length-map, map-set}
use mathlib.Core.Logic.{dite}
use native.Mathlib.Decide.{ℕ_discrete}
use Rattle.box_core.specs.Answer.{Ticketed}
use Rattle.box_core.specs.History as history
use Rattle.box_core.specs.History.{Kept, Strange, Repeated}
use Rattle.box_core.specs.Mail.{Mail, Place, changed_at, accepted_in, open_in, open_of_place, status_in, status_by, next_in, with_kept}
use Rattle.box_core.specs.Mail as mail
use Rattle.box_core.specs.Table.{AnswerReport}
use Rattle.box_core.specs.Views.{answered_report}
use Rattle.box_core.specs.declared.faults.Answered.{Answered}
use Rattle.box_core.specs.declared.faults.Answered.TheVariants as answered
use Rattle.dmn_plan.specs.Request.{Request, request_result}
use Rattle.feel_value.specs.declared.feel.Outcome.{Outcome}
use Rattle.lanes.specs.Ends.{ClientEnd, SettledEnd, LaneEnd}
use Rattle.lanes.specs.Accounts.{taken_of, all_true}
use Rattle.lanes.specs.Books.{work_of}
use Rattle.lanes.specs.Clients.{mail_of}
use Rattle.lanes.specs.Rest.{put_in, mail_in, left_in}
use Rattle.lanes.specs.Settling.{AllKept, AllSettle, Settles}
use Rattle.lanes.proofs.Accounting.{taken_at}
use Rattle.lanes.proofs.Mails.{option_case, order, some_is, none_is_not, got, changed_other, status_place, get_drop, drop_suc}
use Rattle.desk_serving.specs.Ending.{IsReady, IsWhole, ends_lanes}
use Rattle.desk_serving.specs.Owed.{AreBooked, AreFirst, AreFirstOwn, AreHanded, AreOwn, Lane, Queue, ToRequest, as_queue, due, lane_in, lane_of, queue_in, queue_of, replies, unhanded}
use Rattle.desk_requests.specs.State.{AreDistinct}
use Rattle.desk_wire.specs.Reading.{Reading}
use Rattle.desk_requests.specs.Line.{Line}
use Rattle.desk_wire.specs.Reports.{Report, Reply}
use Rattle.desk_serving.specs.Script.{of_client}
use Rattle.desk_serving.proofs.Owing.{next_handed, of_client-append, own_first, own_handed, own_lost, replies-none, set_at, with_handed}

-- ## What an answer makes of the open tickets

-- only this ticket is not open any more
pub record Closes {W O : Type 0} (old new : Mail W O) (ticket : ℕ) : Type 0 where
  pub here : open_in new ticket ≡ None
  pub other : (t : ℕ) → t ≢ ticket → open_in new t ≡ open_in old t

if_none : {A : Type 0} (b : Bool) (x : Option A) → x ≡ None → (if b then None else x) ≡ None
if_none true x e = refl
if_none false x e = e

module _ {W O : Type 0} where
  kept_place : (o : O) (places : List (Place W O)) (i : ℕ)
      → open_of_place (slice_get (changed_at (λ place. record { work = place.work; taken = place.taken; kept = Some o }) places i) i) ≡ None
  kept_place o [] i = refl
  kept_place o (p ∷ ps) zero = refl
  kept_place o (p ∷ ps) (suc i) = kept_place o ps i

  kept_closes : (old : Mail W O) (t : ℕ) (o : O) → old.handed ≤ t → Closes old (with_kept o t old) t
  kept_closes old t o h = record {
    here = if_none (nat_lt t old.handed) _ (kept_place o old.outstanding (t - old.handed));
    other = λ s ne. ⊎_elim
        (λ (below : s < old.handed). rw (lt-ltb s old.handed below) refl)
        (λ (above : old.handed ≤ s). ap (λ p. if nat_lt s old.handed then None else open_of_place p)
        (changed_other (λ place. record { work = place.work; taken = place.taken; kept = Some o }) old.outstanding (t - old.handed) (s - old.handed) (λ e. ne (omega (arith, e, h, above)))))
        (order s old.handed);
  }

  -- a ticket that was handed is not open
  handed_none : (old : Mail W O) (t : ℕ) → t < old.handed → open_in old t ≡ None
  handed_none old t h = rw (lt-ltb t old.handed h) refl

  -- the place of an open ticket
  pub record IsAt (old : Mail W O) (t : ℕ) (w : W) (p : Place W O) : Type 0 where
    pub after : old.handed ≤ t
    pub at : slice_get old.outstanding (t - old.handed) ≡ Some p
    pub kept : p.kept ≡ None
    pub work : p.work ≡ w

  open_by : (kept : Option O) (v w : W) → (if is_some kept then None else Some v) ≡ Some w → (kept ≡ None) × (v ≡ w)
  open_by None v w e = (refl, some_is v w e)
  open_by (Some o) v w e = absurd (none_is_not w e)

  open_is_at : (old : Mail W O) (t : ℕ) (w : W) → open_in old t ≡ Some w → (p : Place W O) × IsAt old t w p
  open_is_at old t w e = ⊎_elim
      (λ (below : t < old.handed). absurd (none_is_not w (sym (handed_none old t below) ∙ e)))
      (λ (above : old.handed ≤ t). option_case (slice_get old.outstanding (t - old.handed))
      (λ none. let e' = rw (le-ltb t old.handed above) at e in absurd (none_is_not w (sym (ap open_of_place none) ∙ e')))
      (λ p at. let e' = rw (le-ltb t old.handed above) at e in
      let both = open_by p.kept p.work w (sym (ap open_of_place at) ∙ e') in
      (p, record { after = above; at = at; kept = both.0; work = both.1 })))
      (order t old.handed)

module _ {W R O : Type 0} (request : W → R) (result_of : R → O) where
  not_repeated : ◌≡◌ {A = history.Report W O} Kept Repeated → ⊥
  not_repeated e = cc

  kept_after : (old : Mail W O) (x : Ticketed W) → AnswerReport {O = O} request (status_in old x.ticket) x.work Kept → old.handed ≤ x.ticket
  kept_after old x due = ⊎_elim
      (λ (below : x.ticket < old.handed). absurd (not_repeated (rw (lt-ltb x.ticket old.handed below) at due)))
      (λ (above : old.handed ≤ x.ticket). above)
      (order x.ticket old.handed)

  -- an answer to an open ticket, for its request, is kept
  open_kept : (old : Mail W O) (x : Ticketed W) (report : history.Report W O) → taken_of old.outstanding ≡ all_true old.outstanding → open_in old x.ticket ≡ Some x.work
      → AnswerReport request (status_in old x.ticket) x.work report → report ≡ Kept
  open_kept old x report running is due =
      let place = open_is_at old x.ticket x.work is in
      let p = place.0 in
      let due' : AnswerReport {O = O} request (status_by {W = W} {O = O} (Some p.work) true None) x.work report = subst (λ s. AnswerReport {O = O} request s x.work report)
      (status_place old x.ticket p place.1.after place.1.at
      ∙ (λ i. status_by {W = W} {O = O} (Some p.work) (taken_at request result_of old.outstanding (x.ticket - old.handed) p place.1.at running i) (place.1.kept i))) due in
      ⊎_elim (λ (e : (request p.work ≡ request x.work) × (report ≡ Kept)). e.1)
      (λ (e : (request p.work ≢ request x.work) × (report ≡ Strange)). absurd (e.0 (ap request place.1.work))) due'

  -- an answer that is not kept was for a ticket that is not open
  dropped_closes : (old new : Mail W O) (x : Ticketed W) (report : history.Report W O) → report ≢ Kept → taken_of old.outstanding ≡ all_true old.outstanding
      → (open_in old x.ticket ≡ Some x.work) ⊎ (open_in old x.ticket ≡ None) → AnswerReport request (status_in old x.ticket) x.work report → new ≡ old → Closes old new x.ticket
  dropped_closes old new x report n running right due same =
      let here : open_in old x.ticket ≡ None = ⊎_elim (λ is. absurd (n (open_kept old x report running is due))) (λ none. none) right in
      subst (λ m. Closes old m x.ticket) (sym same) (record { here = here; other = λ t ne. refl })

  pub answer_closes : (old new : Mail W O) (x : Ticketed W) (a : Answered) → taken_of old.outstanding ≡ all_true old.outstanding
      → (open_in old x.ticket ≡ Some x.work) ⊎ (open_in old x.ticket ≡ None) → AnswerReport {O = O} request (status_in old x.ticket) x.work (answered_report a)
      → (a ≡ answered.Kept → new ≡ with_kept (result_of (request x.work)) x.ticket old) → (a ≢ answered.Kept → new ≡ old) → Closes old new x.ticket
  answer_closes old new x answered.Kept running right due kept dropped =
      subst (λ m. Closes old m x.ticket) (sym (kept refl)) (kept_closes old x.ticket (result_of (request x.work)) (kept_after old x due))
  answer_closes old new x answered.Strange running right due kept dropped = dropped_closes old new x Strange (λ e. cc) running right due (dropped (λ e. cc))
  answer_closes old new x answered.Repeated running right due kept dropped = dropped_closes old new x Repeated (λ e. cc) running right due (dropped (λ e. cc))

-- a release opens no ticket
pub run_handed : (old new : Mail Request Outcome) → ((t : ℕ) → open_in old t ≡ None) → new ≡ mail.with_handed old → (t : ℕ) → open_in new t ≡ None
run_handed old new run is t = subst (λ (m : Mail Request Outcome). open_in m t ≡ None) (sym is) (⊎_elim
    (λ (below : t < old.handed + 1). rw (lt-ltb t (old.handed + 1) below) refl)
    (λ (above : old.handed + 1 ≤ t).
    let h : old.handed ≤ t = omega (arith, above) in
    let none : open_in old t ≡ None = run t in
    let was = rw (le-ltb t old.handed h) at none in
    rw (le-ltb t (old.handed + 1) above) (ap open_of_place (get_drop 1 (t - (old.handed + 1)) (t - old.handed) old.outstanding (omega (arith, above))) ∙ was))
    (order t (old.handed + 1)))

-- ## Ends

-- once a job is answered, the others are what is left
pub ready_next : (old new : SettledEnd Request Outcome) (x : Ticketed Request) → IsReady old → left_in old ≡ left_in new ++ x ∷ [] → Closes (mail_in old) (mail_in new) x.ticket → IsReady new
ready_next old new x ready left closes = record {
  all = λ t w is. dite (ℕ_discrete t x.ticket)
      (λ (same : t ≡ x.ticket). absurd (none_is_not w (sym closes.here ∙ ap (open_in (mail_in new)) (sym same) ∙ is)))
      (λ ne. ⊎_elim
      (λ (found : Contains (left_in new) (record { ticket = t; work = w })). found)
      (λ (e : x ≡ record { ticket = t; work = w }). absurd (ne (ap (λ (y : Ticketed Request). y.ticket) (sym e))))
      (Contains-push_cases (left_in new) x (record { ticket = t; work = w }) (subst (λ l. Contains l (record { ticket = t; work = w })) left (ready.all t w (sym (closes.other t ne) ∙ is)))));
  right = λ k d lt.
      let job : Ticketed Request = get_or (left_in new) k d in
      let was : (open_in (mail_in old) job.ticket ≡ Some job.work) ⊎ (open_in (mail_in old) job.ticket ≡ None) =
      All-contains (λ (j : Ticketed Request). (open_in (mail_in old) j.ticket ≡ Some j.work) ⊎ (open_in (mail_in old) j.ticket ≡ None)) (left_in old) job ready.right
      (subst (λ l. Contains l job) (sym left) (Contains-append_left (left_in new) (x ∷ []) job (Contains-get_or (left_in new) k d lt))) in
      dite (ℕ_discrete job.ticket x.ticket)
      (λ (same : job.ticket ≡ x.ticket). inr (ap (open_in (mail_in new)) same ∙ closes.here))
      (λ ne. ⊎_elim (λ is. inl (closes.other job.ticket ne ∙ is)) (λ none. inr (closes.other job.ticket ne ∙ none)) was);
}

-- an answer to the job that was the last of those left
pub ready_answered : (old mid new : SettledEnd Request Outcome) (x : Ticketed Request) (a : Answered) → IsReady old → left_in old ≡ left_in mid ++ x ∷ [] → mail_in mid ≡ mail_in old → left_in new ≡ left_in mid
    → AnswerReport {O = Outcome} (λ (q : Request). q) (status_in (mail_in mid) x.ticket) x.work (answered_report a)
    → (a ≡ answered.Kept → mail_in new ≡ with_kept (request_result x.work) x.ticket (mail_in mid)) → (a ≢ answered.Kept → mail_in new ≡ mail_in mid) → IsReady new
ready_answered old mid new x a ready left mail rest due kept dropped =
    let right = All-contains (λ (j : Ticketed Request). (open_in (mail_in old) j.ticket ≡ Some j.work) ⊎ (open_in (mail_in old) j.ticket ≡ None)) (left_in old) x ready.right
    (subst (λ l. Contains l x) (sym left) (Contains-push (left_in mid) x)) in
    let right' : (open_in (mail_in mid) x.ticket ≡ Some x.work) ⊎ (open_in (mail_in mid) x.ticket ≡ None) =
    subst (λ m. (open_in m x.ticket ≡ Some x.work) ⊎ (open_in m x.ticket ≡ None)) (sym mail) right in
    let closes = answer_closes (λ (q : Request). q) request_result (mail_in mid) (mail_in new) x a mid.running right' due kept dropped in
    ready_next old new x ready (left ∙ ap (λ l. l ++ x ∷ []) (sym rest)) (subst (λ m. Closes m (mail_in new) x.ticket) mail closes)

queue_same : (x y : Lane) → x.put ≡ y.put → x.handed ≡ y.handed → x.closed ≡ y.closed → as_queue x ≡ as_queue y
queue_same x y p h c = λ i. as_queue (record { put = p i; handed = h i; closed = c i })

pub same_lane : (old new : SettledEnd Request Outcome) → put_in new ≡ put_in old → mail_in new ≡ mail_in old → queue_in new ≡ queue_in old
same_lane old new put m = queue_same (lane_in new) (lane_in old) (ap (map work_of) put) (ap (λ (n : Mail Request Outcome). n.handed) m) (ap (λ (n : Mail Request Outcome). n.closed) m)

-- an answer leaves the lane
pub answered_lane : (mid new : SettledEnd Request Outcome) (o : Outcome) (x : Ticketed Request) (a : Answered) → put_in new ≡ put_in mid
    → (a ≡ answered.Kept → mail_in new ≡ with_kept o x.ticket (mail_in mid)) → (a ≢ answered.Kept → mail_in new ≡ mail_in mid) → queue_in new ≡ queue_in mid
answered_lane mid new o x answered.Kept put kept dropped = let m = kept refl in queue_same (lane_in new) (lane_in mid) (ap (map work_of) put) (ap (λ (n : Mail Request Outcome). n.handed) m) (ap (λ (n : Mail Request Outcome). n.closed) m)
answered_lane mid new o x answered.Strange put kept dropped = same_lane mid new put (dropped (λ e. cc))
answered_lane mid new o x answered.Repeated put kept dropped = same_lane mid new put (dropped (λ e. cc))

-- the next request, where its outcome is kept
pub next_put : (end : SettledEnd Request Outcome) (o : Outcome) → next_in (mail_in end) ≡ Some o → (x : Ticketed Request) × (slice_get (put_in end) (mail_in end).handed ≡ Some x)
next_put end o next = got (put_in end) (mail_in end).handed (let some = has_next (mail_in end).outstanding next in omega (arith, some, end.count))
  where
    has_next : (places : List (Place Request Outcome)) → mail.kept_of_place (slice_get places 0) ≡ Some o → 0 < length places
    has_next [] e = absurd (none_is_not o e)
    has_next (p ∷ ps) e = omega arith

pub map_at : {A B : Type 0} (f : A → B) (xs : List A) (i : ℕ) (x : A) → slice_get xs i ≡ Some x → slice_get (map f xs) i ≡ Some (f x)
map_at f [] i x e = absurd (none_is_not x e)
map_at f (y ∷ xs) zero x e = ap (λ z. Some (f z)) (some_is y x e)
map_at f (y ∷ xs) (suc i) x e = map_at f xs i x e

map_get : {A B : Type 0} (f : A → B) (xs : List A) (i : ℕ) (y : B) → slice_get (map f xs) i ≡ Some y → (x : A) × (slice_get xs i ≡ Some x) × (f x ≡ y)
map_get f [] i y e = absurd (none_is_not y e)
map_get f (x ∷ xs) zero y e = (x, refl, some_is (f x) y e)
map_get f (x ∷ xs) (suc i) y e = map_get f xs i y e

-- ## One lane's rest

pub own_none : (name : List ℕ) (lane : Queue) → AreOwn name lane lane []
own_none name lane = record { put = refl; closed = refl; own = refl; others = λ who far. refl }

pub own_then : (name : List ℕ) (a b c : Queue) (m k : List Report) → AreOwn name a b m → AreOwn name b c k → AreOwn name a c (m ++ k)
own_then name a b c m k x y = record {
  put = y.put ∙ x.put;
  closed = y.closed ∙ x.closed;
  own = ap (λ t. t ++ due name c) (of_client-append (Some name) m k) ∙ append_assoc (of_client (Some name) m) (of_client (Some name) k) (due name c)
      ∙ ap (λ t. of_client (Some name) m ++ t) y.own ∙ x.own;
  others = λ who far. of_client-append who m k ∙ ap (λ t. t ++ of_client who k) (x.others who far) ∙ y.others who far;
}

pub own_begun : (name : List ℕ) (old new : Queue) (m : List Report) → AreOwn name old new m → AreFirstOwn name old m
own_begun name old new m x = record { rest = due name new; own = x.own; others = x.others }

drop_none : {A : Type 0} (n : ℕ) (xs : List A) → drop n xs ≡ [] → length xs ≤ n
drop_none zero [] e = omega arith
drop_none zero (x ∷ xs) e = cc
drop_none (suc n) [] e = omega arith
drop_none (suc n) (x ∷ xs) e = omega (arith, drop_none n xs e)

all_kept : (old new : Mail Request Outcome) (answers : List (Ticketed Request)) → AllKept {O = Outcome} (λ (q : Request). q) request_result old answers new → (new.handed ≡ old.handed) × (new.closed ≡ old.closed)
all_kept old new [] kept = (ap (λ (m : Mail Request Outcome). m.handed) kept, ap (λ (m : Mail Request Outcome). m.closed) kept)
all_kept old new (x ∷ answers) kept = all_kept (with_kept (request_result x.work) x.ticket old) new answers kept.1

-- a result that is handed out is the next reply that was owed
pub own_released : (name : List ℕ) (old new : SettledEnd Request Outcome) (ticket : ℕ) (outcome : Outcome)
    → (next_in (mail_in old) ≡ Some outcome) × (ticket ≡ (mail_in old).handed) × (mail_in new ≡ mail.with_handed (mail_in old))
    → ((x : Ticketed Request) → slice_get (put_in old) ticket ≡ Some x → outcome ≡ request_result x.work) → put_in new ≡ put_in old
    → AreOwn name (queue_in old) (queue_in new) (Reply name ticket outcome ∷ [])
own_released name old new ticket outcome handed right put =
    let x = next_put old outcome handed.0 in
    let at : slice_get (put_in old) ticket ≡ Some x.0 = ap (slice_get (put_in old)) handed.1 ∙ x.1 in
    let lane : queue_in new ≡ as_queue (with_handed (lane_in old)) =
    queue_same (lane_in new) (with_handed (lane_in old)) (ap (map work_of) put) (ap (λ (n : Mail Request Outcome). n.handed) handed.2) (ap (λ (n : Mail Request Outcome). n.closed) handed.2) in
    let next = next_handed (lane_in old) x.0.work (map_at work_of (put_in old) (mail_in old).handed x.0 x.1) in
    let own = own_lost name (ToRequest (mail_in old).handed x.0.work) (queue_in old) (as_queue (with_handed (lane_in old))) next in
    let said : Reply name (mail_in old).handed (request_result x.0.work) ≡ Reply name ticket outcome = λ i. Reply name (sym handed.1 i) (sym (right x.0 at) i) in
    subst (λ l. AreOwn name (queue_in old) l (Reply name ticket outcome ∷ [])) (sym lane)
    (subst (λ e. AreOwn name (queue_in old) (as_queue (with_handed (lane_in old))) (e ∷ [])) said own)

-- all ends, as they come out of their lanes

settled_lane : (client : ClientEnd Request Outcome) (ports : List (LaneEnd Request Outcome)) (end : SettledEnd Request Outcome) → Settles (λ (q : Request). q) request_result client ports end → queue_in end ≡ queue_of client
settled_lane client ports end s =
    let same = all_kept (mail_of client) (mail_in end) s.answers s.kept in queue_same (lane_in end) (lane_of client) (ap (map work_of) s.put) same.0 same.1

pub settled_lanes : (c : ℕ) (ports : List (List (LaneEnd Request Outcome))) (clients : List (ClientEnd Request Outcome)) (ends : List (SettledEnd Request Outcome))
    → AllSettle (λ (q : Request). q) request_result c ports clients ends → ends_lanes ends ≡ map (λ client. queue_of client) clients
settled_lanes c ports [] [] s = refl
settled_lanes c ports [] (end ∷ ends) s = absurd s
settled_lanes c ports (client ∷ clients) [] s = absurd s
settled_lanes c ports (client ∷ clients) (end ∷ ends) s = λ i. settled_lane client _ end s.0 i ∷ settled_lanes (suc c) ports clients ends s.1 i

pub settled_ready : (c : ℕ) (ports : List (List (LaneEnd Request Outcome))) (clients : List (ClientEnd Request Outcome)) (ends : List (SettledEnd Request Outcome))
    → AllSettle (λ (q : Request). q) request_result c ports clients ends → All IsReady ends
settled_ready c ports [] [] s = All-nil IsReady
settled_ready c ports [] (end ∷ ends) s = absurd s
settled_ready c ports (client ∷ clients) [] s = absurd s
settled_ready c ports (client ∷ clients) (end ∷ ends) s =
    All-cons IsReady end ends (record { all = s.0.all_left; right = λ k d lt. inl (s.0.unanswered k d lt) }) (settled_ready (suc c) ports clients ends s.1)

pub settled_count : (c : ℕ) (ports : List (List (LaneEnd Request Outcome))) (clients : List (ClientEnd Request Outcome)) (ends : List (SettledEnd Request Outcome))
    → AllSettle (λ (q : Request). q) request_result c ports clients ends → length ends ≡ length clients
settled_count c ports [] [] s = refl
settled_count c ports [] (end ∷ ends) s = absurd s
settled_count c ports (client ∷ clients) [] s = absurd s
settled_count c ports (client ∷ clients) (end ∷ ends) s = ap suc (settled_count (suc c) ports clients ends s.1)

-- an end whose lane owes nothing is whole
pub owes_none : (end : SettledEnd Request Outcome) → (queue_in end).owed ≡ [] → IsWhole end
owes_none end e =
    let few = drop_none (lane_in end).handed (lane_in end).put (replies-none (lane_in end).handed (drop (lane_in end).handed (lane_in end).put) e) in
    omega (arith, few, end.count, length-map (put_in end) work_of)

pub whole_owes : (end : SettledEnd Request Outcome) → IsWhole end → (queue_in end).owed ≡ []
whole_owes end w = ap (replies (lane_in end).handed) (drop_all (lane_in end).handed (lane_in end).put (omega (arith, w, end.count, length-map (put_in end) work_of)))

-- the lanes without a name have no request
pub booked_rest : (names : List (List ℕ)) (lanes : List Queue) (readings : List (Reading Line)) → AreBooked names (unhanded lanes) readings
    → (place : ℕ) (lane : Queue) → length names ≤ place → slice_get lanes place ≡ Some lane → lane.put ≡ []
booked_rest [] [] readings b place lane le at = absurd (none_is_not lane at)
booked_rest [] (x ∷ lanes) readings b zero lane le at = ap (λ (l : Queue). l.put) (sym (some_is x lane at)) ∙ b.0
booked_rest [] (x ∷ lanes) readings b (suc place) lane le at = booked_rest [] lanes readings b.2 place lane (omega arith) at
booked_rest (n ∷ names) [] readings b place lane le at = absurd b
booked_rest (n ∷ names) (x ∷ lanes) readings b zero lane le at = absurd (omega (arith, le))
booked_rest (n ∷ names) (x ∷ lanes) readings b (suc place) lane le at = booked_rest names lanes readings b.2 place lane (omega (arith, le)) at

-- ## End after end

drop_past : {A : Type 0} (n : ℕ) (xs : List A) (x : A) → drop (suc n) (slice_set xs n x) ≡ drop (suc n) xs
drop_past n [] x = refl
drop_past zero (y ∷ xs) x = refl
drop_past (suc n) (y ∷ xs) x = drop_past n xs x

-- once one more is changed, those after it are as they were
pub rest_after : {A : Type 0} (n : ℕ) (first xs : List A) (x : A) → drop n xs ≡ drop n first → drop (n + 1) (slice_set xs n x) ≡ drop (n + 1) first
rest_after n first xs x e =
    let one : n + 1 ≡ suc n = omega arith in
    ap (λ k. drop k (slice_set xs n x)) one ∙ drop_past n xs x ∙ ap (λ k. drop k xs) (sym one) ∙ drop_suc n xs ∙ ap (drop 1) e ∙ sym (drop_suc n first)

set_other : {A : Type 0} (xs : List A) (i k : ℕ) (x : A) → k ≢ i → slice_get (slice_set xs i x) k ≡ slice_get xs k
set_other [] i k x ne = refl
set_other (y ∷ xs) zero zero x ne = absurd (ne refl)
set_other (y ∷ xs) zero (suc k) x ne = refl
set_other (y ∷ xs) (suc i) zero x ne = refl
set_other (y ∷ xs) (suc i) (suc k) x ne = set_other xs i k x (λ e. ne (ap suc e))

lent : {A : Type 0} (xs : List A) (i : ℕ) (d : A) → i < length xs → slice_get xs i ≡ Some (get_or xs i d)
lent [] i d lt = absurd (omega (arith, lt))
lent (x ∷ xs) zero d lt = refl
lent (x ∷ xs) (suc i) d lt = lent xs i d (omega (arith, lt))

contains_at : {A : Type 0} (xs : List A) (i : ℕ) (x : A) → slice_get xs i ≡ Some x → Contains xs x
contains_at [] i x e = absurd (none_is_not x e)
contains_at (y ∷ xs) zero x e = (0, omega arith, some_is y x e)
contains_at (y ∷ xs) (suc i) x e = let r = contains_at xs i x e in let lt = r.1 in (suc r.0, omega (arith, lt), r.2)

-- what holds of all at first holds of the next, if that was not changed yet
pub holds_next : {A : Type 0} (P : A → Type 0) (n : ℕ) (first xs : List A) (x : A) → All P first → drop n xs ≡ drop n first → slice_get xs n ≡ Some x → P x
holds_next P n first xs x all same at =
    let there : n ≡ n + 0 = omega arith in
    All-contains P first x all (contains_at first n x (sym (get_drop n 0 n first there) ∙ ap (λ l. slice_get l 0) (sym same) ∙ get_drop n 0 n xs there ∙ at))

drop_nil : {A : Type 0} (n : ℕ) → ◌≡◌ {A = List A} (drop n []) []
drop_nil zero = refl
drop_nil (suc n) = refl

-- what one end hands out is handed out of all
pub end_handed : (names : List (List ℕ)) (ends : List (SettledEnd Request Outcome)) (place : ℕ) (name : List ℕ) (end new : SettledEnd Request Outcome) (more : List Report) → AreDistinct names
    → slice_get names place ≡ Some name → slice_get ends place ≡ Some end → AreOwn name (queue_in end) (queue_in new) more → AreHanded names (ends_lanes ends) (ends_lanes (slice_set ends place new)) more
end_handed names ends place name end new more distinct at here own =
    subst (λ ls. AreHanded names (ends_lanes ends) ls more) (sym (map-set (λ (e : SettledEnd Request Outcome). queue_in e) ends place new))
    (own_handed names (ends_lanes ends) place name (queue_in end) (queue_in new) more distinct at (map_at (λ (e : SettledEnd Request Outcome). queue_in e) ends place end here) own)

pub end_first : (names : List (List ℕ)) (ends : List (SettledEnd Request Outcome)) (place : ℕ) (name : List ℕ) (end : SettledEnd Request Outcome) (more : List Report) → AreDistinct names
    → slice_get names place ≡ Some name → slice_get ends place ≡ Some end → AreFirstOwn name (queue_in end) more → AreFirst names (ends_lanes ends) more
end_first names ends place name end more distinct at here own =
    own_first names (ends_lanes ends) place name (queue_in end) more distinct at (map_at (λ (e : SettledEnd Request Outcome). queue_in e) ends place end here) own

-- one end more owes nothing
pub whole_after : (ends : List (SettledEnd Request Outcome)) (place : ℕ) (end new : SettledEnd Request Outcome) → slice_get ends place ≡ Some end
    → ((k : ℕ) (lane : Queue) → k < place → slice_get (ends_lanes ends) k ≡ Some lane → lane.owed ≡ []) → IsWhole new
    → (k : ℕ) (lane : Queue) → k < place + 1 → slice_get (ends_lanes (slice_set ends place new)) k ≡ Some lane → lane.owed ≡ []
whole_after ends place end new here before whole k lane lt at =
    let found = map_get (λ (e : SettledEnd Request Outcome). queue_in e) (slice_set ends place new) k lane at in
    dite (ℕ_discrete k place)
    (λ (same : k ≡ place).
    let it : found.0 ≡ new = some_is found.0 new (sym found.1 ∙ ap (slice_get (slice_set ends place new)) same ∙ set_at ends place end new here) in
    subst (λ (l : Queue). l.owed ≡ []) (ap (λ (e : SettledEnd Request Outcome). queue_in e) (sym it) ∙ found.2) (whole_owes new whole))
    (λ ne. before k lane (omega (arith, lt, ne)) (map_at (λ (e : SettledEnd Request Outcome). queue_in e) ends k found.0 (sym (set_other ends place k new ne) ∙ found.1) ∙ ap Some found.2))

-- the ends of the lanes with names owe nothing, and the others never did
pub all_whole : (n : ℕ) (old new : List (SettledEnd Request Outcome)) (lanes : List Queue) → ends_lanes old ≡ lanes
    → ((k : ℕ) (lane : Queue) → k < n → slice_get (ends_lanes new) k ≡ Some lane → lane.owed ≡ []) → drop n new ≡ drop n old
    → ((k : ℕ) (lane : Queue) → n ≤ k → slice_get lanes k ≡ Some lane → lane.put ≡ []) → All IsWhole new
all_whole n old new lanes same named rest others k d lt =
    let end : SettledEnd Request Outcome = get_or new k d in
    let at : slice_get new k ≡ Some end = lent new k d lt in
    owes_none end (⊎_elim
    (λ (below : k < n). named k (queue_in end) below (map_at (λ (e : SettledEnd Request Outcome). queue_in e) new k end at))
    (λ (above : n ≤ k).
    let there : k ≡ n + (k - n) = omega (arith, above) in
    let was : slice_get old k ≡ Some end = sym (get_drop n (k - n) k old there) ∙ ap (λ l. slice_get l (k - n)) (sym rest) ∙ get_drop n (k - n) k new there ∙ at in
    let none : (queue_in end).put ≡ [] =
    others k (queue_in end) above (ap (λ l. slice_get l k) (sym same) ∙ map_at (λ (e : SettledEnd Request Outcome). queue_in e) old k end was) in
    ap (replies (lane_in end).handed) (ap (drop (lane_in end).handed) none ∙ drop_nil (lane_in end).handed))
    (order k n))
