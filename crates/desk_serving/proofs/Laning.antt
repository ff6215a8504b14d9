-- What a lane's calls make of it, and what stays of a list of lanes.
use Rattle.std.proofs.Common.{◌≡◌, ◌≢◌, ℕ, zero, suc, ◌+◌, ◌-◌, ◌<◌, ◌≤◌, Bool, true, false, if◌then◌else◌, ◌||◌, List, [], ◌∷◌, ◌++◌, Option, Some, None, Result, Ok, Err, OnOk, IfSome, IfNone, length, map, drop, take, slice_get, slice_index_or, refl, sym, ap, ◌∙◌, arith, append-nil, append_assoc, subst}
use Rattle.std.specs.Prelude.{◌==◌, not}
use Rattle.std.specs.Arc.{arc_value}
use Rattle.std.specs.List.{remove}
use Rattle.std.specs.declared.alloc.Global.{Global}
use Rattle.std.specs.declared.sync.Arc.{Arc}
use Rattle.std.proofs.lemmas.List.{length-map, map-append, take_all}
use Rattle.std.proofs.lemmas.List.Sorted.{IsPermutation-refl}
use Rattle.box_core.specs.Answer.{Ticketed}
use Rattle.box_core.specs.History.{Report, Kept}
use Rattle.box_core.specs.Mail.{Mail, Place, accepted_in, kept_of_place, with_capacity, with_close, with_request}
use Rattle.box_core.specs.declared.work.Reply.{Reply}
use Rattle.dmn_plan.specs.Request.{Request, request_result}
use Rattle.feel_value.specs.declared.feel.Outcome.{Outcome}
use Rattle.lanes.specs.Ends.{ClientEnd}
use Rattle.lanes.specs.Books.{work_of}
use Rattle.lanes.specs.Clients.{put_of, mail_of, came_to, reply_of}
use Rattle.lanes.specs.Polls.{Polls, TakenIn, left_by}
use Rattle.lanes.proofs.Mails.{changed_length, got}
use Rattle.desk_lines.specs.Lines.{ended}
use Rattle.desk_serving.specs.Owed.{HandsOwn, Lane, LosesFirst, Owed, Queue, ToLine, ToRequest, as_queue, closed_by, lane_of, owed_report, queue_of, replies, shut_by, with_put, with_told}
use Rattle.desk_serving.specs.Waits.{closes, some_closes, with_wait, with_waits}
use Rattle.desk_serving.specs.declared.client_lane.Waiting.{Waiting}
use Rattle.desk_serving.specs.declared.client_lane.Waiting.TheVariants as waiting
use Rattle.desk_wire.specs.Reports as reports
use Rattle.desk_wire.specs.Reports.{report_text}
use Rattle.desk_wire.specs.declared.report.Told.{Told}
use Rattle.desk_wire.specs.declared.report.Told.TheVariants as told
use Rattle.desk_serving.proofs.Owing.{own_lost, with_handed}
use Rattle.desk_requests.proofs.Names.{get_at, get_map, or_false, or_true}

-- ## A poll

module _ {W R O : Type 0} (request : W → R) (result_of : R → O) where
  -- as many requests were accepted and handed out, and the client is as closed
  record IsAsBefore (old new : Mail W O) : Type 0 where
    handed : new.handed ≡ old.handed
    closed : new.closed ≡ old.closed
    accepted : accepted_in new ≡ accepted_in old

  left_same : (report : Report W O) (done : Ticketed W) (mail : Mail W O) → IsAsBefore mail (left_by request result_of report done mail)
  left_same Kept done mail = record { handed = refl; closed = refl; accepted = ap (λ n. mail.handed + n) (changed_length _ mail.outstanding (done.ticket - mail.handed)) }
  left_same report done mail = record { handed = refl; closed = refl; accepted = refl }

  taken_same : (old new : Mail W O) (answers : List (Ticketed W)) → TakenIn request result_of old answers new → IsAsBefore old new
  taken_same old new [] t = record { handed = ap (λ m. m.handed) t; closed = ap (λ m. m.closed) t; accepted = ap (λ m. accepted_in m) t }
  taken_same old new (done ∷ answers) t =
      let first = left_same t.0 done old in let rest = taken_same (left_by request result_of t.0 done old) new answers t.2 in
      record { handed = rest.handed ∙ first.handed; closed = rest.closed ∙ first.closed; accepted = rest.accepted ∙ first.accepted }

  outstanding_there : (places : List (Place W O)) (outcome : O) → kept_of_place (slice_get places 0) ≡ Some outcome → 0 < length places
  outstanding_there [] outcome e = cc
  outstanding_there (p ∷ places) outcome e = omega arith

  -- what a poll that hands out the next result leaves
  pub record HandsNext (old new : Mail W O) (next : ℕ) : Type 0 where
    pub ticket : next ≡ old.handed
    pub there : old.handed < accepted_in old
    pub handed : new.handed ≡ old.handed + 1
    pub closed : new.closed ≡ old.closed

  pub polled_some : (came came' : List (Ticketed W)) (old new : Mail W O) (reply : ℕ × O) → Polls request result_of came came' old new (Some reply) → HandsNext old new reply.0
  polled_some came came' old new reply p =
      let same = taken_same old p.mid p.answers p.taken_in in
      let out = outstanding_there p.mid.outstanding reply.1 p.released.1 in
      record {
        ticket = p.released.0 ∙ same.handed;
        there = (let a = same.accepted in let h = same.handed in omega (arith, a, h, out));
        handed = ap (λ m. m.handed) p.released.2 ∙ ap (λ n. n + 1) same.handed;
        closed = ap (λ m. m.closed) p.released.2 ∙ same.closed;
      }

  none_next : (places : List (Place W O)) → 0 ≡ length places → kept_of_place (slice_get places 0) ≡ None
  none_next [] e = refl
  none_next (p ∷ places) e = absurd (omega (arith, e))

  -- where nothing is outstanding, nothing would have come of a poll
  pub unpolled : (came : List (Ticketed W)) (mail : Mail W O) → accepted_in mail ≡ mail.handed → Polls request result_of came came mail mail None
  unpolled came mail whole = record {
    answers = [];
    came = IsPermutation-refl came;
    mid = mail;
    taken_in = refl;
    released = (none_next mail.outstanding (let e : mail.handed + length mail.outstanding ≡ mail.handed = whole in omega (arith, e)), refl);
  }

  pub polled_none : (came came' : List (Ticketed W)) (old new : Mail W O) → Polls request result_of came came' old new None → (new.handed ≡ old.handed) × (new.closed ≡ old.closed)
  polled_none came came' old new p =
      let same = taken_same old p.mid p.answers p.taken_in in
      (ap (λ m. m.handed) p.released.1 ∙ same.handed, ap (λ m. m.closed) p.released.1 ∙ same.closed)

pub lane_is : (x y : Lane) → x.put ≡ y.put → x.handed ≡ y.handed → x.closed ≡ y.closed → x ≡ y
lane_is x y p h c = λ i. record { put = p i; handed = h i; closed = c i }

module _ {R : Type 0} (request : Request → R) (result_of : R → Outcome) where
  pub poll_handed : (old new : ClientEnd Request Outcome) (r : Option (Reply Request Outcome)) → put_of new ≡ put_of old
      → Polls request result_of (came_to old) (came_to new) (mail_of old) (mail_of new) (reply_of r)
      → IfSome r (λ reply. (reply.ticket ≡ (lane_of old).handed) × (lane_of new ≡ with_handed (lane_of old)))
  poll_handed old new None put p = tt
  poll_handed old new (Some reply) put p =
      let h = polled_some request result_of (came_to old) (came_to new) (mail_of old) (mail_of new) (reply.ticket, reply.outcome) p in
      (h.ticket, lane_is (lane_of new) (with_handed (lane_of old)) (ap (map work_of) put) h.handed h.closed)

  pub poll_right : (old new : ClientEnd Request Outcome) (r : Option (Reply Request Outcome))
      → Polls request result_of (came_to old) (came_to new) (mail_of old) (mail_of new) (reply_of r)
      → IfSome r (λ reply. (x : Ticketed Request) → slice_get (put_of old) reply.ticket ≡ Some x → reply.outcome ≡ result_of (request x.work))
      → IfSome r (λ reply. (q : Request) × (slice_get (lane_of old).put (lane_of old).handed ≡ Some q) × (reply.outcome ≡ result_of (request q)))
  poll_right old new None p right = tt
  poll_right old new (Some reply) p right =
      let h = polled_some request result_of (came_to old) (came_to new) (mail_of old) (mail_of new) (reply.ticket, reply.outcome) p in
      let x = got (put_of old) (mail_of old).handed (let n = old.count in let t = h.there in omega (arith, n, t)) in
      (x.0.work, get_map work_of (put_of old) (mail_of old).handed x.0 x.1, right x.0 (ap (λ k. slice_get (put_of old) k) h.ticket ∙ x.1))

  pub poll_nothing : (old new : ClientEnd Request Outcome) (r : Option (Reply Request Outcome)) → put_of new ≡ put_of old
      → Polls request result_of (came_to old) (came_to new) (mail_of old) (mail_of new) (reply_of r) → IfNone r (lane_of new ≡ lane_of old)
  poll_nothing old new None put p =
      let h = polled_none request result_of (came_to old) (came_to new) (mail_of old) (mail_of new) p in
      lane_is (lane_of new) (lane_of old) (ap (map work_of) put) h.0 h.1
  poll_nothing old new (Some reply) put p = tt

-- ## A lane that hands out

pub own_none : (name : List ℕ) (old new : Queue) (text : List ℕ) → new ≡ old → HandsOwn name old new text text
own_none name old new text e = record {
  more = [];
  is = sym (append-nil text);
  handed = record { put = ap (λ l. l.put) e; closed = ap (λ l. l.closed) e; own = ap (λ l. map (λ owed. owed_report name owed) l.owed) e; others = λ who h. refl };
}

pub own_one : (name : List ℕ) (first : Owed) (old new : Queue) (text text' : List ℕ) → LosesFirst first old new → text' ≡ text ++ ended (report_text (owed_report name first)) → HandsOwn name old new text text'
own_one name first old new text text' h is = record {
  more = owed_report name first ∷ [];
  is = is ∙ ap (λ v. text ++ v) (sym (append-nil (ended (report_text (owed_report name first)))));
  handed = own_lost name first old new h;
}

pub own_reply : (name : List ℕ) (old new : Queue) (q : Request) (at ticket : ℕ) (outcome : Outcome) (text text' : List ℕ) → LosesFirst (ToRequest at q) old new → ticket ≡ at → outcome ≡ request_result q
    → text' ≡ text ++ ended (report_text (reports.Reply name ticket outcome)) → HandsOwn name old new text text'
own_reply name old new q at ticket outcome text text' lost next right is =
    own_one name (ToRequest at q) old new text text' lost (is ∙ ap (λ r. text ++ ended (report_text r)) (λ i. reports.Reply name (next i) (right i)))

-- ## Whole lanes

pub length_of_dropped : {X : Type 0} (n : ℕ) (xs : List X) → drop n xs ≡ [] → length xs ≤ n
length_of_dropped zero [] e = omega arith
length_of_dropped zero (x ∷ xs) e = cc
length_of_dropped (suc n) [] e = omega arith
length_of_dropped (suc n) (x ∷ xs) e = let h = length_of_dropped n xs e in omega (arith, h)

all_dropped : {X : Type 0} (n : ℕ) (xs : List X) → length xs ≤ n → drop n xs ≡ []
all_dropped zero [] h = refl
all_dropped zero (x ∷ xs) h = let wrong : ⊥ = omega (arith, h) in absurd wrong
all_dropped (suc n) [] h = refl
all_dropped (suc n) (x ∷ xs) h = let less : length xs ≤ n = omega (arith, h) in all_dropped n xs less

pub put_length : (client : ClientEnd Request Outcome) → length (lane_of client).put ≡ accepted_in (mail_of client)
put_length client = length-map (put_of client) work_of ∙ client.count

pub handed_within : (client : ClientEnd Request Outcome) → (lane_of client).handed ≤ length (lane_of client).put
handed_within client = let n = put_length client in omega (arith, n)

pub dropped_whole : (client : ClientEnd Request Outcome) → drop (lane_of client).handed (lane_of client).put ≡ [] → accepted_in (mail_of client) ≡ (mail_of client).handed
dropped_whole client e =
    let n = put_length client in let h = length_of_dropped (lane_of client).handed (lane_of client).put e in omega (arith, n, h)

pub whole_dropped : (client : ClientEnd Request Outcome) → accepted_in (mail_of client) ≡ (mail_of client).handed → drop (lane_of client).handed (lane_of client).put ≡ []
whole_dropped client e =
    let n = put_length client in let h : length (lane_of client).put ≤ (lane_of client).handed = omega (arith, n, e) in
    all_dropped (lane_of client).handed (lane_of client).put h

-- nothing is owed where each request was handed its result
pub whole_owed : (client : ClientEnd Request Outcome) → accepted_in (mail_of client) ≡ (mail_of client).handed → (queue_of client).owed ≡ []
whole_owed client e = ap (replies (lane_of client).handed) (whole_dropped client e)

-- where nothing was put, each request was handed its result
pub unput_whole : (client : ClientEnd Request Outcome) → (queue_of client).put ≡ [] → accepted_in (mail_of client) ≡ (mail_of client).handed
unput_whole client e = let n = put_length client in let none : length (lane_of client).put ≡ 0 = ap length e in omega (arith, n, none)

-- ## What a client's calls make of its lane

-- it was given a capacity
pub sized_lane : (old new : ClientEnd Request Outcome) (n : ℕ) → put_of new ≡ put_of old → mail_of new ≡ with_capacity n (mail_of old) → queue_of new ≡ queue_of old
sized_lane old new n put mail = ap as_queue (lane_is (lane_of new) (lane_of old) (ap (map work_of) put) (ap (λ m. m.handed) mail) (ap (λ m. m.closed) mail))

-- it was left as it is
pub kept_lane : (old new : ClientEnd Request Outcome) → put_of new ≡ put_of old → mail_of new ≡ mail_of old → queue_of new ≡ queue_of old
kept_lane old new put mail = ap as_queue (lane_is (lane_of new) (lane_of old) (ap (map work_of) put) (ap (λ m. m.handed) mail) (ap (λ m. m.closed) mail))

queue_is : (x y : Queue) → x.put ≡ y.put → x.closed ≡ y.closed → x.owed ≡ y.owed → x ≡ y
queue_is x y p c o = λ i. record { put = p i; closed = c i; owed = o i }

-- nothing was put, and the mailbox was closed
pub closed_lane : (old new : ClientEnd Request Outcome) → put_of new ≡ put_of old → mail_of new ≡ with_close (mail_of old) → queue_of new ≡ shut_by told.Closed (queue_of old)
closed_lane old new put mail = λ i. record {
  put = map work_of (put i);
  closed = (mail i).closed;
  owed = replies (mail i).handed (drop (mail i).handed (map work_of (put i)));
}

-- what is told closes nothing but by a close
pub shut_other : (what : Told) (lane : Queue) → what ≢ told.Closed → shut_by what lane ≡ lane
shut_other told.Closed lane n = absurd (n refl)
shut_other what lane n = refl

replies-push : (t k : ℕ) (qs : List Request) (q : Request) → k ≡ t + length qs → replies t (qs ++ q ∷ []) ≡ replies t qs ++ ToRequest k q ∷ []
replies-push t k [] q h = let e : t ≡ k = omega (arith, h) in ap (λ (u : ℕ). ToRequest u q ∷ []) e
replies-push t k (x ∷ qs) q h = ap (λ (rs : List Owed). ToRequest t x ∷ rs) (replies-push (t + 1) k qs q (omega (arith, h)))

replies-push_drop : (t k i : ℕ) (qs : List Request) (q : Request) → i ≤ length qs → k + i ≡ t + length qs → replies t (drop i (qs ++ q ∷ [])) ≡ replies t (drop i qs) ++ ToRequest k q ∷ []
replies-push_drop t k zero qs q le h = replies-push t k qs q (omega (arith, h))
replies-push_drop t k (suc i) [] q le h = absurd (omega (arith, le))
replies-push_drop t k (suc i) (x ∷ qs) q le h = replies-push_drop t k i qs q (omega (arith, le)) (omega (arith, h))

-- a request was put
pub put_lane : (old new : ClientEnd Request Outcome) (ticket : ℕ) (q : Request) → put_of new ≡ put_of old ++ (record { ticket = ticket; work = q }) ∷ [] → mail_of new ≡ with_request q true (mail_of old)
    → queue_of new ≡ with_put (queue_of old) q
put_lane old new ticket q put mail =
    let lane = lane_of old in
    let puts : (lane_of new).put ≡ lane.put ++ q ∷ [] = ap (map work_of) put ∙ map-append work_of (put_of old) ((record { ticket = ticket; work = q }) ∷ []) in
    let handed : (lane_of new).handed ≡ lane.handed = ap (λ m. m.handed) mail in
    queue_is (queue_of new) (with_put (queue_of old) q) puts (ap (λ m. m.closed) mail)
    ((λ i. replies (handed i) (drop (handed i) (puts i))) ∙ replies-push_drop lane.handed (length lane.put) lane.handed lane.put q (handed_within old) (omega arith))

-- ## Lists

-- nothing is in a list of no length
pub none_in : {X : Type 0} (xs : List X) → length xs ≡ 0 → xs ≡ []
none_in [] e = refl
none_in (x ∷ xs) e = absurd (omega (arith, e))

pub empty_by : (b : Bool) (n : ℕ) → b ≡ (n == 0) → b ≡ true → n ≡ 0
empty_by b n e t = grind arith

pub some_by : (b : Bool) (n : ℕ) → b ≡ (n == 0) → b ≡ false → 0 < n
some_by b n e f = grind arith

pub is_full : (b : Bool) → not b ≡ true → b ≡ false
is_full true e = cc
is_full false e = refl

pub is_so : (b : Bool) → not b ≡ false → b ≡ true
is_so true e = refl
is_so false e = cc

-- what is moved, one after another, from the head of a list to the end of another
pub moved_step : {A B : Type 0} (f : B → A) (xs xs' : List A) (x : A) (ys ys' : List B) (y : B) (all : List A) → xs' ≡ xs ++ x ∷ [] → ys ≡ y ∷ ys' → x ≡ f y → xs ++ map f ys ≡ all → xs' ++ map f ys' ≡ all
moved_step f xs xs' x ys ys' y all grown shrunk same before =
    ap (λ zs. zs ++ map f ys') grown ∙ append_assoc xs (x ∷ []) (map f ys') ∙ ap (λ z. xs ++ z ∷ map f ys') same ∙ ap (λ zs. xs ++ map f zs) (sym shrunk) ∙ before

-- ## What waits in a lane

-- what is told of a line is the first that is owed where nothing else is
pub lost_told : (line : ℕ) (what : Told) (old new : Queue) → old.owed ≡ [] → new ≡ shut_by what old → LosesFirst (ToLine line what) (with_told line what old) new
lost_told line what old new none e = record {
  put = ap (λ l. l.put) e;
  closed = ap (λ l. l.closed) e;
  owed = ap (λ os. os ++ ToLine line what ∷ []) none ∙ ap (λ os. ToLine line what ∷ os) (sym none ∙ ap (λ l. l.owed) (sym e));
}

grown_some : {X : Type 0} (xs : List X) (x : X) → xs ++ x ∷ [] ≡ [] → ⊥
grown_some [] x e = cc
grown_some (y ∷ xs) x e = cc

closed_either : (a b c : Bool) → (a || (b || c)) ≡ (b || (a || c))
closed_either true true c = refl
closed_either true false c = refl
closed_either false true c = refl
closed_either false false c = refl

either_assoc : (a b c : Bool) → (a || (b || c)) ≡ ((a || b) || c)
either_assoc true b c = refl
either_assoc false b c = refl

pub on_ok_so : {T E A : Type 0} (r : Result T E) → A → OnOk r A
on_ok_so (Ok x) a = a
on_ok_so (Err e) a = tt

module _ {C : Type 0} where
  -- one more waits
  pub waits_more : (lane : Queue) (waits : List (Waiting C)) (wait : Waiting C) → with_waits lane (waits ++ wait ∷ []) ≡ with_wait (with_waits lane waits) wait
  waits_more lane [] wait = refl
  waits_more lane (x ∷ waits) wait = waits_more (with_wait lane x) waits wait

  -- a request was put where nothing waits
  pub waits_put : (old new : Queue) (waits : List (Waiting C)) (q : Request) → waits ≡ [] → new ≡ with_put old q → with_waits new waits ≡ with_put (with_waits old waits) q
  waits_put old new waits q none e = ap (with_waits new) none ∙ e ∙ ap (λ ws. with_put (with_waits old ws) q) (sym none)

  -- what waits first is behind the lane, and the others are behind that
  pub waits_first : (waits : List (Waiting C)) (wait : Waiting C) → slice_get waits 0 ≡ Some wait → (lane : Queue) → with_waits lane waits ≡ with_waits (with_wait lane wait) (remove waits 0)
  waits_first [] wait e lane = cc
  waits_first (x ∷ waits) wait e lane = let is : x ≡ wait = cc in ap (λ w. with_waits (with_wait lane w) waits) is

  -- the first that is owed is the same whatever waits
  lost_wait : (first : Owed) (old new : Queue) (wait : Waiting C) → LosesFirst first old new → LosesFirst first (with_wait old wait) (with_wait new wait)
  lost_wait first old new (waiting.Request work bytes) h = record {
    put = ap (λ qs. qs ++ arc_value work ∷ []) h.put;
    closed = h.closed;
    owed = ap (λ os. os ++ ToRequest (length old.put) (arc_value work) ∷ []) h.owed ∙ ap (λ qs. first ∷ new.owed ++ ToRequest (length qs) (arc_value work) ∷ []) (sym h.put);
  }
  lost_wait first old new (waiting.Told line what bytes) h = record {
    put = h.put;
    closed = ap (closed_by what) h.closed;
    owed = ap (λ os. os ++ ToLine line what ∷ []) h.owed;
  }

  pub lost_waits : (first : Owed) (old new : Queue) (waits : List (Waiting C)) → LosesFirst first old new → LosesFirst first (with_waits old waits) (with_waits new waits)
  lost_waits first old new [] h = h
  lost_waits first old new (wait ∷ waits) h = lost_waits first (with_wait old wait) (with_wait new wait) waits (lost_wait first old new wait h)

  -- which requests were put follows from those in the mailbox, and from what waits
  waits_put_same : (old new : Queue) (waits : List (Waiting C)) → new.put ≡ old.put → (with_waits new waits).put ≡ (with_waits old waits).put
  waits_put_same old new [] e = e
  waits_put_same old new (waiting.Request work bytes ∷ waits) e = waits_put_same (with_put old (arc_value work)) (with_put new (arc_value work)) waits (ap (λ qs. qs ++ arc_value work ∷ []) e)
  waits_put_same old new (waiting.Told line what bytes ∷ waits) e = waits_put_same (with_told line what old) (with_told line what new) waits e

  -- where nothing was put, nothing is in the mailbox either
  pub waits_unput : (lane : Queue) (waits : List (Waiting C)) → (with_waits lane waits).put ≡ [] → lane.put ≡ []
  waits_unput lane [] e = e
  waits_unput lane (waiting.Request work bytes ∷ waits) e = absurd (grown_some lane.put (arc_value work) (waits_unput (with_put lane (arc_value work)) waits e))
  waits_unput lane (waiting.Told line what bytes ∷ waits) e = waits_unput (with_told line what lane) waits e

  -- ### Something waits only behind a request

  abbrev pub IsBehind : Queue → List (Waiting C) → Type 0
  IsBehind lane waits = (with_waits lane waits).put ≡ [] → length waits ≡ 0

  pub behind_none : (lane : Queue) (waits : List (Waiting C)) → waits ≡ [] → IsBehind lane waits
  behind_none lane waits none = λ e. ap length none

  -- no request came or went
  pub behind_kept : (old new : Queue) (waits : List (Waiting C)) → new.put ≡ old.put → IsBehind old waits → IsBehind new waits
  behind_kept old new waits same behind = λ e. behind (sym (waits_put_same old new waits same) ∙ e)

  -- one more request is in the mailbox
  pub behind_put : (old new : Queue) (waits : List (Waiting C)) (q : Request) → new ≡ with_put old q → IsBehind new waits
  behind_put old new waits q e = λ none. absurd (grown_some old.put q (sym (ap (λ l. l.put) e) ∙ waits_unput new waits none))

  -- the first went on
  pub behind_gone : (old new next : Queue) (waits : List (Waiting C)) → 0 < length waits → with_waits old waits ≡ with_waits next (remove waits 0) → new.put ≡ next.put → IsBehind old waits → IsBehind new (remove waits 0)
  behind_gone old new next waits some first same behind = λ e.
      let none : length waits ≡ 0 = behind (ap (λ l. l.put) first ∙ sym (waits_put_same next new (remove waits 0) same) ∙ e) in absurd (omega (arith, some, none))

  -- a request waits behind the others
  pub behind_request : (lane : Queue) (waits : List (Waiting C)) (work : Arc Request Global) (bytes : ℕ) → IsBehind lane (waits ++ waiting.Request work bytes ∷ [])
  behind_request lane waits work bytes = λ e.
      absurd (grown_some (with_waits lane waits).put (arc_value work) (sym (ap (λ l. l.put) (waits_more lane waits (waiting.Request work bytes))) ∙ e))

  -- what is told of a line waits, since a request was put
  pub behind_told : (lane : Queue) (waits : List (Waiting C)) (line : ℕ) (what : Told) (bytes : ℕ) → ((with_waits lane waits).put ≡ [] → ⊥) → IsBehind lane (waits ++ waiting.Told line what bytes ∷ [])
  behind_told lane waits line what bytes some = λ e. absurd (some (sym (ap (λ l. l.put) (waits_more lane waits (waiting.Told line what bytes))) ∙ e))

  pub behind_either : (lane : Queue) (waits waits' more : List (Waiting C)) (b : Bool) → waits' ≡ (if b then more else waits) → IsBehind lane waits → IsBehind lane more → IsBehind lane waits'
  behind_either lane waits waits' more true is old new = subst (λ ws. IsBehind lane ws) (sym is) new
  behind_either lane waits waits' more false is old new = subst (λ ws. IsBehind lane ws) (sym is) old

  -- where nothing was put, nothing is owed
  pub behind_owes : (client : ClientEnd Request Outcome) (waits : List (Waiting C)) → IsBehind (queue_of client) waits → (with_waits (queue_of client) waits).put ≡ [] → (with_waits (queue_of client) waits).owed ≡ []
  behind_owes client waits behind none =
      let is : waits ≡ [] = none_in waits (behind none) in
      ap (λ ws. (with_waits (queue_of client) ws).owed) is ∙ whole_owed client (unput_whole client (waits_unput (queue_of client) waits none))

  -- ### Closed lanes

  closed_wait : (lane : Queue) (wait : Waiting C) → (with_wait lane wait).closed ≡ (closes wait || lane.closed)
  closed_wait lane (waiting.Request work bytes) = refl
  closed_wait lane (waiting.Told line told.Closed bytes) = refl
  closed_wait lane (waiting.Told line what bytes) = refl

  -- a lane is closed where its mailbox is, or something that waits closes it
  pub closed_waits : (lane : Queue) (waits : List (Waiting C)) → (with_waits lane waits).closed ≡ (some_closes waits || lane.closed)
  closed_waits lane [] = refl
  closed_waits lane (wait ∷ waits) =
      closed_waits (with_wait lane wait) waits ∙ ap (λ b. some_closes waits || b) (closed_wait lane wait) ∙ closed_either (some_closes waits) (closes wait) lane.closed
      ∙ either_assoc (closes wait) (some_closes waits) lane.closed

  closes_suc : (waits : List (Waiting C)) (k : ℕ) (wait : Waiting C) → slice_get waits k ≡ Some wait → closes wait ≡ false → some_closes (take k waits) ≡ false → some_closes (take (suc k) waits) ≡ false
  closes_suc [] k wait e no_close none = refl
  closes_suc (x ∷ waits) zero wait e no_close none = let is : x ≡ wait = cc in rw (is, no_close) refl
  closes_suc (x ∷ waits) (suc k) wait e no_close none =
      let both = or_false (closes x) (some_closes (take k waits)) none in rw (both.0, closes_suc waits k wait e no_close both.1) refl

  -- none of the first so many closes, nor does the next
  pub closes_next : (waits : List (Waiting C)) (k : ℕ) (wait : Waiting C) → k < length waits → wait ≡ slice_index_or waits k wait → closes wait ≡ false → some_closes (take k waits) ≡ false → some_closes (take (k + 1) waits) ≡ false
  closes_next waits k wait lt is no_close none =
      let next : suc k ≡ k + 1 = omega arith in subst (λ (n : ℕ). some_closes (take n waits) ≡ false) next (closes_suc waits k wait (get_at waits k wait lt is) no_close none)

  pub closes_all : (waits : List (Waiting C)) (n : ℕ) → length waits ≤ n → some_closes (take n waits) ≡ false → some_closes waits ≡ false
  closes_all waits n le none = subst (λ ws. some_closes ws ≡ false) (take_all n waits le) none

  pub closes_at : (waits : List (Waiting C)) (k : ℕ) (wait : Waiting C) → slice_get waits k ≡ Some wait → closes wait ≡ true → some_closes waits ≡ true
  closes_at [] k wait e shut = cc
  closes_at (x ∷ waits) zero wait e shut = let is : x ≡ wait = cc in rw (is, shut) refl
  closes_at (x ∷ waits) (suc k) wait e shut = rw (closes_at waits k wait e shut) (or_true (closes x))
