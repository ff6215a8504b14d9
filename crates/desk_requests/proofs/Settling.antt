-- What is decided, and then done to a client, is the answer that is due, and is of its line's kind.
use Rattle.std.proofs.Common.{◌≡◌, inl, inr, ◌<◌, ◌^◌, ℕ, Bool, true, false, List, ◌∷◌, Option, Some, None, Result, Ok, Err, if◌then◌else◌, length, map, option_map, slice_get, slice_set, refl, sym, ap, ◌∙◌, subst}
use Rattle.std.specs.Arc.{arc_value}
use Rattle.std.specs.Prelude.{bytes_eq}
use Rattle.std.specs.declared.alloc.Global.{Global}
use Rattle.std.specs.declared.sync.Arc.{Arc}
use Rattle.serde_json.specs.Data.{Data}
use Rattle.box_core.specs.Mail.{is_no_capacity}
use Rattle.feel_value.specs.Distinct.{is_among}
use Rattle.dmn_plan.specs.ReadModel.{read_model}
use Rattle.dmn_plan.specs.Request as plan
use Rattle.dmn_plan.specs.declared.fault.ModelFault.{ModelFault}
use Rattle.dmn_plan.specs.declared.fault.TaskFault.{TaskFault}
use Rattle.desk_wire.specs.Reading.{Reading, Says}
use Rattle.desk_wire.specs.ReportView.{report_view}
use Rattle.desk_wire.specs.Reports.{Report, Faulty, Of, Reply}
use Rattle.desk_wire.specs.Words.{fault_word, task_fault_word}
use Rattle.desk_wire.specs.declared.report.Told.TheVariants as told
use Rattle.desk_wire.specs.declared.word.Word.{Word}
use Rattle.desk_wire.specs.declared.word.Word.TheVariants as word
use Rattle.desk_requests.specs.Decider.{Decides, DecidesRequest, IsCloseDue, IsModelDue, IsOpenCloseDue, IsOpenResizeDue, IsRefused, IsRequestDue, IsResizeDue, IsTaskDue, IsTold}
use Rattle.desk_requests.specs.Due.{capacity_answer, close_answer, line_answer, model_answer, resize_answer, task_answer}
use Rattle.desk_requests.specs.Line.{Line, Model, Request, Close, Resize}
use Rattle.desk_requests.specs.Register.{Answers, Asks, AsksBy, AsksFor, Client, IsSeat, Keeps, Settles, answer_view, client_after, client_view, clients_of, force_of, is_on_client, is_on_model, names_of, with_accepted, with_client, with_closed}
use Rattle.desk_requests.specs.State.{is_closed, newer_model, number_after, requests}
use Rattle.desk_requests.specs.declared.decider.Due.{Due}
use Rattle.desk_requests.specs.declared.decider.Seat.{Seat}
use Rattle.desk_requests.specs.declared.register.Answer.{Answer}
use Rattle.desk_requests.specs.declared.register.Answer.TheVariants.{Told, Asked}
use Rattle.desk_requests.specs.declared.register.Register.{Register}
use Rattle.desk_requests.proofs.Answering.{ask_accepted, ask_fault, ask_no_lane, ask_no_model, changed, client_there, elsewhere, has_none, has_one, named}
use Rattle.desk_requests.proofs.Booking.{as_before, same_client}
use Rattle.desk_requests.proofs.Names.{name_itself, set_back}

-- what is made of a request is its task
abbrev pub IsTask : plan.Request → plan.Request → Type 0
IsTask task q = task ≡ q

-- ## What was done

module _ (k : ℕ) (what : Due (Arc (List ℕ) Global) plan.Request) (old new : Register) (answer : Answer) (done : Settles k what old answer new) where
  pub told_view : (report : Report) → IsTold report what → (answer_view answer ≡ report) × (new ≡ old)
  told_view report t = let s = subst (λ w. Settles k w old answer new) t.1 done in (ap answer_view s.0 ∙ t.2, s.1)

  pub refused_view : (n : List ℕ) (seat : Seat) (why : Word) → IsRefused n seat why what → (answer_view answer ≡ Of n k (told.Refused why)) × (new ≡ old)
  refused_view n seat why t =
      let s = subst (λ w. Settles k w old answer new) t.1 done in (ap answer_view s.0 ∙ ap (λ m. Of m k (told.Refused why)) t.2, s.1)

  pub model_view : {M : Type 0} (json : Data) (r : Result M ModelFault) → IsModelDue arc_value k json r what
      → (answer_view answer ≡ model_answer k r) × (force_of new ≡ newer_model json r (force_of old)) × (clients_of new ≡ clients_of old) × (new.lanes ≡ old.lanes)
  model_view json (Ok m) is =
      let s = subst (λ w. Settles k w old answer new) is.1 done in
      (ap answer_view s.0, s.1 ∙ ap Some is.2, ap (λ cs. map client_view cs.items) s.2, s.3)
  model_view json (Err f) is =
      let v = told_view (Faulty k (fault_word f)) is in (v.0, ap force_of v.1, ap clients_of v.1, ap (λ r. r.lanes) v.1)

-- ## Requests

-- what stood before a request was made stands still
kept_on : (old mid new : Register) (k : ℕ) (line : Line) (answer : Answer) → Keeps old mid → force_of mid ≡ force_of old → Answers mid k line answer new → Answers old k line answer new
kept_on old mid new k line answer keeps force answers = λ lanes earlier st num.
    answers lanes earlier (record { count = keeps.1 ∙ st.count; model = force ∙ st.model; clients = keeps.0 ∙ st.clients }) num

answers_to : (old new new' : Register) (k : ℕ) (line : Line) (answer : Answer) → new' ≡ new → Answers old k line answer new → Answers old k line answer new'
answers_to old new new' k line answer same answers = subst (λ r. Answers old k line answer r) (sym same) answers

-- a task, where the client that stands there is closed or not
module _ (old mid new : Register) (k : ℕ) (n s text : List ℕ) (i : Data) (answer : Answer) (what : Due (Arc (List ℕ) Global) plan.Request) (seat : Seat) (q : plan.Request) (fits : k < 2 ^ 64)
    (force : force_of old ≡ Some text) (asks : Asks old n mid) (is : IsSeat mid n (Some seat)) (good : plan.request_of text s i ≡ Ok q) (done : Settles k what mid answer new) where
  task_settled : (b : Bool) → seat.is_closed ≡ b → IsTaskDue IsTask n s seat b q what → Answers old k (Request n s i) answer new
  task_settled true closed due =
      let v = refused_view k what mid new answer done n seat word.Closed due in
      answers_to old mid new k (Request n s i) answer v.1
      (ask_accepted old mid mid k n s text i answer seat.place q fits force asks.2 asks.0 asks.1 is.0 good refl refl
      (λ client at. v.0 ∙ sym (ap (λ b. task_answer k n b client.accepted (Ok q)) (sym (is.1 client at) ∙ closed)))
      (λ client at. sym (ap (λ b. if b then clients_of mid else slice_set (clients_of mid) seat.place (with_accepted client)) (sym (is.1 client at) ∙ closed))))
  task_settled false closed due =
      let d = subst (λ w. Settles k w mid answer new) due.3 done in
      ask_accepted old mid new k n s text i answer seat.place q fits force asks.2 asks.0 asks.1 is.0 good d.0 d.1
      (λ client at. d.2 client at ∙ ap (λ m. Reply m client.accepted (plan.request_result due.2)) due.4 ∙ ap (λ t. Reply n client.accepted (plan.request_result t)) due.6
      ∙ sym (ap (λ b. task_answer k n b client.accepted (Ok q)) (sym (is.1 client at) ∙ closed)))
      (λ client at. d.3 client at ∙ sym (ap (λ b. if b then clients_of mid else slice_set (clients_of mid) seat.place (with_accepted client)) (sym (is.1 client at) ∙ closed)))

request_settled : (old mid new : Register) (k : ℕ) (n s text : List ℕ) (i : Data) (answer : Answer) (what : Due (Arc (List ℕ) Global) plan.Request) (seat : Option Seat) (r : Result plan.Request TaskFault) → k < 2 ^ 64
    → force_of old ≡ Some text → Asks old n mid → IsSeat mid n seat → plan.request_of text s i ≡ r → Settles k what mid answer new → IsRequestDue IsTask k n s seat r what
    → Answers old k (Request n s i) answer new
request_settled old mid new k n s text i answer what None r fits force asks is good done due =
    let v = told_view k what mid new answer done (Of n k (told.Refused word.Clients)) due in
    answers_to old mid new k (Request n s i) answer v.1 (ask_no_lane old mid k n s text i answer force asks.2 asks.0 asks.1 is v.0)
request_settled old mid new k n s text i answer what (Some seat) (Err fault) fits force asks is good done due =
    let v = refused_view k what mid new answer done n seat (task_fault_word fault) due in
    answers_to old mid new k (Request n s i) answer v.1 (ask_fault old mid k n s text i answer seat.place fault force asks.2 asks.0 asks.1 is.0 good v.0)
request_settled old mid new k n s text i answer what (Some seat) (Ok q) fits force asks is good done due =
    task_settled old mid new k n s text i answer what seat q fits force asks is good done seat.is_closed refl due

request_decided : (old mid between new : Register) (k : ℕ) (n s : List ℕ) (i : Data) (answer : Answer) (what : Due (Arc (List ℕ) Global) plan.Request) → k < 2 ^ 64 → force_of mid ≡ force_of old
    → Settles k what between answer new → DecidesRequest Asks IsSeat IsTask (force_of old) mid k n s i what between → Answers mid k (Request n s i) answer new
request_decided old mid between new k n s i answer what fits force done (inl d) =
    let v = told_view k what between new answer done (Of n k (told.Refused word.Model)) d.2 in
    answers_to mid mid new k (Request n s i) answer (v.1 ∙ d.1) (ask_no_model mid k n s i answer (force ∙ d.0) v.0)
request_decided old mid between new k n s i answer what fits force done (inr d) =
    request_settled mid between new k n s d.0 i answer what d.2 (plan.request_of d.0 s i) fits (force ∙ d.1) d.3.0 d.3.1 refl done d.4

-- ## Closes

-- a close closes no other
other_close : (j n : List ℕ) (earlier : List (Reading Line)) → bytes_eq n j ≡ false → is_closed j (Says (Close n) ∷ earlier) ≡ is_closed j earlier
other_close j n earlier far = rw far refl

own_close : (n : List ℕ) (earlier : List (Reading Line)) → is_closed n (Says (Close n) ∷ earlier) ≡ true
own_close n earlier = rw (name_itself n) refl

close_no_lane : (old new : Register) (k : ℕ) (n : List ℕ) (answer : Answer) → clients_of new ≡ with_client old.lanes n (clients_of old)
    → new.plan ≡ old.plan → new.lanes ≡ old.lanes → is_among (names_of new) n ≡ false
    → answer_view answer ≡ Of n k (told.Refused word.Clients) → Answers old k (Close n) answer new
close_no_lane old new k n answer is plan same absent view = λ lanes earlier st num.
    let m = named old new lanes earlier (Says (Close n)) n st refl is plan same in
    let lane = has_none lanes new earlier (Says (Close n)) n m absent in
    let due : Of n (number_after earlier) (told.Refused word.Clients) ≡ line_answer lanes earlier (Close n) = rw lane refl in (
      view ∙ ap (λ j. Of n j (told.Refused word.Clients)) num ∙ due,
      record {
        count = m.counted;
        model = m.model;
        clients = elsewhere lanes new earlier (Says (Close n)) n m absent (λ j far. sym (as_before j earlier (Says (Close n) ∷ earlier) refl (other_close j n earlier far)));
      },
    )

close_lane : (old mid new : Register) (k : ℕ) (n : List ℕ) (answer : Answer) (place : ℕ) (closed : Bool) → clients_of mid ≡ with_client old.lanes n (clients_of old)
    → mid.plan ≡ old.plan → mid.lanes ≡ old.lanes → slice_get (names_of mid) place ≡ Some n → new.plan ≡ mid.plan → new.lanes ≡ mid.lanes
    → ((client : Client) → slice_get (clients_of mid) place ≡ Some client → closed ≡ client.closed)
    → ((client : Client) → slice_get (clients_of mid) place ≡ Some client → clients_of new ≡ slice_set (clients_of mid) place (with_closed client))
    → answer_view answer ≡ close_answer k n true closed → Answers old k (Close n) answer new
close_lane old mid new k n answer place closed is plan same at plan' same' was closes view = λ lanes earlier st num.
    let later = Says (Close n) ∷ earlier in
    let m = named old mid lanes earlier (Says (Close n)) n st refl is plan same in
    let lane = has_one lanes mid earlier (Says (Close n)) n place m at in
    let there = client_there lanes mid earlier (Says (Close n)) n place m at in
    let new_client : with_closed (client_after earlier n) ≡ client_after later n =
    same_client n (length (requests n earlier)) (length (requests n later)) true (is_closed n later) refl (sym (own_close n earlier)) in
    let due : close_answer (number_after earlier) n true (is_closed n earlier) ≡ line_answer lanes earlier (Close n) = rw lane refl in (
      view ∙ ap (λ j. close_answer j n true closed) num ∙ ap (close_answer (number_after earlier) n true) (was (client_after earlier n) there) ∙ due,
      record {
        count = same' ∙ m.counted;
        model = ap (λ p. option_map arc_value p) plan' ∙ m.model;
        clients = changed lanes mid earlier (Says (Close n)) n place (clients_of new) (with_closed (client_after earlier n)) m at (closes (client_after earlier n) there) new_client
            (λ j far. sym (as_before j earlier later refl (other_close j n earlier far)));
      },
    )

module _ (old mid new : Register) (k : ℕ) (n : List ℕ) (answer : Answer) (what : Due (Arc (List ℕ) Global) plan.Request) (seat : Seat) (asks : Asks old n mid) (is : IsSeat mid n (Some seat)) (done : Settles k what mid answer new) where
  close_settled : (b : Bool) → seat.is_closed ≡ b → IsOpenCloseDue n seat b what → Answers old k (Close n) answer new
  close_settled true closed due =
      let v = refused_view k what mid new answer done n seat word.Closed due in
      answers_to old mid new k (Close n) answer v.1
      (close_lane old mid mid k n answer seat.place true asks.2 asks.0 asks.1 is.0 refl refl
      (λ client at. sym closed ∙ is.1 client at)
      (λ client at. sym (set_back (clients_of mid) seat.place (with_closed client) (at ∙ ap (λ (c : Client). Some c) (same_client client.name client.accepted client.accepted client.closed true refl (sym (is.1 client at) ∙ closed))))) v.0)
  close_settled false closed due =
      let d = subst (λ w. Settles k w mid answer new) due.1 done in
      close_lane old mid new k n answer seat.place false asks.2 asks.0 asks.1 is.0 d.1 d.2
      (λ client at. sym closed ∙ is.1 client at) d.3 (ap answer_view d.0 ∙ ap (λ m. Of m k told.Closed) due.2)

close_decided : (old mid new : Register) (k : ℕ) (n : List ℕ) (answer : Answer) (what : Due (Arc (List ℕ) Global) plan.Request) (seat : Option Seat) → Asks old n mid → IsSeat mid n seat → Settles k what mid answer new
    → IsCloseDue k n seat what → Answers old k (Close n) answer new
close_decided old mid new k n answer what None asks is done due =
    let v = told_view k what mid new answer done (Of n k (told.Refused word.Clients)) due in
    answers_to old mid new k (Close n) answer v.1 (close_no_lane old mid k n answer asks.2 asks.0 asks.1 is v.0)
close_decided old mid new k n answer what (Some seat) asks is done due = close_settled old mid new k n answer what seat asks is done seat.is_closed refl due

-- ## Resizes

resize_no_lane : (old new : Register) (k : ℕ) (n : List ℕ) (capacity : ℕ) (answer : Answer) → clients_of new ≡ with_client old.lanes n (clients_of old)
    → new.plan ≡ old.plan → new.lanes ≡ old.lanes → is_among (names_of new) n ≡ false
    → answer_view answer ≡ Of n k (told.Refused word.Clients) → Answers old k (Resize n capacity) answer new
resize_no_lane old new k n capacity answer is plan same absent view = λ lanes earlier st num.
    let m = named old new lanes earlier (Says (Resize n capacity)) n st refl is plan same in
    let lane = has_none lanes new earlier (Says (Resize n capacity)) n m absent in
    let due : Of n (number_after earlier) (told.Refused word.Clients) ≡ line_answer lanes earlier (Resize n capacity) = rw lane refl in (
      view ∙ ap (λ j. Of n j (told.Refused word.Clients)) num ∙ due,
      record { count = m.counted; model = m.model; clients = m.clients },
    )

resize_lane : (old new : Register) (k : ℕ) (n : List ℕ) (capacity : ℕ) (answer : Answer) (place : ℕ) (closed : Bool) → clients_of new ≡ with_client old.lanes n (clients_of old)
    → new.plan ≡ old.plan → new.lanes ≡ old.lanes → slice_get (names_of new) place ≡ Some n
    → ((client : Client) → slice_get (clients_of new) place ≡ Some client → closed ≡ client.closed)
    → answer_view answer ≡ resize_answer k n capacity true closed → Answers old k (Resize n capacity) answer new
resize_lane old new k n capacity answer place closed is plan same at was view = λ lanes earlier st num.
    let m = named old new lanes earlier (Says (Resize n capacity)) n st refl is plan same in
    let lane = has_one lanes new earlier (Says (Resize n capacity)) n place m at in
    let there = client_there lanes new earlier (Says (Resize n capacity)) n place m at in
    let due : resize_answer (number_after earlier) n capacity true (is_closed n earlier) ≡ line_answer lanes earlier (Resize n capacity) = rw lane refl in (
      view ∙ ap (λ j. resize_answer j n capacity true closed) num ∙ ap (resize_answer (number_after earlier) n capacity true) (was (client_after earlier n) there) ∙ due,
      record { count = m.counted; model = m.model; clients = m.clients },
    )

module _ (old mid new : Register) (k : ℕ) (n : List ℕ) (answer : Answer) (what : Due (Arc (List ℕ) Global) plan.Request) (seat : Seat) (asks : Asks old n mid) (is : IsSeat mid n (Some seat)) (done : Settles k what mid answer new) where
  resize_settled : (capacity : ℕ) (b c : Bool) → seat.is_closed ≡ b → is_no_capacity capacity ≡ c → IsOpenResizeDue n seat capacity b c what → Answers old k (Resize n capacity) answer new
  resize_settled capacity true c closed none due =
      let v = refused_view k what mid new answer done n seat word.Closed due in
      answers_to old mid new k (Resize n capacity) answer v.1
      (resize_lane old mid k n capacity answer seat.place true asks.2 asks.0 asks.1 is.0 (λ client at. sym closed ∙ is.1 client at) v.0)
  resize_settled capacity false true closed none due =
      let v = refused_view k what mid new answer done n seat word.Capacity due in
      answers_to old mid new k (Resize n capacity) answer v.1
      (resize_lane old mid k n capacity answer seat.place false asks.2 asks.0 asks.1 is.0 (λ client at. sym closed ∙ is.1 client at) (v.0 ∙ sym (ap (capacity_answer k n capacity) none)))
  resize_settled capacity false false closed none due =
      let d = subst (λ w. Settles k w mid answer new) due.1 done in
      answers_to old mid new k (Resize n capacity) answer d.1
      (resize_lane old mid k n capacity answer seat.place false asks.2 asks.0 asks.1 is.0 (λ client at. sym closed ∙ is.1 client at)
      (ap answer_view d.0 ∙ ap (λ m. Of m k (told.Resized capacity)) due.2 ∙ sym (ap (capacity_answer k n capacity) none)))

resize_decided : (old mid new : Register) (k : ℕ) (n : List ℕ) (capacity : ℕ) (answer : Answer) (what : Due (Arc (List ℕ) Global) plan.Request) (seat : Option Seat) → Asks old n mid → IsSeat mid n seat
    → Settles k what mid answer new → IsResizeDue k n capacity seat what → Answers old k (Resize n capacity) answer new
resize_decided old mid new k n capacity answer what None asks is done due =
    let v = told_view k what mid new answer done (Of n k (told.Refused word.Clients)) due in
    answers_to old mid new k (Resize n capacity) answer v.1 (resize_no_lane old mid k n capacity answer asks.2 asks.0 asks.1 is v.0)
resize_decided old mid new k n capacity answer what (Some seat) asks is done due =
    resize_settled old mid new k n answer what seat asks is done capacity seat.is_closed (is_no_capacity capacity) refl refl due

-- ## The kind of each answer

-- the answer is a report to a client
abbrev IsToClient : Answer → Type 0
IsToClient (Told report) = is_on_client (report_view report) ≡ true
IsToClient (Asked asked) = ⊥

to_request : (model : Option (List ℕ)) (n s : List ℕ) (i : Data) (a : Answer) → IsToClient a → AsksBy model (Request n s i) a
to_request model n s i (Told report) h = h
to_request model n s i (Asked asked) h = absurd h

to_close : (model : Option (List ℕ)) (n : List ℕ) (a : Answer) → IsToClient a → AsksBy model (Close n) a
to_close model n (Told report) h = h
to_close model n (Asked asked) h = absurd h

to_resize : (model : Option (List ℕ)) (n : List ℕ) (capacity : ℕ) (a : Answer) → IsToClient a → AsksBy model (Resize n capacity) a
to_resize model n capacity (Told report) h = h
to_resize model n capacity (Asked asked) h = absurd h

-- a reply is that of this request
asks_own : (model : Option (List ℕ)) (n s name service text : List ℕ) (i : Data) (q task : plan.Request) (a : Answer) → AsksFor name service task a → name ≡ n → service ≡ s → model ≡ Some text
    → plan.request_of text s i ≡ Ok q → task ≡ q → AsksBy model (Request n s i) a
asks_own model n s name service text i q task (Told report) h is of some good same = h
asks_own model n s name service text i q task (Asked asked) h is of some good same = (h.0 ∙ is, h.1 ∙ of, (text, some, good ∙ ap Ok (sym (h.2 ∙ same))))

module _ (k : ℕ) (what : Due (Arc (List ℕ) Global) plan.Request) (old new : Register) (a : Answer) (done : Settles k what old a new) where
  told_asks : (report : Report) → is_on_client report ≡ true → IsTold report what → IsToClient a
  told_asks report on is = let s = subst (λ w. Settles k w old a new) is.1 done in subst IsToClient (sym s.0) (ap is_on_client is.2 ∙ on)

  refused_asks : (n : List ℕ) (seat : Seat) (why : Word) → IsRefused n seat why what → IsToClient a
  refused_asks n seat why is = let s = subst (λ w. Settles k w old a new) is.1 done in subst IsToClient (sym s.0) refl

  task_asks : (model : Option (List ℕ)) (n s text : List ℕ) (i : Data) (seat : Seat) (b : Bool) (q : plan.Request) → model ≡ Some text → plan.request_of text s i ≡ Ok q
      → IsTaskDue IsTask n s seat b q what → AsksBy model (Request n s i) a
  task_asks model n s text i seat true q some good due = to_request model n s i a (refused_asks n seat word.Closed due)
  task_asks model n s text i seat false q some good due =
      let d = subst (λ w. Settles k w old a new) due.3 done in asks_own model n s due.0.now due.1.now text i q due.2 a d.4 due.4 due.5 some good due.6

  request_asks : (model : Option (List ℕ)) (n s text : List ℕ) (i : Data) (seat : Option Seat) (r : Result plan.Request TaskFault) → model ≡ Some text → plan.request_of text s i ≡ r
      → IsRequestDue IsTask k n s seat r what → AsksBy model (Request n s i) a
  request_asks model n s text i None r some good due = to_request model n s i a (told_asks (Of n k (told.Refused word.Clients)) refl due)
  request_asks model n s text i (Some seat) (Err fault) some good due = to_request model n s i a (refused_asks n seat (task_fault_word fault) due)
  request_asks model n s text i (Some seat) (Ok q) some good due = task_asks model n s text i seat seat.is_closed q some good due

  request_decided_asks : (mid : Register) (model : Option (List ℕ)) (n s : List ℕ) (i : Data) → DecidesRequest Asks IsSeat IsTask model mid k n s i what old
      → AsksBy model (Request n s i) a
  request_decided_asks mid model n s i (inl d) = to_request model n s i a (told_asks (Of n k (told.Refused word.Model)) refl d.2)
  request_decided_asks mid model n s i (inr d) = request_asks model n s d.0 i d.2 (plan.request_of d.0 s i) d.1 refl d.4

  open_close_asks : (model : Option (List ℕ)) (n : List ℕ) (seat : Seat) (b : Bool) → IsOpenCloseDue n seat b what → AsksBy model (Close n) a
  open_close_asks model n seat true due = to_close model n a (refused_asks n seat word.Closed due)
  open_close_asks model n seat false due = let d = subst (λ w. Settles k w old a new) due.1 done in to_close model n a (subst IsToClient (sym d.0) refl)

  close_asks : (model : Option (List ℕ)) (n : List ℕ) (seat : Option Seat) → IsCloseDue k n seat what → AsksBy model (Close n) a
  close_asks model n None due = to_close model n a (told_asks (Of n k (told.Refused word.Clients)) refl due)
  close_asks model n (Some seat) due = open_close_asks model n seat seat.is_closed due

  open_resize_asks : (model : Option (List ℕ)) (n : List ℕ) (capacity : ℕ) (seat : Seat) (b c : Bool) → IsOpenResizeDue n seat capacity b c what → AsksBy model (Resize n capacity) a
  open_resize_asks model n capacity seat true c due = to_resize model n capacity a (refused_asks n seat word.Closed due)
  open_resize_asks model n capacity seat false true due = to_resize model n capacity a (refused_asks n seat word.Capacity due)
  open_resize_asks model n capacity seat false false due = let d = subst (λ w. Settles k w old a new) due.1 done in to_resize model n capacity a (subst IsToClient (sym d.0) refl)

  resize_asks : (model : Option (List ℕ)) (n : List ℕ) (capacity : ℕ) (seat : Option Seat) → IsResizeDue k n capacity seat what → AsksBy model (Resize n capacity) a
  resize_asks model n capacity None due = to_resize model n capacity a (told_asks (Of n k (told.Refused word.Clients)) refl due)
  resize_asks model n capacity (Some seat) due = open_resize_asks model n capacity seat seat.is_closed (is_no_capacity capacity) due

  model_asks : {M : Type 0} (model : Option (List ℕ)) (json : Data) (r : Result M ModelFault) → IsModelDue arc_value k json r what → AsksBy model (Model json) a
  model_asks model json (Ok m) is = let d = subst (λ w. Settles k w old a new) is.1 done in subst (λ b. AsksBy model (Model json) b) (sym d.0) refl
  model_asks model json (Err f) is = let d = subst (λ w. Settles k w old a new) is.1 done in subst (λ b. AsksBy model (Model json) b) (sym d.0) (ap is_on_model is.2)

-- ## Any line

pub decided : (old between new : Register) (k : ℕ) (line : Line) (what : Due (Arc (List ℕ) Global) plan.Request) (answer : Answer) → k < 2 ^ 64
    → Decides arc_value force_of (λ _. Unit {0}) Keeps Asks IsSeat IsTask old k line what between → Settles k what between answer new → Answers old k line answer new
decided old between new k (Model json) what answer fits d done =
    let v = model_view k what between new answer done json (read_model json) d.2 in λ lanes earlier st num. (
      v.0 ∙ ap (λ j. model_answer j (read_model json)) num,
      record {
        count = v.3 ∙ d.0.1 ∙ st.count;
        model = v.1 ∙ ap (newer_model json (read_model json)) (d.1 ∙ st.model);
        clients = v.2 ∙ d.0.0 ∙ st.clients;
      },
    )
decided old between new k (Request n s i) what answer fits d done =
    kept_on old d.0 new k (Request n s i) answer d.1 d.2 (request_decided old d.0 between new k n s i answer what fits d.2 done (d.3 tt))
decided old between new k (Close n) what answer fits d done = close_decided old between new k n answer what d.0 d.1.0 d.1.1 done d.2
decided old between new k (Resize n capacity) what answer fits d done = resize_decided old between new k n capacity answer what d.0 d.1.0 d.1.1 done d.2

-- each answer is that of its line's kind, and a reply that of the line's own request
pub asked : (old between new : Register) (k : ℕ) (line : Line) (what : Due (Arc (List ℕ) Global) plan.Request) (a : Answer)
    → Decides arc_value force_of (λ _. Unit {0}) Keeps Asks IsSeat IsTask old k line what between → Settles k what between a new → AsksBy (force_of old) line a
asked old between new k (Model json) what a d done = model_asks k what between new a done (force_of old) json (read_model json) d.2
asked old between new k (Request n s i) what a d done = request_decided_asks k what between new a done d.0 (force_of old) n s i (d.3 tt)
asked old between new k (Close n) what a d done = close_asks k what between new a done (force_of old) n d.0 d.2
asked old between new k (Resize n capacity) what a d done = resize_asks k what between new a done (force_of old) n capacity d.0 d.2
