-- What is due to a line, and then done, is what the line comes to.
use Rattle.std.proofs.Common.{◌≡◌, inl, inr, ℕ, Bool, true, false, List, [], ◌∷◌, ◌++◌, Option, Some, None, Result, Ok, Err, length, slice_get, slice_set, refl, sym, ap, ◌∙◌, subst}
use Rattle.std.specs.Arc.{arc_value}
use Rattle.serde_json.specs.Data.{Data}
use Rattle.box_core.specs.Mail.{is_no_capacity}
use Rattle.dmn_plan.specs.ReadModel.{read_model}
use Rattle.dmn_plan.specs.Request as plan
use Rattle.dmn_plan.specs.declared.fault.ModelFault.{ModelFault}
use Rattle.dmn_plan.specs.declared.fault.TaskFault.{TaskFault}
use Rattle.desk_lines.specs.Lines.{ended}
use Rattle.desk_wire.specs.Reading.{Reading, Says}
use Rattle.desk_wire.specs.Reports.{Report, Loaded, Faulty, Of, Reply, client_on, report_text}
use Rattle.desk_wire.specs.Words.{fault_word, task_fault_word}
use Rattle.desk_wire.specs.declared.heard.Heard.{Heard}
use Rattle.desk_wire.specs.declared.report.Told.{Told}
use Rattle.desk_wire.specs.declared.report.Told.TheVariants as told
use Rattle.desk_wire.specs.declared.word.Word.{Word}
use Rattle.desk_wire.specs.declared.word.Word.TheVariants as word
use Rattle.desk_requests.specs.Decider.{DecidesRequest, IsCloseDue, IsModelDue, IsOpenCloseDue, IsOpenResizeDue, IsRefused, IsRequestDue, IsResizeDue, IsTaskDue, IsTold}
use Rattle.desk_requests.specs.Due.{capacity_answer, close_answer, model_answer, resize_answer, task_answer}
use Rattle.desk_requests.specs.Line.{Line, Model, Request, Close, Resize, line_view}
use Rattle.desk_requests.specs.LineHeard.{IsLineOf}
use Rattle.desk_requests.specs.State.{has_lane, is_closed, newer_model, number_after, with_lane}
use Rattle.desk_requests.specs.declared.decider.Seat.{Seat}
use Rattle.desk_requests.specs.declared.line.Line as held
use Rattle.desk_requests.proofs.Names.{among_at, set_back}
use Rattle.feel_value.specs.Distinct.{is_among}
use Rattle.desk_serving.specs.LanesView.{IsSeatIn, lanes_in, names_in}
use Rattle.desk_serving.specs.Owed.{AreBehind, HandsThen, Queue, Stands, closed_by, unhanded, with_put, with_told}
use Rattle.desk_serving.specs.StateView.{CanBeDone, DecidesHere, DueHere, Hears, IsAnswered, IsDueTo, IsDueToHeard, IsSeat, IsTask, IsToldAt, Settles, StandsAs, model_of}
use Rattle.desk_serving.specs.declared.named_lanes.Lanes.{Lanes}
use Rattle.desk_serving.specs.declared.state.State.{State}
use Rattle.desk_serving.proofs.Hearing.{booked_lane}
use Rattle.desk_serving.proofs.Owing.{due_to_none, hands_none, hands_then_report, length-unhanded, unhanded-set, unhanded_at}
use Rattle.desk_serving.proofs.Putting.{all_behind}
use Rattle.desk_serving.proofs.Replying.{IsHeard, heard_close, heard_model, heard_close_no_lane, heard_no_lane, heard_no_model, heard_no_task, heard_put, heard_told, named_close, named_request, with_put_if}
use Rattle.desk_serving.proofs.Standing.{booked_at, stands_named}
use Rattle.model_marks.specs.declared.mark.Catalog.{Ghosts}

-- ## The lane of a name

module _ {C : Type 0} {G : Ghosts C} where
  -- once some of what was owed is handed out, a name has the same lane
  still_seated : (old new : Lanes C G) (n : List ℕ) (seat : Option Seat) → names_in new ≡ names_in old → unhanded (lanes_in new) ≡ unhanded (lanes_in old) → IsSeatIn old n seat → IsSeatIn new n seat
  still_seated old new n None names same is =
      let count = length-unhanded (lanes_in new) (lanes_in old) same in
      (ap (λ k. with_lane k n (names_in new)) count ∙ ap (with_lane (length (lanes_in old)) n) names ∙ is.0 ∙ sym names, ap (λ ns. is_among ns n) names ∙ is.1)
  still_seated old new n (Some seat) names same is =
      let count = length-unhanded (lanes_in new) (lanes_in old) same in (
        ap (λ k. slice_get (with_lane k n (names_in new)) seat.place) count ∙ ap (λ ns. slice_get (with_lane (length (lanes_in old)) n ns) seat.place) names ∙ is.0,
        λ lane at. let was = unhanded_at (lanes_in old) (lanes_in new) seat.place lane (sym same) at in is.1 was.0 was.1 ∙ was.3,
      )

  -- once it has one, a name is at its lane
  pub seat_found : (old new : Lanes C G) (n : List ℕ) (seat : Seat) → IsSeatIn old n (Some seat) → names_in new ≡ with_lane (length (lanes_in old)) n (names_in old) → slice_get (names_in new) seat.place ≡ Some n
  seat_found old new n seat at names = ap (λ ns. slice_get ns seat.place) names ∙ at.0

module _ {C R : Type 0} {G : Ghosts C} where
  -- ## What is due stays so

  request_still : (before mid new : State C R G) (force : Option (List ℕ)) (k : ℕ) (n s : List ℕ) (i : Data) (what : DueHere) → model_of new ≡ force → ((m : List ℕ) (seat : Option Seat) → IsSeat mid m seat → IsSeat new m seat)
      → DecidesRequest (λ (a : State C R G) (_ : List ℕ) (b : State C R G). b ≡ a) IsSeat IsTask force before k n s i what mid
      → DecidesRequest (λ (a : State C R G) (_ : List ℕ) (b : State C R G). b ≡ a) IsSeat IsTask (model_of new) new k n s i what new
  request_still before mid new force k n s i what model seats (inl d) = inl (model ∙ d.0, refl, d.2)
  request_still before mid new force k n s i what model seats (inr d) = inr (d.0, model ∙ d.1, d.2, (refl, seats n d.2 d.3.1), d.4)

  decided_still : (old mid new : State C R G) (k : ℕ) (line : Line) (what : DueHere) → model_of new ≡ model_of old → ((n : List ℕ) (seat : Option Seat) → IsSeat mid n seat → IsSeat new n seat)
      → DecidesHere old k line what mid → IsDueTo new k line what
  decided_still old mid new k (Model json) what model seats d = (refl, refl, d.2)
  decided_still old mid new k (Request n s i) what model seats d = (new, refl, refl, λ _. request_still d.0 mid new (model_of old) k n s i what model seats (d.3 tt))
  decided_still old mid new k (Close n) what model seats d = (d.0, (refl, seats n d.0 d.1.1), d.2)
  decided_still old mid new k (Resize n capacity) what model seats d = (d.0, (refl, seats n d.0 d.1.1), d.2)

  request_same : (before new : State C R G) (force : Option (List ℕ)) (k : ℕ) (n s : List ℕ) (i : Data) (what : DueHere)
      → DecidesRequest (λ (a : State C R G) (_ : List ℕ) (b : State C R G). b ≡ a) IsSeat IsTask force before k n s i what new → new ≡ before
  request_same before new force k n s i what (inl d) = d.1
  request_same before new force k n s i what (inr d) = d.3.0

  -- what decides leaves the lanes and the model in force
  pub decided_same : (old new : State C R G) (k : ℕ) (line : Line) (what : DueHere) → DecidesHere old k line what new → (new.lanes ≡ old.lanes) × (model_of new ≡ model_of old)
  decided_same old new k (Model json) what d = (d.0, d.1)
  decided_same old new k (Request n s i) what d =
      let same = request_same d.0 new (model_of old) k n s i what (d.3 tt) in (ap (λ (s : State C R G). s.lanes) same ∙ d.1, ap (λ (s : State C R G). model_of s) same ∙ d.2)
  decided_same old new k (Close n) what d = (ap (λ (s : State C R G). s.lanes) d.1.0, ap (λ (s : State C R G). model_of s) d.1.0)
  decided_same old new k (Resize n capacity) what d = (ap (λ (s : State C R G). s.lanes) d.1.0, ap (λ (s : State C R G). model_of s) d.1.0)

  pub due_decided : (old new : State C R G) (k : ℕ) (heard : Heard) (line : held.Line) (what : DueHere) → IsLineOf heard (Some line) → DecidesHere old k (line_view line) what new → IsDueToHeard new k heard (Some what)
  due_decided old new k heard line what is d = (line, is, decided_still old new new k (line_view line) what (decided_same old new k (line_view line) what d).1 (λ n seat at. at) d)

  pub still_due : (old new : State C R G) (k : ℕ) (heard : Heard) (what : Option DueHere) → names_in new.lanes ≡ names_in old.lanes → unhanded (lanes_in new.lanes) ≡ unhanded (lanes_in old.lanes) → model_of new ≡ model_of old
      → IsDueToHeard old k heard what → IsDueToHeard new k heard what
  still_due old new k heard None names same model is = is
  still_due old new k heard (Some what) names same model is =
      (is.0, is.1, decided_still old old new k (line_view is.0) what model (λ n seat at. still_seated old.lanes new.lanes n seat names same at) is.2)

  -- ## It can be done

  module _ (state : State C R G) (k : ℕ) (what : DueHere) where
    told_can : (report : Report) → IsTold report what → CanBeDone state what
    told_can report is = subst (CanBeDone state) (sym is.1) tt

    refused_can : (n : List ℕ) (seat : Seat) (why : Word) → IsSeat state n (Some seat) → IsRefused n seat why what → CanBeDone state what
    refused_can n seat why at is = subst (CanBeDone state) (sym is.1) (subst (λ m. IsSeat state m (Some seat)) (sym is.2) at)

    model_can : {M : Type 0} (json : Data) (r : Result M ModelFault) → IsModelDue (λ (text : List ℕ). text) k json r what → CanBeDone state what
    model_can json (Ok m) is = subst (CanBeDone state) (sym is.1) tt
    model_can json (Err f) is = told_can (Faulty k (fault_word f)) is

    task_can : (n s : List ℕ) (seat : Seat) (q : plan.Request) (b : Bool) → IsSeat state n (Some seat) → seat.is_closed ≡ b → IsTaskDue IsTask n s seat b q what → CanBeDone state what
    task_can n s seat q true at closed is = refused_can n seat word.Closed at is
    task_can n s seat q false at closed is = subst (CanBeDone state) (sym is.3) (subst (λ m. IsSeat state m (Some seat)) (sym is.4) at, closed)

    request_can : (n s : List ℕ) (seat : Option Seat) (r : Result plan.Request TaskFault) → IsSeat state n seat → IsRequestDue IsTask k n s seat r what → CanBeDone state what
    request_can n s None r at is = told_can (Of n k (told.Refused word.Clients)) is
    request_can n s (Some seat) (Err f) at is = refused_can n seat (task_fault_word f) at is
    request_can n s (Some seat) (Ok q) at is = task_can n s seat q seat.is_closed at refl is

    any_request_can : (n s : List ℕ) (i : Data) (before : State C R G) → DecidesRequest (λ (a : State C R G) (_ : List ℕ) (b : State C R G). b ≡ a) IsSeat IsTask (model_of state) before k n s i what state → CanBeDone state what
    any_request_can n s i before (inl d) = told_can (Of n k (told.Refused word.Model)) d.2
    any_request_can n s i before (inr d) = request_can n s d.2 (plan.request_of d.0 s i) d.3.1 d.4

    open_close_can : (n : List ℕ) (seat : Seat) (b : Bool) → IsSeat state n (Some seat) → IsOpenCloseDue n seat b what → CanBeDone state what
    open_close_can n seat true at is = refused_can n seat word.Closed at is
    open_close_can n seat false at is = subst (CanBeDone state) (sym is.1) (subst (λ m. IsSeat state m (Some seat)) (sym is.2) at)

    close_can : (n : List ℕ) (seat : Option Seat) → IsSeat state n seat → IsCloseDue k n seat what → CanBeDone state what
    close_can n None at is = told_can (Of n k (told.Refused word.Clients)) is
    close_can n (Some seat) at is = open_close_can n seat seat.is_closed at is

    open_resize_can : (n : List ℕ) (capacity : ℕ) (seat : Seat) (b c : Bool) → IsSeat state n (Some seat) → IsOpenResizeDue n seat capacity b c what → CanBeDone state what
    open_resize_can n capacity seat true c at is = refused_can n seat word.Closed at is
    open_resize_can n capacity seat false true at is = refused_can n seat word.Capacity at is
    open_resize_can n capacity seat false false at is = subst (CanBeDone state) (sym is.1) (subst (λ m. IsSeat state m (Some seat)) (sym is.2) at)

    resize_can : (n : List ℕ) (capacity : ℕ) (seat : Option Seat) → IsSeat state n seat → IsResizeDue k n capacity seat what → CanBeDone state what
    resize_can n capacity None at is = told_can (Of n k (told.Refused word.Clients)) is
    resize_can n capacity (Some seat) at is = open_resize_can n capacity seat seat.is_closed (is_no_capacity capacity) at is

    pub can_be_done : (line : Line) → IsDueTo state k line what → CanBeDone state what
    can_be_done (Model json) d = model_can json (read_model json) d.2
    can_be_done (Request n s i) d = any_request_can n s i d.0 (d.3 tt)
    can_be_done (Close n) d = close_can n d.0 d.1.1 d.2
    can_be_done (Resize n capacity) d = resize_can n capacity d.0 d.1.1 d.2

  -- ## What was done

  -- a name got its lane, and then its client was answered
  pub is_answered : (old new : State C R G) (mid : Lanes C G) (name : List ℕ) (lanes : List Queue) (report : Report) (text text' : List ℕ) → model_of new ≡ model_of old → lanes_in mid ≡ lanes_in old.lanes
      → names_in mid ≡ with_lane (length (lanes_in old.lanes)) name (names_in old.lanes) → names_in new.lanes ≡ names_in mid → unhanded (lanes_in new.lanes) ≡ unhanded lanes
      → HandsThen (names_in mid) (lanes_in mid) (lanes_in new.lanes) report text text' → IsAnswered old name lanes report text text' new
  is_answered old new mid name lanes report text text' model same names kept are hands = record {
    model = model;
    names = kept ∙ names;
    lanes_are = are;
    hands = subst (λ ns. HandsThen ns (lanes_in old.lanes) (lanes_in new.lanes) report text text') (sym kept)
        (subst (λ ls. HandsThen (names_in mid) ls (lanes_in new.lanes) report text text') same hands);
  }

  module _ (old new : State C R G) (k : ℕ) (what : DueHere) (text text' : List ℕ) (done : Settles k what old text text' new) (earlier : List (Reading Line)) (said : List Report)
      (st : StandsAs old earlier said) (num : k ≡ number_after earlier) where
    -- what a line comes to
    abbrev Comes : Line → Type 0
    Comes line = IsHeard (Says line) earlier (names_in new.lanes) (model_of new) (lanes_in new.lanes) said text text'

    told_done : (report : Report) → IsTold report what → (new ≡ old) × (text' ≡ text ++ ended (report_text report))
    told_done report is = let s = subst (λ w. Settles k w old text text' new) is.1 done in (s.0, s.1 ∙ ap (λ r. text ++ ended (report_text r)) is.2)

    as_it_was : (line : Line) → new ≡ old → IsHeard (Says line) earlier (names_in old.lanes) (model_of old) (lanes_in old.lanes) said text text' → Comes line
    as_it_was line same h = subst (λ (s : State C R G). IsHeard (Says line) earlier (names_in s.lanes) (model_of s) (lanes_in s.lanes) said text text') (sym same) h

    refused_done : (n : List ℕ) (seat : Seat) (why : Word) → IsRefused n seat why what → IsToldAt old n seat k (told.Refused why) text text' new
    refused_done n seat why is = subst (λ m. IsToldAt old m seat k (told.Refused why) text text' new) is.2 (subst (λ w. Settles k w old text text' new) is.1 done)

    -- the lane with what is told of this line
    abbrev with_it : Seat → Told → Queue → List Queue
    with_it seat it lane = slice_set (lanes_in old.lanes) seat.place (with_told k it lane)

    -- where nothing is closed by it, the lanes are the same but for what they owe
    told_same : (n : List ℕ) (seat : Seat) (it : Told) (lane : Queue) → slice_get (lanes_in old.lanes) seat.place ≡ Some lane → closed_by it lane.closed ≡ lane.closed
        → IsAnswered old n (with_it seat it lane) (Of n k it) text text' new → unhanded (lanes_in new.lanes) ≡ unhanded (lanes_in old.lanes)
    told_same n seat it lane there same a = a.lanes_are ∙ unhanded-set (lanes_in old.lanes) seat.place lane (with_told k it lane) there refl same

    behind_all : AreBehind (lanes_in old.lanes)
    behind_all = all_behind old.lanes.clients.items

    -- the names, once this one asked for a lane
    abbrev named : List ℕ → List (List ℕ)
    named n = with_lane (length (lanes_in old.lanes)) n (names_in old.lanes)

    behind : (n : List ℕ) (lanes : List Queue) (report : Report) → IsAnswered old n lanes report text text' new → HandsThen (named n) (lanes_in old.lanes) (lanes_in new.lanes) report text text'
    behind n lanes report a = subst (λ ns. HandsThen ns (lanes_in old.lanes) (lanes_in new.lanes) report text text') a.names a.hands

    comes : (line : Line) (n : List ℕ) (lanes : List Queue) (report : Report) → IsAnswered old n lanes report text text' new
        → IsHeard (Says line) earlier (named n) (model_of old) (lanes_in new.lanes) said text text' → Comes line
    comes line n lanes report a h =
        subst (λ m. IsHeard (Says line) earlier (names_in new.lanes) m (lanes_in new.lanes) said text text') (sym a.model)
        (subst (λ ns. IsHeard (Says line) earlier ns (model_of old) (lanes_in new.lanes) said text text') (sym a.names) h)

    -- ### Models

    model_done : {M : Type 0} (json : Data) (r : Result M ModelFault) → IsModelDue (λ (it : List ℕ). it) k json r what
        → (e : Report) × (client_on e ≡ None) × (e ≡ model_answer k r) × (text' ≡ text ++ ended (report_text e)) × (model_of new ≡ newer_model json r (model_of old)) × (new.lanes ≡ old.lanes)
    model_done json (Ok m) is = let s = subst (λ w. Settles k w old text text' new) is.1 done in (Loaded k, refl, refl, s.2, s.0 ∙ ap Some is.2, s.1)
    model_done json (Err f) is =
        let t = told_done (Faulty k (fault_word f)) is in (Faulty k (fault_word f), refl, refl, t.1, ap (λ (s : State C R G). model_of s) t.0, ap (λ (s : State C R G). s.lanes) t.0)

    model_comes : (json : Data) → IsModelDue (λ (it : List ℕ). it) k json (read_model json) what → Comes (Model json)
    model_comes json is =
        let d = model_done json (read_model json) is in
        heard_model json k d.0 earlier (names_in new.lanes) (model_of old) (model_of new) (lanes_in new.lanes) said text text'
        (subst (λ (ls : Lanes C G). Stands earlier earlier (names_in ls) (model_of old) (lanes_in ls) said) (sym d.5) st) num d.1 d.2 d.3 (d.4 ∙ ap (newer_model json (read_model json)) st.model)

    -- ### Requests

    module _ (n s t : List ℕ) (i : Data) (some : model_of old ≡ Some t) where
      no_lane_comes : IsSeat old n None → IsTold (Of n k (told.Refused word.Clients)) what → Comes (Request n s i)
      no_lane_comes at due =
          let d = told_done (Of n k (told.Refused word.Clients)) due in
          as_it_was (Request n s i) d.0
          (heard_no_lane n s i t k earlier (names_in old.lanes) (model_of old) (lanes_in old.lanes) said text text'
          (named_request n s i t earlier (names_in old.lanes) (names_in old.lanes) (model_of old) (lanes_in old.lanes) said behind_all st some (sym at.0)) some at.1 num d.1)

      module _ (seat : Seat) (at : IsSeat old n (Some seat)) where
        stands : Stands (Says (Request n s i) ∷ earlier) earlier (named n) (model_of old) (lanes_in old.lanes) said
        stands = named_request n s i t earlier (names_in old.lanes) (named n) (model_of old) (lanes_in old.lanes) said behind_all st some refl

        fault_comes : (f : TaskFault) → plan.request_of t s i ≡ Err f → IsRefused n seat (task_fault_word f) what → (lane : Queue) → slice_get (lanes_in old.lanes) seat.place ≡ Some lane → Comes (Request n s i)
        fault_comes f bad due lane there =
            let it = told.Refused (task_fault_word f) in let a = refused_done n seat (task_fault_word f) due lane there in
            comes (Request n s i) n (with_it seat it lane) (Of n k it) a
            (heard_no_task n s i t k f earlier (named n) (model_of old) (lanes_in old.lanes) (lanes_in new.lanes) said text text' stands some (among_at n (named n) seat.place at.0) num bad
            (behind n (with_it seat it lane) (Of n k it) a) (told_same n seat it lane there refl a))

        -- a task, where the lane that stands there is closed or not
        task_comes : (q : plan.Request) → plan.request_of t s i ≡ Ok q → (lane : Queue) → slice_get (lanes_in old.lanes) seat.place ≡ Some lane → (b : Bool) → seat.is_closed ≡ b → IsTaskDue IsTask n s seat b q what
            → Comes (Request n s i)
        task_comes q good lane there true closed due =
            let it = told.Refused word.Closed in let a = refused_done n seat word.Closed due lane there in
            let is : true ≡ lane.closed = sym closed ∙ at.1 lane there in
            comes (Request n s i) n (with_it seat it lane) (Of n k it) a
            (heard_put n s i t k seat.place q earlier (named n) (model_of old) (lanes_in old.lanes) (lanes_in new.lanes) lane said text text' stands some at.0 there num good
            (subst (λ b. HandsThen (named n) (lanes_in old.lanes) (lanes_in new.lanes) (task_answer k n b (length lane.put) (Ok q)) text text') is
            (behind n (with_it seat it lane) (Of n k it) a))
            (told_same n seat it lane there refl a ∙ ap unhanded (sym (ap (slice_set (lanes_in old.lanes) seat.place) (shut_put lane q (sym is)) ∙ set_back (lanes_in old.lanes) seat.place lane there))))
          where
            shut_put : (x : Queue) (r : plan.Request) → x.closed ≡ true → with_put_if x r ≡ x
            shut_put x r shut = rw shut refl
        task_comes q good lane there false closed due =
            let now = λ (m : List ℕ) (r : plan.Request). IsAnswered old m (slice_set (lanes_in old.lanes) seat.place (with_put lane r)) (Reply m (length lane.put) (plan.request_result r)) text text' new in
            let a : now n q = subst (λ r. now n r) due.6 (subst (λ m. now m (arc_value due.2)) due.4 (subst (λ w. Settles k w old text text' new) due.3 done lane there)) in
            let is : false ≡ lane.closed = sym closed ∙ at.1 lane there in
            let left = slice_set (lanes_in old.lanes) seat.place (with_put lane q) in let e = Reply n (length lane.put) (plan.request_result q) in
            comes (Request n s i) n left e a
            (heard_put n s i t k seat.place q earlier (named n) (model_of old) (lanes_in old.lanes) (lanes_in new.lanes) lane said text text' stands some at.0 there num good
            (subst (λ b. HandsThen (named n) (lanes_in old.lanes) (lanes_in new.lanes) (task_answer k n b (length lane.put) (Ok q)) text text') is (behind n left e a))
            (a.lanes_are ∙ ap (λ x. unhanded (slice_set (lanes_in old.lanes) seat.place x)) (sym (open_put lane q (sym is)))))
          where
            open_put : (x : Queue) (r : plan.Request) → x.closed ≡ false → with_put_if x r ≡ with_put x r
            open_put x r yet = rw yet refl

      request_comes : (seat : Option Seat) (r : Result plan.Request TaskFault) → plan.request_of t s i ≡ r → IsSeat old n seat → IsRequestDue IsTask k n s seat r what → Comes (Request n s i)
      request_comes None r is at due = no_lane_comes at due
      request_comes (Some seat) (Err f) is at due =
          let lane = booked_lane (named n) (lanes_in old.lanes) earlier seat.place n (stands seat at).booked at.0 in fault_comes seat at f is due lane.0 lane.1
      request_comes (Some seat) (Ok q) is at due =
          let lane = booked_lane (named n) (lanes_in old.lanes) earlier seat.place n (stands seat at).booked at.0 in task_comes seat at q is lane.0 lane.1 seat.is_closed refl due

    any_request_comes : (n s : List ℕ) (i : Data) (before : State C R G) → DecidesRequest (λ (a : State C R G) (_ : List ℕ) (b : State C R G). b ≡ a) IsSeat IsTask (model_of old) before k n s i what old → Comes (Request n s i)
    any_request_comes n s i before (inl d) =
        let t = told_done (Of n k (told.Refused word.Model)) d.2 in
        as_it_was (Request n s i) t.0 (heard_no_model n s i k earlier (names_in old.lanes) (model_of old) (lanes_in old.lanes) said text text' behind_all st d.0 num t.1)
    any_request_comes n s i before (inr d) = request_comes n s d.0 i d.1 d.2 (plan.request_of d.0 s i) refl d.3.1 d.4

    -- ### Closes

    module _ (n : List ℕ) (seat : Seat) (at : IsSeat old n (Some seat)) where
      close_stands : Stands (Says (Close n) ∷ earlier) earlier (named n) (model_of old) (lanes_in old.lanes) said
      close_stands = named_close n earlier (names_in old.lanes) (named n) (model_of old) (lanes_in old.lanes) said behind_all st refl

      lane_comes : (lane : Queue) → slice_get (lanes_in old.lanes) seat.place ≡ Some lane → (b : Bool) → seat.is_closed ≡ b → IsOpenCloseDue n seat b what → Comes (Close n)
      lane_comes lane there true closed due =
          let it = told.Refused word.Closed in let e = Of n k it in let a = refused_done n seat word.Closed due lane there in
          let is : true ≡ lane.closed = sym closed ∙ at.1 lane there in
          comes (Close n) n (with_it seat it lane) e a
          (heard_close n k seat.place e earlier (named n) (model_of old) (lanes_in old.lanes) (lanes_in new.lanes) lane (with_told k it lane) said text text' close_stands at.0 there num (ap (close_answer k n true) is)
          refl (sym is) a.lanes_are (behind n (with_it seat it lane) e a))
      lane_comes lane there false closed due =
          let left = with_it seat told.Closed lane in let e = Of n k told.Closed in
          let a : IsAnswered old n left e text text' new = subst (λ m. IsAnswered old m left (Of m k told.Closed) text text' new) due.2 (subst (λ w. Settles k w old text text' new) due.1 done lane there) in
          let is : false ≡ lane.closed = sym closed ∙ at.1 lane there in
          comes (Close n) n left e a
          (heard_close n k seat.place e earlier (named n) (model_of old) (lanes_in old.lanes) (lanes_in new.lanes) lane (with_told k told.Closed lane) said text text' close_stands at.0 there num (ap (close_answer k n true) is)
          refl refl a.lanes_are (behind n left e a))

    close_comes : (n : List ℕ) (seat : Option Seat) → IsSeat old n seat → IsCloseDue k n seat what → Comes (Close n)
    close_comes n None at due =
        let d = told_done (Of n k (told.Refused word.Clients)) due in
        as_it_was (Close n) d.0
        (heard_close_no_lane n k earlier (names_in old.lanes) (model_of old) (lanes_in old.lanes) said text text'
        (named_close n earlier (names_in old.lanes) (names_in old.lanes) (model_of old) (lanes_in old.lanes) said behind_all st (sym at.0)) at.1 num d.1)
    close_comes n (Some seat) at due =
        let lane = booked_lane (named n) (lanes_in old.lanes) earlier seat.place n (close_stands n seat at).booked at.0 in lane_comes n seat at lane.0 lane.1 seat.is_closed refl due

    -- ### Resizes

    module _ (n : List ℕ) (size : ℕ) (seat : Seat) (at : IsSeat old n (Some seat)) where
      resize_stands : Stands (Says (Resize n size) ∷ earlier) earlier (named n) (model_of old) (lanes_in old.lanes) said
      resize_stands = stands_named n (Says (Resize n size)) earlier (names_in old.lanes) (named n) (model_of old) (lanes_in old.lanes) said behind_all st refl refl

      sized_comes : (it : Told) → IsToldAt old n seat k it text text' new
          → ((lane : Queue) → slice_get (lanes_in old.lanes) seat.place ≡ Some lane → (closed_by it lane.closed ≡ lane.closed) × (Of n k it ≡ resize_answer k n size true lane.closed)) → Comes (Resize n size)
      sized_comes it done_at is =
          let reading = Says (Resize n size) in let e = Of n k it in
          let lane = booked_lane (named n) (lanes_in old.lanes) earlier seat.place n resize_stands.booked at.0 in
          let book = booked_at (named n) (lanes_in old.lanes) earlier seat.place n lane.0 resize_stands.booked at.0 lane.1 in
          let a = done_at lane.0 lane.1 in let so = is lane.0 lane.1 in
          let inside : has_lane (length (lanes_in old.lanes)) (reading ∷ earlier) n ≡ true = ap (λ ns. is_among ns n) (sym resize_stands.names) ∙ among_at n (named n) seat.place at.0 in
          comes (Resize n size) n (with_it seat it lane.0) e a
          (heard_told reading e earlier (named n) (model_of old) (lanes_in old.lanes) (lanes_in new.lanes) said text text' resize_stands refl (λ m. (refl, refl))
          (ap (λ b. resize_answer (number_after earlier) n size b (is_closed n earlier) ∷ []) inside
          ∙ ap (λ x. x ∷ []) (sym (so.1 ∙ ap (λ j. resize_answer j n size true lane.0.closed) num ∙ ap (resize_answer (number_after earlier) n size true) book.1)))
          (told_same n seat it lane.0 lane.1 so.0 a) (behind n (with_it seat it lane.0) e a))

      capacity_comes : (b c : Bool) → seat.is_closed ≡ b → is_no_capacity size ≡ c → IsOpenResizeDue n seat size b c what → Comes (Resize n size)
      capacity_comes true c closed none due =
          sized_comes (told.Refused word.Closed) (refused_done n seat word.Closed due) (λ lane there. (refl, ap (resize_answer k n size true) (sym closed ∙ at.1 lane there)))
      capacity_comes false true closed none due =
          sized_comes (told.Refused word.Capacity) (refused_done n seat word.Capacity due)
          (λ lane there. (refl, sym (ap (capacity_answer k n size) none) ∙ ap (resize_answer k n size true) (sym closed ∙ at.1 lane there)))
      capacity_comes false false closed none due =
          sized_comes (told.Resized size) (subst (λ m. IsToldAt old m seat k (told.Resized size) text text' new) due.2 (subst (λ w. Settles k w old text text' new) due.1 done))
          (λ lane there. (refl, sym (ap (capacity_answer k n size) none) ∙ ap (resize_answer k n size true) (sym closed ∙ at.1 lane there)))

    resize_comes : (n : List ℕ) (size : ℕ) (seat : Option Seat) → IsSeat old n seat → IsResizeDue k n size seat what → Comes (Resize n size)
    resize_comes n size None at due =
        let reading = Says (Resize n size) in let e = Of n k (told.Refused word.Clients) in
        let names = names_in old.lanes in let lanes = lanes_in old.lanes in
        let d = told_done e due in
        let stands : Stands (reading ∷ earlier) earlier names (model_of old) lanes said = stands_named n reading earlier names names (model_of old) lanes said behind_all st refl (sym at.0) in
        let lane : has_lane (length lanes) (reading ∷ earlier) n ≡ false = ap (λ ns. is_among ns n) (sym stands.names) ∙ at.1 in
        as_it_was (Resize n size) d.0
        (heard_told reading e earlier names (model_of old) lanes lanes said text text' stands refl (λ m. (refl, refl))
        (ap (λ b. resize_answer (number_after earlier) n size b (is_closed n earlier) ∷ []) lane ∙ ap (λ j. Of n j (told.Refused word.Clients) ∷ []) (sym num))
        refl (hands_then_report names lanes lanes e text text text' (hands_none names lanes text) (due_to_none n names lanes at.1) d.1))
    resize_comes n size (Some seat) at due = capacity_comes n size seat at seat.is_closed (is_no_capacity size) refl refl due

    line_comes : (line : Line) → IsDueTo old k line what → Comes line
    line_comes (Model json) d = model_comes json d.2
    line_comes (Request n s i) d = any_request_comes n s i d.0 (d.3 tt)
    line_comes (Close n) d = close_comes n d.0 d.1.1 d.2
    line_comes (Resize n size) d = resize_comes n size d.0 d.1.1 d.2

  pub decided : (old new : State C R G) (k : ℕ) (line : Line) (what : DueHere) (text text' : List ℕ) → IsDueTo old k line what → Settles k what old text text' new → Hears old k (Says line) text text' new
  decided old new k line what text text' due done = λ earlier said st num. line_comes old new k what text text' done earlier said st num line due
