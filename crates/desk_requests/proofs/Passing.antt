-- Lines that pass a gate, and those that are refused.
use Rattle.std.proofs.Common.{◌≡◌, inl, inr, ◌<◌, ◌≤◌, ◌∙◌, ℕ, suc, Bool, true, false, is_ok, List, [], ◌∷◌, ◌++◌, Option, Some, None, Result, Ok, Err, length, if◌then◌else◌, cond, subst, ◌||◌, String, Global, string_bytes, refl, sym, ap, arith, append-nil}
use Rattle.std.specs.Arc.{arc_value}
use Rattle.std.specs.declared.sync.Arc.{Arc}
use Rattle.std.specs.BTreeSet.{BTreeSet, Updates, contains_text}
use Rattle.std.specs.List.{flat_map}
use Rattle.std.specs.Prelude.{bytes_eq}
use Rattle.std.specs.String.{string_cmp}
use Rattle.std.proofs.lemmas.List.{length-append, take_all}
use Rattle.std.proofs.lemmas.List.Concat.{flat_map-append}
use Rattle.std.proofs.lemmas.Map.Text.{btree_set_updates_text}
use Rattle.serde_json.specs.Data.{Data}
use Rattle.serde_json.specs.Written.{compact_text}
use Rattle.box_core.specs.Mail.{is_no_capacity}
use Rattle.feel_value.specs.Distinct.{is_among}
use Rattle.dmn_plan.specs.ReadModel.{read_model}
use Rattle.dmn_plan.specs.Request as plan
use Rattle.dmn_plan.specs.declared.fault.ModelFault.{ModelFault}
use Rattle.dmn_plan.specs.declared.fault.TaskFault.{TaskFault}
use Rattle.desk_wire.specs.Heard.{IsHeardAs}
use Rattle.desk_wire.specs.Reading.{Reading, Blank, Long, Syntax, Shape, Says}
use Rattle.desk_wire.specs.Reports.{Report, Faulty}
use Rattle.desk_wire.specs.Words.{fault_word, task_fault_word}
use Rattle.desk_wire.specs.declared.heard.Heard.{Heard}
use Rattle.desk_wire.specs.declared.heard.Heard.TheVariants as heard
use Rattle.desk_wire.specs.declared.word.Word.{Word}
use Rattle.desk_wire.specs.declared.word.Word.TheVariants as word
use Rattle.desk_requests.specs.Decider.{Decides, DecidesRequest, IsCloseDue, IsModelDue, IsOpenCloseDue, IsOpenResizeDue, IsRefused, IsRequestDue, IsResizeDue, IsTaskDue, IsTold}
use Rattle.desk_requests.specs.Due.{answer, answers, capacity_answer, close_answer, line_answer, model_answer, resize_answer, task_answer}
use Rattle.desk_requests.specs.Gate.{IsOpenAfter, IsSeat, Knows, Passes, PassesText, Settles, listed, unread}
use Rattle.desk_requests.specs.Line.{Line, Model, Request, Close, Resize, line_view}
use Rattle.desk_requests.specs.LineHeard.{IsLineOf}
use Rattle.desk_requests.specs.Refused.{refused, refused_at, refused_by, refused_lines}
use Rattle.desk_requests.specs.Services.{KnowsServices}
use Rattle.desk_requests.specs.State.{callers, has_lane, in_force, is_closed, newer_model, number_after, requests, with_one, with_requester}
use Rattle.desk_requests.specs.declared.decider.Due.{Due}
use Rattle.desk_requests.specs.declared.decider.Seat.{Seat}
use Rattle.desk_requests.specs.declared.gate.Gate.{Gate}
use Rattle.desk_requests.specs.declared.line.Line as asking
use Rattle.desk_requests.specs.declared.refused.RefusedLine.{RefusedLine}
use Rattle.desk_requests.proofs.Answering.{asks, due_with_lane}
use Rattle.desk_requests.proofs.Callers.{is_among-append}
use Rattle.desk_requests.proofs.Fewness.{no_line}
use Rattle.desk_requests.proofs.Models.{loaded_model}
use Rattle.desk_requests.proofs.Names.{name_itself, or_true, same_name}

-- ## Each client has a lane where there are more lanes than lines

with_one_few : (n : List ℕ) (names : List (List ℕ)) (k : ℕ) (b : Bool) → length names ≤ k → length (if b then names else names ++ n ∷ []) ≤ suc k
with_one_few n names k true h = omega (arith, h)
with_one_few n names k false h = omega (arith, h, length-append names (n ∷ []))

with_requester_few : (model : Option (List ℕ)) (n : List ℕ) (names : List (List ℕ)) (k : ℕ) → length names ≤ k → length (with_requester model n names) ≤ suc k
with_requester_few None n names k h = omega (arith, h)
with_requester_few (Some text) n names k h = with_one_few n names k (is_among names n) h

callers_few : (earlier : List (Reading Line)) → length (callers earlier) ≤ length earlier
callers_few [] = omega arith
callers_few (Blank ∷ earlier) = let h = callers_few earlier in omega (arith, h)
callers_few (Long ∷ earlier) = let h = callers_few earlier in omega (arith, h)
callers_few (Syntax ∷ earlier) = let h = callers_few earlier in omega (arith, h)
callers_few (Shape ∷ earlier) = let h = callers_few earlier in omega (arith, h)
callers_few (Says (Model json) ∷ earlier) = let h = callers_few earlier in omega (arith, h)
callers_few (Says (Request n s i) ∷ earlier) = with_requester_few (in_force earlier) n (callers earlier) (length earlier) (callers_few earlier)
callers_few (Says (Close n) ∷ earlier) = with_one_few n (callers earlier) (length earlier) (is_among (callers earlier) n) (callers_few earlier)
callers_few (Says (Resize n c) ∷ earlier) = with_one_few n (callers earlier) (length earlier) (is_among (callers earlier) n) (callers_few earlier)

among_with_one : (n : List ℕ) (names : List (List ℕ)) (b : Bool) → is_among names n ≡ b → is_among (if b then names else names ++ n ∷ []) n ≡ true
among_with_one n names true e = e
among_with_one n names false e = is_among-append n n names ∙ ap (λ b. is_among names n || (b || false)) (name_itself n) ∙ or_true (is_among names n)

has_its_lane : (lanes : ℕ) (earlier : List (Reading Line)) (line : Line) (n : List ℕ) → callers (Says line ∷ earlier) ≡ with_one n (callers earlier) → length earlier < lanes
    → has_lane lanes (Says line ∷ earlier) n ≡ true
has_its_lane lanes earlier line n asks less =
    let few : length (callers (Says line ∷ earlier)) ≤ suc (length earlier) = callers_few (Says line ∷ earlier) in
    ap (λ ns. is_among ns n) (take_all lanes (callers (Says line ∷ earlier)) (omega (arith, few, less)))
    ∙ ap (λ ns. is_among ns n) asks ∙ among_with_one n (callers earlier) (is_among (callers earlier) n) refl

-- ## One line

one : (report : Report) → flat_map refused_by (report ∷ []) ≡ refused_by report
one report = append-nil (refused_by report)

as_it_is : (gate : Gate) (earlier : List (Reading Line)) (reading : Reading Line) → IsOpenAfter gate earlier → in_force (reading ∷ earlier) ≡ in_force earlier
    → ((name : List ℕ) → is_closed name (reading ∷ earlier) ≡ is_closed name earlier) → IsOpenAfter gate (reading ∷ earlier)
as_it_is gate earlier reading stands force same = record { model = force ∙ stands.model; closed = λ name. stands.closed name ∙ sym (same name); services = stands.services }

pub passes_model : (old new : Gate) (k : ℕ) (json : Data) (found : Option RefusedLine) → new.closed ≡ old.closed
    → Some (arc_value new.plan) ≡ newer_model json (read_model json) (Some (arc_value old.plan))
    → (KnowsServices (arc_value old.plan) old.services → KnowsServices (arc_value new.plan) new.services)
    → refused_by (model_answer k (read_model json)) ≡ listed found → Passes old k (Says (Model json)) found new
passes_model old new k json found closed model services due = λ earlier stands num. (
  (λ lanes less. one (model_answer (number_after earlier) (read_model json)) ∙ ap (λ j. refused_by (model_answer j (read_model json))) (sym num) ∙ due),
  record {
    model = ap (newer_model json (read_model json)) stands.model ∙ sym model;
    closed = λ name. ap (λ names. contains_text names name) closed ∙ stands.closed name;
    services = services stands.services;
  },
)

pub passes_request : (old new : Gate) (k : ℕ) (n s : List ℕ) (i : Data) (found : Option RefusedLine) → (Some (arc_value new.plan) ≡ Some (arc_value old.plan)) × (new.closed ≡ old.closed)
    → (KnowsServices (arc_value old.plan) old.services → KnowsServices (arc_value new.plan) new.services)
    → (KnowsServices (arc_value old.plan) old.services → (ticket : ℕ) → refused_by (task_answer k n (contains_text old.closed n) ticket (plan.request_of (arc_value old.plan) s i)) ≡ listed found)
    → Passes old k (Says (Request n s i)) found new
passes_request old new k n s i found same services due = λ earlier stands num. (
  (λ lanes less.
      let text = arc_value old.plan in
      let request = plan.request_of text s i in
      let ticket = length (requests n earlier) in
      let lane = has_its_lane lanes earlier (Request n s i) n (asks n s text i earlier stands.model) less in
      one (line_answer lanes earlier (Request n s i))
      ∙ ap refused_by (due_with_lane lanes earlier n s text i request stands.model lane refl)
      ∙ ap (λ b. refused_by (task_answer (number_after earlier) n b ticket request)) (sym (stands.closed n))
      ∙ ap (λ j. refused_by (task_answer j n (contains_text old.closed n) ticket request)) (sym num)
      ∙ due stands.services ticket),
  record {
    model = stands.model ∙ sym same.0;
    closed = λ name. ap (λ names. contains_text names name) same.1 ∙ stands.closed name;
    services = services stands.services;
  },
)

pub passes_close : (old new : Gate) (k : ℕ) (n : List ℕ) (found : Option RefusedLine) → (new.plan ≡ old.plan) × (new.services ≡ old.services)
    → ((other : List ℕ) → contains_text new.closed other ≡ (bytes_eq n other || contains_text old.closed other))
    → refused_by (close_answer k n true (contains_text old.closed n)) ≡ listed found → Passes old k (Says (Close n)) found new
passes_close old new k n found plan closes due = λ earlier stands num. (
  (λ lanes less.
      let lane = has_its_lane lanes earlier (Close n) n refl less in
      one (line_answer lanes earlier (Close n))
      ∙ ap (λ b. refused_by (close_answer (number_after earlier) n b (is_closed n earlier))) lane
      ∙ ap (λ b. refused_by (close_answer (number_after earlier) n true b)) (sym (stands.closed n))
      ∙ ap (λ j. refused_by (close_answer j n true (contains_text old.closed n))) (sym num)
      ∙ due),
  record {
    model = stands.model ∙ ap (λ p. Some (arc_value p)) (sym plan.0);
    closed = λ name. closes name ∙ ap (λ b. bytes_eq n name || b) (stands.closed name);
    services = subst (λ p. KnowsServices (arc_value p) new.services) (sym plan.0) (subst (KnowsServices (arc_value old.plan)) (sym plan.1) stands.services);
  },
)

pub passes_resize : (gate : Gate) (k : ℕ) (n : List ℕ) (capacity : ℕ) (found : Option RefusedLine)
    → refused_by (resize_answer k n capacity true (contains_text gate.closed n)) ≡ listed found → Passes gate k (Says (Resize n capacity)) found gate
passes_resize gate k n capacity found due = λ earlier stands num. (
  (λ lanes less.
      let lane = has_its_lane lanes earlier (Resize n capacity) n refl less in
      one (line_answer lanes earlier (Resize n capacity))
      ∙ ap (λ b. refused_by (resize_answer (number_after earlier) n capacity b (is_closed n earlier))) lane
      ∙ ap (λ b. refused_by (resize_answer (number_after earlier) n capacity true b)) (sym (stands.closed n))
      ∙ ap (λ j. refused_by (resize_answer j n capacity true (contains_text gate.closed n))) (sym num)
      ∙ due),
  as_it_is gate earlier (Says (Resize n capacity)) stands refl (λ name. refl),
)

-- ## What is decided, and then done

some_same : (a b : List ℕ) → Some a ≡ Some b → a ≡ b
some_same a b e = cc

module _ (k : ℕ) (what : Due (Arc (List ℕ) Global) (Unit {0})) (old new : Gate) (found : Option RefusedLine) (done : Settles k what old found new) where
  told_refused : (report : Report) → IsTold report what → (refused_by report ≡ listed found) × (new ≡ old)
  told_refused report is = let s = subst (λ w. Settles k w old found new) is.1 done in (sym (s.0 ∙ ap refused_by is.2), s.1)

  client_refused : (n : List ℕ) (seat : Seat) (why : Word) → IsRefused n seat why what → (refused k why ∷ [] ≡ listed found) × (new ≡ old)
  client_refused n seat why is = let s = subst (λ w. Settles k w old found new) is.1 done in (sym s.0, s.1)

-- a close of a client that was closed closes no other
closed_again : (closed : BTreeSet (String Global)) (n other : List ℕ) (b : Bool) → bytes_eq n other ≡ b → contains_text closed n ≡ true → contains_text closed other ≡ (b || contains_text closed other)
closed_again closed n other true same is = ap (contains_text closed) (sym (same_name n other same)) ∙ is
closed_again closed n other false same is = refl

module _ (k : ℕ) (what : Due (Arc (List ℕ) Global) (Unit {0})) (old mid new : Gate) (found : Option RefusedLine) (done : Settles k what mid found new) where
  -- to a request, whatever its ticket, there is this refusal or none
  task_refused : (n s : List ℕ) (seat : Seat) (b : Bool) (q : plan.Request) (ticket : ℕ) → IsTaskDue (λ _ _. Unit {0}) n s seat b q what
      → (refused_by (task_answer k n b ticket (Ok q)) ≡ listed found) × (new ≡ mid)
  task_refused n s seat true q ticket due = client_refused k what mid new found done n seat word.Closed due
  task_refused n s seat false q ticket due = let d = subst (λ w. Settles k w mid found new) due.3 done in (sym d.0, d.1)

  request_refused : (n s : List ℕ) (seat : Seat) (r : Result plan.Request TaskFault) (ticket : ℕ) → IsRequestDue (λ _ _. Unit {0}) k n s (Some seat) r what
      → (refused_by (task_answer k n seat.is_closed ticket r) ≡ listed found) × (new ≡ mid)
  request_refused n s seat (Err fault) ticket due = client_refused k what mid new found done n seat (task_fault_word fault) due
  request_refused n s seat (Ok q) ticket due = task_refused n s seat seat.is_closed q ticket due

  request_passed : (n s : List ℕ) (i : Data) (before : Gate) → (before.closed ≡ old.closed) × (Knows old → Knows before) → Some (arc_value before.plan) ≡ Some (arc_value old.plan) → Knows old
      → DecidesRequest (λ (a : Gate) (_ : List ℕ) (b : Gate). b ≡ a) IsSeat (λ _ _. Unit {0}) (Some (arc_value old.plan)) before k n s i what mid → Passes old k (Says (Request n s i)) found new
  request_passed n s i before keeps force knows (inl d) = let none = d.0 in cc
  request_passed n s i before keeps force knows (inr d) = seated d.2 d.3.1 d.4
    where
      seated : (seat : Option Seat) → IsSeat mid n seat → IsRequestDue (λ _ _. Unit {0}) k n s seat (plan.request_of d.0 s i) what → Passes old k (Says (Request n s i)) found new
      seated None is due = absurd is
      seated (Some seat) is due =
          let same : new ≡ before = (request_refused n s seat (plan.request_of d.0 s i) 0 due).1 ∙ d.3.0 in
          let closed : seat.is_closed ≡ contains_text old.closed n = is ∙ ap (λ g. contains_text g.closed n) d.3.0 ∙ ap (λ c. contains_text c n) keeps.0 in
          let text : d.0 ≡ arc_value old.plan = some_same d.0 (arc_value old.plan) (sym d.1) in
          passes_request old new k n s i found (ap (λ g. Some (arc_value g.plan)) same ∙ force, ap (λ g. g.closed) same ∙ keeps.0)
          (λ h. subst Knows (sym same) (keeps.1 h))
          (λ h ticket. ap (λ b. refused_by (task_answer k n b ticket (plan.request_of (arc_value old.plan) s i))) (sym closed)
          ∙ ap (λ t. refused_by (task_answer k n seat.is_closed ticket (plan.request_of t s i))) (sym text)
          ∙ (request_refused n s seat (plan.request_of d.0 s i) ticket due).0)

  close_passed : (n : List ℕ) (seat : Option Seat) → mid ≡ old → IsSeat mid n seat → IsCloseDue k n seat what → Passes old k (Says (Close n)) found new
  close_passed n None same is due = absurd is
  close_passed n (Some seat) same is due = by_lane seat.is_closed refl due
    where
      closed : seat.is_closed ≡ contains_text old.closed n
      closed = is ∙ ap (λ g. contains_text g.closed n) same

      by_lane : (b : Bool) → seat.is_closed ≡ b → IsOpenCloseDue n seat b what → Passes old k (Says (Close n)) found new
      by_lane true e due =
          let v = client_refused k what mid new found done n seat word.Closed due in
          let all : new ≡ old = v.1 ∙ same in
          let there : contains_text old.closed n ≡ true = sym closed ∙ e in
          passes_close old new k n found (ap (λ g. g.plan) all, ap (λ g. g.services) all)
          (λ other. ap (λ g. contains_text g.closed other) all ∙ closed_again old.closed n other (bytes_eq n other) refl there)
          (ap (λ b. refused_by (close_answer k n true b)) there ∙ v.0)
      by_lane false e due =
          let d = subst (λ w. Settles k w mid found new) due.1 done in
          passes_close old new k n found (d.1 ∙ ap (λ g. g.plan) same, d.2 ∙ ap (λ g. g.services) same)
          (λ other. d.3 other ∙ ap (λ m. bytes_eq m other || contains_text mid.closed other) due.2 ∙ ap (λ g. bytes_eq n other || contains_text g.closed other) same)
          (ap (λ b. refused_by (close_answer k n true b)) (sym closed ∙ e) ∙ sym d.0)

  resize_passed : (n : List ℕ) (capacity : ℕ) (seat : Option Seat) → mid ≡ old → IsSeat mid n seat → IsResizeDue k n capacity seat what → Passes old k (Says (Resize n capacity)) found new
  resize_passed n capacity None same is due = absurd is
  resize_passed n capacity (Some seat) same is due = by_lane seat.is_closed (is_no_capacity capacity) refl refl due
    where
      closed : seat.is_closed ≡ contains_text old.closed n
      closed = is ∙ ap (λ g. contains_text g.closed n) same

      passed_as : (b : Bool) → seat.is_closed ≡ b → refused_by (resize_answer k n capacity true b) ≡ listed found → new ≡ mid → Passes old k (Says (Resize n capacity)) found new
      passed_as b e is all =
          subst (λ g. Passes old k (Says (Resize n capacity)) found g) (sym (all ∙ same))
          (passes_resize old k n capacity found (ap (λ b. refused_by (resize_answer k n capacity true b)) (sym closed ∙ e) ∙ is))

      by_lane : (b c : Bool) → seat.is_closed ≡ b → is_no_capacity capacity ≡ c → IsOpenResizeDue n seat capacity b c what → Passes old k (Says (Resize n capacity)) found new
      by_lane true c e none due = let v = client_refused k what mid new found done n seat word.Closed due in passed_as true e v.0 v.1
      by_lane false true e none due =
          let v = client_refused k what mid new found done n seat word.Capacity due in passed_as false e (ap (λ b. refused_by (capacity_answer k n capacity b)) none ∙ v.0) v.1
      by_lane false false e none due =
          let d = subst (λ w. Settles k w mid found new) due.1 done in passed_as false e (ap (λ b. refused_by (capacity_answer k n capacity b)) none ∙ sym d.0) d.1

  model_passed : {M : Type 0} (json : Data) (r : Result M ModelFault) → (mid.closed ≡ old.closed) × (Knows old → Knows mid) → Some (arc_value mid.plan) ≡ Some (arc_value old.plan) → IsModelDue arc_value k json r what
      → (new.closed ≡ old.closed) × (Some (arc_value new.plan) ≡ newer_model json r (Some (arc_value old.plan))) × (Knows old → Knows new) × (refused_by (model_answer k r) ≡ listed found)
  model_passed json (Ok m) keeps force is =
      let d = subst (λ w. Settles k w mid found new) is.1 done in (d.1 ∙ keeps.0, ap Some (d.2 ∙ is.2), (λ h. d.3 (arc_value new.plan)), sym d.0)
  model_passed json (Err f) keeps force is =
      let v = told_refused k what mid new found done (Faulty k (fault_word f)) is in
      (ap (λ g. g.closed) v.1 ∙ keeps.0, ap (λ g. Some (arc_value g.plan)) v.1 ∙ force, (λ h. subst Knows (sym v.1) (keeps.1 h)), v.0)

pub decided : (old mid new : Gate) (k : ℕ) (line : Line) (what : Due (Arc (List ℕ) Global) (Unit {0})) (found : Option RefusedLine)
    → Decides arc_value (λ (g : Gate). Some (arc_value g.plan)) Knows (λ (a b : Gate). (b.closed ≡ a.closed) × (Knows a → Knows b)) (λ (a : Gate) (_ : List ℕ) (b : Gate). b ≡ a) IsSeat (λ _ _. Unit {0}) old k line what mid
    → Settles k what mid found new → Passes old k (Says line) found new
decided old mid new k (Model json) what found d done =
    let v = model_passed k what old mid new found done json (read_model json) d.0 d.1 d.2 in passes_model old new k json found v.0 v.1 v.2 v.3
decided old mid new k (Request n s i) what found d done = λ earlier stands num.
    request_passed k what old mid new found done n s i d.0 d.1 d.2 stands.services (d.3 stands.services) earlier stands num
decided old mid new k (Close n) what found d done = close_passed k what old mid new found done n d.0 d.1.0 d.1.1 d.2
decided old mid new k (Resize n capacity) what found d done = resize_passed k what old mid new found done n capacity d.0 d.1.0 d.1.1 d.2

as_or : (a b : Bool) → cond a true b ≡ (a || b)
as_or true b = refl
as_or false b = refl

pub one_more_closed : (old new : BTreeSet (String Global)) (name : String Global) → Updates string_cmp old new name true
    → (other : List ℕ) → contains_text new other ≡ (bytes_eq (string_bytes name) other || contains_text old other)
one_more_closed old new name put other = btree_set_updates_text (string_bytes name) old new true put other ∙ as_or (bytes_eq (string_bytes name) other) (contains_text old other)

-- ## Lines by their bytes

pub passes_said : (old new : Gate) (k : ℕ) (heard : Heard) (line : asking.Line) (it : List ℕ) (found : Option RefusedLine) → IsHeardAs it heard → IsLineOf heard (Some line)
    → Passes old k (Says (line_view line)) found new → PassesText old k it found new
passes_said old new k (heard.Object members) line it found h says f = (Says (line_view line), (h.0, h.1, h.2, h.3 ∙ ap Some (sym says.0), says.1), f)
passes_said old new k heard.Long line it found h says f = absurd says
passes_said old new k heard.Blank line it found h says f = absurd says
passes_said old new k heard.Syntax line it found h says f = absurd says
passes_said old new k heard.Other line it found h says f = absurd says

refuses : (gate : Gate) (k : ℕ) (reading : Reading Line) (found : Option RefusedLine) (due : ℕ → List RefusedLine)
    → ((lanes : ℕ) (earlier : List (Reading Line)) → refused_at lanes earlier reading ≡ due (number_after earlier)) → listed found ≡ due k
    → ((earlier : List (Reading Line)) → in_force (reading ∷ earlier) ≡ in_force earlier)
    → ((earlier : List (Reading Line)) (name : List ℕ) → is_closed name (reading ∷ earlier) ≡ is_closed name earlier) → Passes gate k reading found gate
refuses gate k reading found due at is force same = λ earlier stands num. (
  (λ lanes less. at lanes earlier ∙ ap due (sym num) ∙ sym is),
  as_it_is gate earlier reading stands (force earlier) (same earlier),
)

-- what is none of the lines
pub passes_unread : (gate : Gate) (k : ℕ) (heard : Heard) (it : List ℕ) (found : Option RefusedLine) → IsHeardAs it heard → IsLineOf heard None → listed found ≡ unread k heard
    → PassesText gate k it found gate
passes_unread gate k heard.Long it found h none is = (Long, h, refuses gate k Long found (λ j. refused j word.Long ∷ []) (λ lanes earlier. refl) is (λ earlier. refl) (λ earlier name. refl))
passes_unread gate k heard.Blank it found h none is = (Blank, h, refuses gate k Blank found (λ j. []) (λ lanes earlier. refl) is (λ earlier. refl) (λ earlier name. refl))
passes_unread gate k heard.Syntax it found h none is = (Syntax, h, refuses gate k Syntax found (λ j. refused j word.Syntax ∷ []) (λ lanes earlier. refl) is (λ earlier. refl) (λ earlier name. refl))
passes_unread gate k heard.Other it found h none is = (
  Shape,
  (h.0, h.1, h.2, (h.3.0, h.3.1, no_line h.3.0 h.3.2)),
  refuses gate k Shape found (λ j. refused j word.Shape ∷ []) (λ lanes earlier. refl) is (λ earlier. refl) (λ earlier name. refl),
)
passes_unread gate k (heard.Object members) it found h none is = (
  Shape,
  (h.0, h.1, h.2, (_, h.3, λ line lawful same. none line (same, lawful))),
  refuses gate k Shape found (λ j. refused j word.Shape ∷ []) (λ lanes earlier. refl) is (λ earlier. refl) (λ earlier name. refl),
)

-- ## All lines

pub opens : (gate : Gate) (d : Data) → is_ok (read_model d) ≡ true → arc_value gate.plan ≡ compact_text d → gate.closed.keys ≡ [] → ((text : List ℕ) → KnowsServices text gate.services)
    → IsOpenAfter gate (Says (Model d) ∷ [])
opens gate d ok is empty services = record {
  model = (loaded_model d (read_model d) None 0 ok).0 ∙ ap Some (sym is);
  closed = λ name. rw empty refl;
  services = services (arc_value gate.plan);
}

pub one_more_line : (lanes : ℕ) (earlier : List (Reading Line)) (reading : Reading Line) → refused_lines lanes (reading ∷ earlier) ≡ refused_lines lanes earlier ++ refused_at lanes earlier reading
one_more_line lanes earlier reading = flat_map-append refused_by (answers lanes earlier) (answer lanes earlier reading)
