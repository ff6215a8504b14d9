-- One turn more.
use mathlib.Core.HLevel.{is_prop→PathP}
use Rattle.std.proofs.Math.Bridge.{le_prop}
use Rattle.std.proofs.Common.{◌≡◌, ◌≤◌, ℕ, suc, ◌+◌, Bool, true, false, if◌then◌else◌, cond, not, bytes_eq, string_bytes, slice_get, option_map, List, [], ◌∷◌, ◌++◌, length, map, Option, Some, None, Result, Ok, Err, is_ok, ◌⊎◌, inl, inr, refl, ap, sym, ◌∙◌, subst, arith, append_assoc, append-nil}
use Rattle.std.specs.List.{flat_map, position_or_len}
use Rattle.std.proofs.lemmas.Grind.{flat_map-append}
use Rattle.std.proofs.lemmas.List.{map-append, length-map}
use Rattle.serde_json.specs.Data.{Data}
use Rattle.serde_json.specs.Written.{compact_text}
use Rattle.box_core.specs.Answer.{Ticketed}
use Rattle.box_core.specs.History as broker
use Rattle.box_core.specs.Own.{AnswersOwn}
use Rattle.box_core.specs.declared.faults.Answered.{Answered}
use Rattle.box_core.specs.declared.faults.Answered.TheVariants as answered
use Rattle.box_core.specs.Table.{Reports, LegalAfter, Legal, Step, ForClient, AnswerReport}
use Rattle.box_core.specs.Views.{report_of}
use Rattle.box_core.specs.declared.event.Report.{Report}
use Rattle.box_core.specs.declared.event.Report.TheVariants as reports
use Rattle.box_core.specs.Mail.{Mail, Status, status_in, Unknown, Waiting, Running, Settled, status_by, standing_at}
use Rattle.box_core.proofs.Bridge.{continues_one, continues_none, standing_of_history, accepted_none}
use Rattle.dmn_plan.specs.Request.{Request, request_result}
use Rattle.dmn_plan.specs.ReadModel.{read_model}
use Rattle.feel_value.specs.declared.feel.Outcome.{Outcome}
use Rattle.desk_replaying.specs.Line.{Line, Model, Open, Answer}
use Rattle.desk_wire.specs.Reading.{Says}
use Rattle.desk_replaying.specs.State.{Deed, Loaded, Faulty, Asked, Refused, Turn, pair_of, history, opened_by, opened, newer, in_force_after, in_force, taken_work}
use Rattle.desk_replaying.specs.Due.{Due, Loads, Faults, Refuses, Asks, due_to, due_to_model, due_to_open, due_to_work, due_to_answer, IsDone, IsDue, number_of, client_of, asks_with, MayLackMemory, Follows}
use Rattle.desk_replaying.specs.Reports.{said_of}
use Rattle.desk_wire.specs.Reports as wire
use Rattle.desk_wire.specs.Reports.{texts_of}
use Rattle.desk_replaying.specs.Script.{AreInOrder}
use Rattle.desk_replaying.specs.StateView.{Stands, HasEffect, names_of, number_in, client_in, model_of, AsksFor, Answers, AnswersAt, AnswersBy, Opens, OpensAs, opened_name, LoadsModel, IsUnmade, After, TakesTurn}
use Rattle.dmn_plan.specs.declared.fault.ModelFault.{ModelFault}
use Rattle.desk_replaying.specs.declared.state.State.{State}
use Rattle.desk_replaying.specs.declared.state.Effect.{Effect}
use Rattle.desk_replaying.specs.declared.state.Effect.TheVariants as effect
use Rattle.desk_wire.specs.declared.word.Word.{Word}
use Rattle.desk_wire.specs.declared.word.Word.TheVariants as word
use Rattle.model_marks.specs.declared.mark.Catalog.{Ghosts}

-- ---- what is read off the turns

history-more : (turns : List Turn) (turn : Turn) → history (turns ++ turn ∷ []) ≡ history turns ++ pair_of turn.deed
history-more turns turn =
    flat_map-append (λ (t : Turn). pair_of t.deed) turns (turn ∷ []) ∙ ap (λ l. history turns ++ l) (append-nil (pair_of turn.deed))

opened-more : (turns : List Turn) (turn : Turn) → opened (turns ++ turn ∷ []) ≡ opened turns ++ opened_by turn.reading turn.deed
opened-more turns turn =
    flat_map-append (λ (t : Turn). opened_by t.reading t.deed) turns (turn ∷ []) ∙ ap (λ l. opened turns ++ l) (append-nil (opened_by turn.reading turn.deed))

in_force-more : (model : Option (List ℕ)) (turns : List Turn) (turn : Turn) → in_force_after model (turns ++ turn ∷ []) ≡ newer (in_force_after model turns) turn.deed
in_force-more model [] turn = refl
in_force-more model (t ∷ turns) turn = in_force-more (newer model t.deed) turns turn

-- ---- the state stands after one turn more

pub one_more : {C : Type 0} {G : Ghosts C} (old new : State C G) (turns : List Turn) (turn : Turn) → Stands old turns
    → Legal (λ request. request) request_result (history turns ++ pair_of turn.deed)
    → broker.state request_result (history turns ++ pair_of turn.deed) ≡ new.broker
    → names_of new ≡ names_of old ++ opened_by turn.reading turn.deed
    → model_of new ≡ newer (model_of old) turn.deed
    → Stands new (turns ++ turn ∷ [])
one_more old new turns turn stands legal state names model = record {
  legal = rw (history-more turns turn) legal;
  mails = rw (history-more turns turn) state;
  names = names ∙ ap (λ ns. ns ++ opened_by turn.reading turn.deed) stands.names ∙ sym (opened-more turns turn);
  model = model ∙ ap (λ m. newer m turn.deed) stands.model ∙ sym (in_force-more None turns turn);
}

-- where the broker isn't asked
pub quiet : {C : Type 0} {G : Ghosts C} (old new : State C G) (turns : List Turn) (turn : Turn) → Stands old turns
    → pair_of turn.deed ≡ [] → opened_by turn.reading turn.deed ≡ []
    → new.broker ≡ old.broker → names_of new ≡ names_of old → model_of new ≡ newer (model_of old) turn.deed
    → Stands new (turns ++ turn ∷ [])
quiet old new turns turn stands pair none broker names model =
    let nothing : history turns ++ pair_of turn.deed ≡ history turns = ap (λ l. history turns ++ l) pair ∙ append-nil (history turns) in
    one_more old new turns turn stands
    (rw nothing stands.legal)
    (rw nothing (stands.mails ∙ sym broker))
    (names ∙ sym (append-nil (names_of old)) ∙ ap (λ l. names_of old ++ l) (sym none))
    model

-- the last report of a legal history is due after those before it
legal_last : (x h : broker.History Request Outcome) (e : broker.Event Request) (r : broker.Report Request Outcome)
    → LegalAfter (λ request. request) request_result x (h ++ (e, r) ∷ []) → Reports (λ request. request) request_result (x ++ h) e r
legal_last x [] e r legal = rw (append-nil x) legal.0
legal_last x (p ∷ h) e r legal = rw (append_assoc x (p ∷ []) h) at (legal_last (x ++ p ∷ []) h e r legal.1)

-- where the broker is asked
module _ {C : Type 0} {G : Ghosts C} (old new : State C G) (turns : List Turn) (stands : Stands old turns) (event : broker.Event Request) (report : broker.Report Request Outcome)
    (step : Step (λ request. request) request_result old.broker event report new.broker) where
  longer : broker.History Request Outcome
  longer = history turns ++ (event, report) ∷ []

  goes_on : Legal (λ (request : Request). request) request_result (history turns ++ (event, report) ∷ [])
      × (broker.state request_result (history turns ++ (event, report) ∷ []) ≡ new.broker)
  goes_on =
      continues_one (λ (request : Request). request) request_result old.broker [] old.broker event report new.broker
      (continues_none (λ (request : Request). request) request_result old.broker) step (history turns) stands.legal stands.mails

  pub is_due : Reports (λ request. request) request_result (history turns) event report
  is_due = legal_last [] (history turns) event report goes_on.0

  pub asked : (turn : Turn) → turn.deed ≡ Asked event report
      → names_of new ≡ names_of old ++ opened_by turn.reading turn.deed → model_of new ≡ model_of old
      → Stands new (turns ++ turn ∷ [])
  asked turn deed names model =
      let pair : pair_of turn.deed ≡ (event, report) ∷ [] = ap pair_of deed in
      one_more old new turns turn stands (rw pair goes_on.0) (rw pair goes_on.1) names (rw deed model)

-- ---- what is due

-- what the state has of names and model is what is read off the turns
same_due : {C : Type 0} {G : Ghosts C} (old : State C G) (turns : List Turn) (says : Line) → Stands old turns
    → due_to (names_of old) (model_of old) (history turns) says ≡ due_to (opened turns) (in_force turns) (history turns) says
same_due old turns says stands =
    ap (λ names. due_to names (model_of old) (history turns) says) stands.names ∙ ap (λ model. due_to (opened turns) model (history turns) says) stands.model

abbrev IsDueTo : {C : Type 0} {G : Ghosts C} → State C G → Line → Due → Type 0
IsDueTo old says due = (turns : List Turn) → Stands old turns → due_to (names_of old) (model_of old) (history turns) says ≡ due

abbrev OpensNothing : Line → Type 0
OpensNothing says = (event : broker.Event Request) (report : broker.Report Request Outcome) → opened_by (Says says) (Asked event report) ≡ []

no_event : broker.Event Request
no_event = broker.AddClient 0

done : {C : Type 0} {G : Ghosts C} (old : State C G) (turns : List Turn) (says : Line) (due : Due) (deed : Deed) → Stands old turns
    → due_to (names_of old) (model_of old) (history turns) says ≡ due → IsDone (history turns) due deed → IsDue turns says deed
done old turns says due deed stands is d =
    let e : due ≡ due_to (opened turns) (in_force turns) (history turns) says = sym is ∙ same_due old turns says stands in
    let P : Due → Type 0 = λ x. IsDone (history turns) x deed in
    inl (subst P e d)

same_names : {C : Type 0} {G : Ghosts C} (old new : State C G) → new.names ≡ old.names → names_of new ≡ names_of old
same_names old new e = rw e refl

same_model : {C : Type 0} {G : Ghosts C} (old new : State C G) → new.plan ≡ old.plan → model_of new ≡ model_of old
same_model old new e = rw e refl

-- a name's number is found among the names as they are held
position_or_len-map : {X Y : Type 0} (p : Y → Bool) (f : X → Y) (xs : List X) → position_or_len p (map f xs) ≡ position_or_len (λ x. p (f x)) xs
position_or_len-map p f [] = refl
position_or_len-map p f (x ∷ xs) = ap (λ n. cond (not (p (f x))) (1 + n) 0) (position_or_len-map p f xs)

number_same : {C : Type 0} {G : Ghosts C} (state : State C G) (name : List ℕ) → number_of (names_of state) name ≡ number_in state name
number_same state name =
    let place = position_or_len-map (λ (opened : List ℕ). bytes_eq opened name) string_bytes state.names.items in
    let count = length-map state.names.items string_bytes in
    rw (place, count) refl

pub client_same : {C : Type 0} {G : Ghosts C} (state : State C G) (name : List ℕ) → client_of (names_of state) name ≡ client_in state name
client_same state name = rw (number_same state name, length-map state.names.items string_bytes) refl

-- the broker is asked
pub heard_asked : {C : Type 0} {G : Ghosts C} (old new : State C G) (says : Line) (event : broker.Event Request) (eff : Effect C) → OpensNothing says
    → IsDueTo old says (Asks event) → AsksFor old event eff new → HasEffect old says eff new
heard_asked old new says event (effect.Reported report) none is h = λ turns stands.
    let due : IsDue turns says (Asked event (report_of report)) =
    done old turns says (Asks event) (Asked event (report_of report)) stands (is turns stands) (report_of report, is_due old new turns stands event (report_of report) h.step, refl) in (
      event,
      [],
      due,
      λ k bytes. asked old new turns stands event (report_of report) h.step (record { number = k; line = bytes; reading = Says says; deed = Asked event (report_of report) }) refl
          (same_names old new h.names ∙ sym (append-nil (names_of old)) ∙ ap (λ l. names_of old ++ l) (sym (none event (report_of report)))) (same_model old new h.plan),
    )
heard_asked old new says event effect.Loaded none is h = absurd h
heard_asked old new says event (effect.Faulty f) none is h = absurd h
heard_asked old new says event (effect.Refused w) none is h = absurd h

opens_none : (says : Line) (why : Word) → opened_by (Says says) (Refused why) ≡ []
opens_none (Model json) why = refl
opens_none line why = refl

-- the front refuses
heard_refused : {C : Type 0} {G : Ghosts C} (old new : State C G) (says : Line) (why : Word) → IsDueTo old says (Refuses why) → new ≡ old → HasEffect old says (effect.Refused why) new
heard_refused old new says why is same = λ turns stands. (
  no_event,
  [],
  done old turns says (Refuses why) (Refused why) stands (is turns stands) refl,
  λ k bytes. quiet old new turns (record { number = k; line = bytes; reading = Says says; deed = Refused why }) stands refl (opens_none says why)
      (ap (λ (d : State _ _). d.broker) same) (ap names_of same) (ap model_of same),
)

-- memory was refused
heard_lack : {C : Type 0} {G : Ghosts C} (old new : State C G) (says : Line) → MayLackMemory says → new ≡ old → HasEffect old says (effect.Refused word.Memory) new
heard_lack old new says may same = λ turns stands. (
  no_event,
  [],
  inr (may, refl),
  λ k bytes. quiet old new turns (record { number = k; line = bytes; reading = Says says; deed = Refused word.Memory }) stands refl (opens_none says word.Memory)
      (ap (λ (d : State _ _). d.broker) same) (ap names_of same) (ap model_of same),
)

-- memory was refused, or what is due is a refusal
heard_unanswered : {C : Type 0} {G : Ghosts C} (old new : State C G) (says : Line) (due : Due) (why : Word) → MayLackMemory says → IsDueTo old says due
    → (why ≡ word.Memory) ⊎ (due ≡ Refuses why) → new ≡ old → HasEffect old says (effect.Refused why) new
heard_unanswered old new says due why may is (inl lack) same = rw lack (heard_lack old new says may same)
heard_unanswered old new says due why may is (inr refuses) same = heard_refused old new says why (rw refuses at is) same

-- the broker is asked, or the line is refused
pub heard_answers : {C : Type 0} {G : Ghosts C} (old new : State C G) (says : Line) (due : Due) (eff : Effect C) → OpensNothing says → MayLackMemory says
    → IsDueTo old says due → Answers old due eff new → HasEffect old says eff new
heard_answers old new says due (effect.Reported report) none may is h =
    heard_asked old new says h.0 (effect.Reported report) none (rw h.1 at is) h.2
heard_answers old new says due (effect.Refused why) none may is h = heard_unanswered old new says due why may is h.0 h.1
heard_answers old new says due effect.Loaded none may is h = absurd h
heard_answers old new says due (effect.Faulty f) none may is h = absurd h

-- a model is read
read_ok : {M : Type 0} (json : Data) (r : Result M ModelFault) → is_ok r ≡ true → due_to_model json r ≡ Loads (compact_text json)
read_ok json (Ok m) h = refl
read_ok json (Err f) h = let wrong : ⊥ = cc in absurd wrong

pub heard_load : {C : Type 0} {G : Ghosts C} (old new : State C G) (json : Data) (eff : Effect C) → LoadsModel old json eff new → HasEffect old (Model json) eff new
heard_load old new json effect.Loaded h = λ turns stands.
    let text = compact_text json in (
      no_event,
      text,
      done old turns (Model json) (Loads text) (Loaded text) stands (read_ok json (read_model json) h.0) refl,
      λ k bytes. quiet old new turns (record { number = k; line = bytes; reading = Says (Model json); deed = Loaded text }) stands refl refl
          h.2 (same_names old new h.3) h.1,
    )
heard_load old new json (effect.Faulty f) h = λ turns stands. (
  no_event,
  [],
  done old turns (Model json) (Faults f) (Faulty f) stands (ap (due_to_model json) h.0) refl,
  λ k bytes. quiet old new turns (record { number = k; line = bytes; reading = Says (Model json); deed = Faulty f }) stands refl refl
      (ap (λ (d : State _ _). d.broker) h.1) (ap names_of h.1) (ap model_of h.1),
)
heard_load old new json (effect.Refused why) h = rw h.0 (heard_lack old new (Model json) tt h.1)
heard_load old new json (effect.Reported r) h = absurd h

-- a name is opened
opened_same : (name : List ℕ) (n : ℕ) (event : broker.Event Request) (r : broker.Report Request Outcome)
    → opened_by (Says (Open name n)) (Asked event r) ≡ opened_name name r
opened_same name n event (broker.Added client) = refl
opened_same name n event r = refl

heard_opened : {C : Type 0} {G : Ghosts C} (old new : State C G) (name : List ℕ) (n : ℕ) (o : Option ℕ) (eff : Effect C) → number_in old name ≡ o
    → OpensAs old name n o eff new → HasEffect old (Open name n) eff new
heard_opened old new name n (Some client) eff found h =
    rw h.0 (heard_refused old new (Open name n) word.Present (λ turns stands. ap (λ o. due_to_open o n) (number_same old name ∙ found)) h.1)
heard_opened old new name n None (effect.Reported report) found h = λ turns stands.
    let event : broker.Event Request = broker.AddClient n in
    let told = report_of report in
    let due : IsDue turns (Open name n) (Asked event told) =
    done old turns (Open name n) (Asks event) (Asked event told) stands (ap (λ o. due_to_open o n) (number_same old name ∙ found)) (told, is_due old new turns stands event told h.0, refl) in (
      event,
      [],
      due,
      λ k bytes. asked old new turns stands event told h.0 (record { number = k; line = bytes; reading = Says (Open name n); deed = Asked event told }) refl
          (h.1 ∙ ap (λ l. names_of old ++ l) (sym (opened_same name n event told))) (same_model old new h.2),
    )
heard_opened old new name n None effect.Loaded found h = absurd h
heard_opened old new name n None (effect.Faulty f) found h = absurd h
heard_opened old new name n None (effect.Refused why) found h = absurd h

pub heard_open : {C : Type 0} {G : Ghosts C} (old new : State C G) (name : List ℕ) (n : ℕ) (eff : Effect C) → Opens old name n eff new → HasEffect old (Open name n) eff new
heard_open old new name n eff h = heard_opened old new name n (number_in old name) eff refl h

-- the work that was taken answers
taken_running : (o : Option Request) (b : Bool) (k : Option Request) (work : Request) → status_by o b k ≡ Running work → (if b then o else None) ≡ Some work
taken_running (Some w) true None work h = cc
taken_running (Some w) true (Some x) work h = cc
taken_running (Some w) false k work h = cc
taken_running None b k work h = cc

taken_settled : (o : Option Request) (b : Bool) (k : Option Request) → status_by o b k ≡ Settled → (work : Request) × ((if b then o else None) ≡ Some work)
taken_settled (Some w) true (Some x) h = (w, refl)
taken_settled (Some w) true None h = cc
taken_settled (Some w) false k h = cc
taken_settled None b k h = cc

untaken_waiting : (o : Option Request) (b : Bool) (k : Option Request) (work : Request) → status_by o b k ≡ Waiting work → (if b then o else None) ≡ None
untaken_waiting (Some w) false k work h = refl
untaken_waiting (Some w) true None work h = cc
untaken_waiting (Some w) true (Some x) work h = cc
untaken_waiting None b k work h = cc

untaken_none : (b : Bool) (o : Option Request) → o ≡ None → (if b then o else None) ≡ None
untaken_none true o e = e
untaken_none false o e = refl

untaken_unknown : (o : Option Request) (b : Bool) (k : Option Request) → status_by o b k ≡ Unknown → (if b then o else None) ≡ None
untaken_unknown None b k h = untaken_none b None refl
untaken_unknown (Some w) false k h = cc
untaken_unknown (Some w) true None h = cc
untaken_unknown (Some w) true (Some x) h = cc

status_known : (st : Status Request) (o : Option ℕ) (s : Status Request) → option_map (λ (n : ℕ). st) o ≡ Some s → st ≡ s
status_known st None s h = cc
status_known st (Some n) s h = cc

client_none : (st : Status Request) (o : Option ℕ) → option_map (λ (n : ℕ). st) o ≡ None → o ≡ None
client_none st None h = refl
client_none st (Some n) h = cc

taken_none : (past : broker.History Request Outcome) (c t : ℕ) → broker.accepted past c ≡ [] → taken_work past c t ≡ None
taken_none past c t none =
    untaken_none (broker.is_taken past c t) (slice_get (broker.accepted past c) t) (ap (λ works. slice_get works t) none)

settled_reports : (t : ℕ) (work : Request) (o : Option (Mail Request Outcome)) → option_map (λ (mail : Mail Request Outcome). status_in mail t) o ≡ Some Settled
    → ForClient {W = Request} {O = Outcome} o (λ (mail : Mail Request Outcome). AnswerReport {O = Outcome} (λ (r : Request). r) (status_in mail t) work broker.Repeated) broker.Repeated
settled_reports t work None h = let wrong : ⊥ = cc in absurd wrong
settled_reports t work (Some mail) h =
    let e : status_in mail t ≡ Settled = cc in
    let P : Status Request → Type 0 = λ s. AnswerReport {O = Outcome} (λ (r : Request). r) s work broker.Repeated in
    subst P (sym e) refl

module _ {C : Type 0} {G : Ghosts C} (old new : State C G) (name : List ℕ) (t c : ℕ) (found : number_in old name ≡ Some c) where
  due_taken : (turns : List Turn) → due_to (names_of old) (model_of old) (history turns) (Answer name t) ≡ due_to_work c t (taken_work (history turns) c t)
  due_taken turns = ap (λ o. due_to_answer (history turns) t o) (number_same old name ∙ found)

  in_history : (turns : List Turn) → Stands old turns → (s : Option (Status Request)) → standing_at old.broker c t ≡ s
      → option_map (λ (n : ℕ). broker.status (history turns) c t) (slice_get (broker.added (history turns)) c) ≡ s
  in_history turns stands s at =
      sym (standing_of_history (λ (r : Request). r) request_result (history turns) stands.legal c t) ∙ ap (λ mails. standing_at mails c t) stands.mails ∙ at

  known : (turns : List Turn) → Stands old turns → (s : Status Request) → standing_at old.broker c t ≡ Some s → broker.status (history turns) c t ≡ s
  known turns stands s at = status_known (broker.status (history turns) c t) (slice_get (broker.added (history turns)) c) s (in_history turns stands (Some s) at)

  strange : (eff : Effect C) → ((turns : List Turn) → Stands old turns → taken_work (history turns) c t ≡ None)
      → Answers old (Refuses word.Strange) eff new → HasEffect old (Answer name t) eff new
  strange eff none h =
      heard_answers old new (Answer name t) (Refuses word.Strange) eff (λ e r. refl) tt
      (λ turns stands. due_taken turns ∙ ap (due_to_work c t) (none turns stands)) h

  repeated : (report : Report Request Outcome) → standing_at old.broker c t ≡ Some Settled → report_of report ≡ broker.Repeated → new ≡ old
      → HasEffect old (Answer name t) (effect.Reported report) new
  repeated report at told same = λ turns stands.
      let past = history turns in
      let w = taken_settled (slice_get (broker.accepted past c) t) (broker.is_taken past c t) (broker.kept past c t) (known turns stands Settled at) in
      let event : broker.Event Request = broker.Answer c (record { ticket = t; work = w.0 }) in
      let step : Step (λ (r : Request). r) request_result old.broker event (report_of report) new.broker =
      rw told (record { reported = settled_reports t w.0 (slice_get old.broker c) at; left = ap (λ (d : State _ _). d.broker) same }) in
      let due : IsDue turns (Answer name t) (Asked event (report_of report)) =
      done old turns (Answer name t) (Asks event) (Asked event (report_of report)) stands
      (due_taken turns ∙ ap (due_to_work c t) w.1) (report_of report, is_due old new turns stands event (report_of report) step, refl) in (
        event,
        [],
        due,
        λ k bytes. asked old new turns stands event (report_of report) step (record { number = k; line = bytes; reading = Says (Answer name t); deed = Asked event (report_of report) }) refl
            (ap names_of same ∙ sym (append-nil (names_of old))) (ap model_of same),
      )

  heard_at : (s : Option (Status Request)) (eff : Effect C) → standing_at old.broker c t ≡ s → AnswersAt old c t s eff new → HasEffect old (Answer name t) eff new
  heard_at (Some (Running work)) eff at h =
      heard_answers old new (Answer name t) (Asks (broker.Answer c (record { ticket = t; work = work }))) eff (λ e r. refl) tt
      (λ turns stands. due_taken turns ∙ ap (due_to_work c t)
      (taken_running (slice_get (broker.accepted (history turns) c) t) (broker.is_taken (history turns) c t) (broker.kept (history turns) c t) work (known turns stands (Running work) at))) h
  heard_at (Some Settled) (effect.Reported report) at h = repeated report at h.0 h.1
  heard_at (Some Settled) (effect.Refused why) at h = rw h.0 (heard_lack old new (Answer name t) tt h.1)
  heard_at (Some Settled) effect.Loaded at h = absurd h
  heard_at (Some Settled) (effect.Faulty f) at h = absurd h
  heard_at (Some Unknown) eff at h =
      strange eff (λ turns stands. untaken_unknown (slice_get (broker.accepted (history turns) c) t) (broker.is_taken (history turns) c t) (broker.kept (history turns) c t) (known turns stands Unknown at)) h
  heard_at (Some (Waiting work)) eff at h =
      strange eff (λ turns stands. untaken_waiting (slice_get (broker.accepted (history turns) c) t) (broker.is_taken (history turns) c t) (broker.kept (history turns) c t) work (known turns stands (Waiting work) at)) h
  heard_at None eff at h =
      strange eff (λ turns stands. taken_none (history turns) c t
      (accepted_none (λ (r : Request). r) request_result (history turns) stands.legal c
      (client_none (broker.status (history turns) c t) (slice_get (broker.added (history turns)) c) (in_history turns stands None at)))) h

heard_by : {C : Type 0} {G : Ghosts C} (old new : State C G) (name : List ℕ) (t : ℕ) (o : Option ℕ) (eff : Effect C) → number_in old name ≡ o
    → AnswersBy old t o eff new → HasEffect old (Answer name t) eff new
heard_by old new name t None eff found h =
    heard_answers old new (Answer name t) (Refuses word.NoClient) eff (λ e r. refl) tt (λ turns stands. ap (λ o. due_to_answer (history turns) t o) (number_same old name ∙ found)) h
heard_by old new name t (Some c) eff found h = heard_at old new name t c found (standing_at old.broker c t) eff refl h

pub heard_answer : {C : Type 0} {G : Ghosts C} (old new : State C G) (name : List ℕ) (t : ℕ) (eff : Effect C) → AnswersBy old t (number_in old name) eff new → HasEffect old (Answer name t) eff new
heard_answer old new name t eff h = heard_by old new name t (number_in old name) eff refl h

-- ---- each call of the state

pub answers_of : {C : Type 0} {G : Ghosts C} (old new : State C G) (event : broker.Event Request) (eff : Effect C) → AsksFor old event eff new → Answers old (Asks event) eff new
answers_of old new event (effect.Reported told) h = (event, refl, h)
answers_of old new event effect.Loaded h = absurd h
answers_of old new event (effect.Faulty f) h = absurd h
answers_of old new event (effect.Refused why) h = absurd h

ticketed : (done : Ticketed Request) (t : ℕ) (work : Request) → done.ticket ≡ t → done.work ≡ work → done ≡ record { ticket = t; work = work }
ticketed done t work p q =
    let by_ticket : ℕ → Ticketed Request = λ x. record { ticket = x; work = done.work } in
    let by_work : Request → Ticketed Request = λ y. record { ticket = t; work = y } in
    ap by_ticket p ∙ ap by_work q

pub answered_by : {C : Type 0} {G : Ghosts C} (old new : State C G) (client t : ℕ) (work : Request) (done : Ticketed Request) (eff : Effect C) → done.ticket ≡ t → done.work ≡ work
    → AsksFor old (broker.Answer client done) eff new → Answers old (Asks (broker.Answer client (record { ticket = t; work = work }))) eff new
answered_by old new client t work done eff p q h =
    let P : Ticketed Request → Type 0 = λ d. Answers old (Asks (broker.Answer client d)) eff new in
    subst P (ticketed done t work p q) (answers_of old new (broker.Answer client done) eff h)

pub made : {C : Type 0} {G : Ghosts C} (old new : State C G) (r : Result Request Word) (work : Request) (to_event : Request → broker.Event Request) (eff : Effect C)
    → r ≡ Ok work → Answers old (Asks (to_event work)) eff new → Answers old (asks_with r to_event) eff new
made old new r work to_event eff is h =
    let P : Due → Type 0 = λ due. Answers old due eff new in
    subst P (sym (ap (λ x. asks_with x to_event) is)) h

pub unmade : {C : Type 0} {G : Ghosts C} (old : State C G) (r : Result Request Word) (to_event : Request → broker.Event Request) (why : Word)
    → IsUnmade r why → Answers old (asks_with r to_event) (effect.Refused why) old
unmade old r to_event why (inl lack) = (inl lack, refl)
unmade old r to_event why (inr is) = (inr (ap (λ x. asks_with x to_event) is), refl)

pub lacks : {C : Type 0} {G : Ghosts C} (old : State C G) (client ticket : ℕ) (s : Option (Status Request)) → AnswersAt old client ticket s (effect.Refused word.Memory) old
lacks old client ticket (Some (Running work)) = (inl refl, refl)
lacks old client ticket (Some Settled) = (refl, refl)
lacks old client ticket (Some Unknown) = (inl refl, refl)
lacks old client ticket (Some (Waiting work)) = (inl refl, refl)
lacks old client ticket None = (inl refl, refl)

-- states with the same parts are one: of what is said of a state there is one proof
pub same_state : {C : Type 0} {G : Ghosts C} (new old : State C G) → new.broker ≡ old.broker → new.names ≡ old.names → new.plan ≡ old.plan → new.marks ≡ old.marks → new ≡ old
same_state new old broker names plan marks = λ i. record {
  broker = broker i;
  names = names i;
  plan = plan i;
  marks = marks i;
  counted = is_prop→PathP (λ j. length (names j).items ≤ length (broker j)) (λ j. le_prop) new.counted old.counted i;
  few = is_prop→PathP (λ j. length (names j).items ≤ 64) (λ j. le_prop) new.few old.few i;
}

-- the broker found no memory for the work that was taken
pub own_lacks : {C : Type 0} {G : Ghosts C} (old new : State C G) (client t : ℕ) (s : Option (Status Request)) → new ≡ old → AnswersAt old client t s (effect.Refused word.Memory) new
own_lacks old new client t s same = rw same (lacks old client t s)

-- no client has the number
pub own_nobody : {C : Type 0} {G : Ghosts C} (old new : State C G) (client t : ℕ) (s : Option (Status Request)) (told : Option Answered)
    → AnswersOwn (λ (r : Request). r) request_result old.broker client t s told new.broker → told ≡ None → (new.broker ≡ old.broker → new ≡ old)
    → AnswersAt old client t s (effect.Refused word.Strange) new
own_nobody old new client t None told own is same = (inr refl, same own.1)
own_nobody old new client t (Some Unknown) told own is same = let wrong : ⊥ = cc in absurd wrong
own_nobody old new client t (Some (Waiting work)) told own is same = let wrong : ⊥ = cc in absurd wrong
own_nobody old new client t (Some (Running work)) told own is same = let wrong : ⊥ = cc in absurd wrong
own_nobody old new client t (Some Settled) told own is same = let wrong : ⊥ = cc in absurd wrong

-- nothing was taken under the ticket
pub own_strange : {C : Type 0} {G : Ghosts C} (old new : State C G) (client t : ℕ) (s : Option (Status Request)) (told : Option Answered)
    → AnswersOwn (λ (r : Request). r) request_result old.broker client t s told new.broker → told ≡ Some answered.Strange → (new.broker ≡ old.broker → new ≡ old)
    → AnswersAt old client t s (effect.Refused word.Strange) new
own_strange old new client t None told own is same = let wrong : ⊥ = cc in absurd wrong
own_strange old new client t (Some Unknown) told own is same = (inr refl, same own.1)
own_strange old new client t (Some (Waiting work)) told own is same = (inr refl, same own.1)
own_strange old new client t (Some (Running work)) told own is same = let wrong : ⊥ = cc in absurd wrong
own_strange old new client t (Some Settled) told own is same = let wrong : ⊥ = cc in absurd wrong

-- an answer was kept before
pub own_repeated : {C : Type 0} {G : Ghosts C} (old new : State C G) (client t : ℕ) (s : Option (Status Request)) (told : Option Answered)
    → AnswersOwn (λ (r : Request). r) request_result old.broker client t s told new.broker → told ≡ Some answered.Repeated → (new.broker ≡ old.broker → new ≡ old)
    → AnswersAt old client t s (effect.Reported reports.Repeated) new
own_repeated old new client t None told own is same = let wrong : ⊥ = cc in absurd wrong
own_repeated old new client t (Some Unknown) told own is same = let wrong : ⊥ = cc in absurd wrong
own_repeated old new client t (Some (Waiting work)) told own is same = let wrong : ⊥ = cc in absurd wrong
own_repeated old new client t (Some (Running work)) told own is same = let wrong : ⊥ = cc in absurd wrong
own_repeated old new client t (Some Settled) told own is same = (refl, same own.1)

-- ---- one turn more of a script

map-more : (turns : List Turn) (turn : Turn) → map (λ (t : Turn). t.line) (turns ++ turn ∷ []) ≡ map (λ (t : Turn). t.line) turns ++ turn.line ∷ []
map-more turns turn = map-append (λ (t : Turn). t.line) turns (turn ∷ [])

said-more : (turns : List Turn) (turn : Turn) → flat_map said_of (turns ++ turn ∷ []) ≡ flat_map said_of turns ++ said_of turn
said-more turns turn = flat_map-append said_of turns (turn ∷ []) ∙ ap (λ l. flat_map said_of turns ++ l) (append-nil (said_of turn))

order-more : (before turns : List Turn) (turn : Turn) → AreInOrder before turns → Follows (before ++ turns) turn → AreInOrder before (turns ++ turn ∷ [])
order-more before [] turn order follows = (rw (append-nil before) at follows, tt)
order-more before (t ∷ turns) turn order follows =
    (order.0, order-more (before ++ t ∷ []) turns turn order.1 (rw (append_assoc before (t ∷ []) turns) follows))

length-lines : (turns : List Turn) → length (map (λ (t : Turn). t.line) turns) ≡ length turns
length-lines [] = refl
length-lines (t ∷ turns) = ap suc (length-lines turns)

pub taken_in : {C : Type 0} {G : Ghosts C} (old new : State C G) (k : ℕ) (it : List ℕ) (more : List wire.Report) (lines said : List (List ℕ)) → TakesTurn old k it more new
    → After old lines said → k ≡ length lines + 1 → After new (lines ++ it ∷ []) (said ++ texts_of more)
taken_in old new k it more lines said takes after number =
    let script = after.script in
    let t = takes script.turns after.stands in
    let turn : Turn = record { number = k; line = it; reading = t.0; deed = t.1 } in
    let same : length lines ≡ length script.turns = ap length (sym script.each) ∙ length-lines script.turns in
    let follows : Follows script.turns turn = record { number = omega (arith, number, same); reads = t.2; due = t.3 } in
    record {
      script = record {
        turns = script.turns ++ turn ∷ [];
        each = map-more script.turns turn ∙ ap (λ l. l ++ it ∷ []) script.each;
        due = order-more [] script.turns turn script.due follows;
        said = ap (λ l. l ++ texts_of more) script.said ∙ ap (λ l. flat_map said_of script.turns ++ texts_of l) t.4 ∙ sym (said-more script.turns turn);
      };
      stands = t.5;
    }

pub at_start : {C : Type 0} {G : Ghosts C} (state : State C G) → Stands state [] → After state [] []
at_start state stands = record { script = record { turns = []; each = refl; due = tt; said = refl }; stands = stands }
