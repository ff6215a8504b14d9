-- What is said to a line, and what stands after it.
use Rattle.std.proofs.Common.{◌≡◌, ◌≢◌, ◌+◌, ℕ, zero, suc, true, List, [], ◌∷◌, ◌++◌, Option, Some, None, Result, Ok, Err, length, map, reverse, string_bytes, take, refl, sym, ap, ◌∙◌, subst, arith, append-nil}
use Rattle.std.specs.List.{flat_map}
use Rattle.std.proofs.lemmas.List.{reverse-append, length-reverse}
use Rattle.serde_json.specs.Data.{Data}
use Rattle.serde_json.specs.Written.{compact_text}
use Rattle.desk_lines.specs.Lines.{ended}
use Rattle.dmn_plan.specs.ReadModel.{read_model}
use Rattle.dmn_plan.specs.Request.{request_result}
use Rattle.dmn_plan.specs.declared.fault.ModelFault.{ModelFault}
use Rattle.desk_wire.specs.Heard.{IsHeardAs}
use Rattle.desk_wire.specs.Listening.{refusal_text}
use Rattle.desk_wire.specs.Reading.{Reading, Blank, Long, Syntax, Shape, Says}
use Rattle.desk_wire.specs.ReportView.{report_view}
use Rattle.desk_wire.specs.Reports.{Report, Loaded, Faulty, Refused, Of, Reply, report_json}
use Rattle.desk_wire.specs.declared.heard.Heard.{Heard}
use Rattle.desk_wire.specs.declared.heard.Heard.TheVariants as heard
use Rattle.desk_wire.specs.declared.report.Report as held
use Rattle.desk_wire.specs.declared.report.Report.TheVariants as report
use Rattle.desk_wire.specs.declared.word.Word.TheVariants as word
use Rattle.desk_requests.specs.Due.{model_answer}
use Rattle.desk_requests.specs.Line.{Line, Model, Request, Reads, line_view}
use Rattle.desk_requests.specs.LineHeard.{IsLineOf}
use Rattle.desk_requests.specs.Register.{Answers, AsksBy, StandsAfter, client_after, force_of, is_on_client, is_on_model}
use Rattle.desk_requests.specs.State.{in_force, newer_model, number_after}
use Rattle.desk_requests.specs.declared.line.Line as asking
use Rattle.desk_requests.specs.declared.register.Answer.TheVariants as answer
use Rattle.desk_requests.specs.declared.register.Asked.{Asked}
use Rattle.desk_requests.proofs.Fewness.{no_line}
use Rattle.desk_requests.proofs.Readings.{read-length}
use Rattle.desk_explaining.proofs.Counting.{takes_own}
use Rattle.desk_explaining.specs.Due.{IsExplained, explanation, loaded}
use Rattle.desk_explaining.specs.Script.{AreAnswered}
use Rattle.desk_explaining.specs.StateView.{Adds, After, Explains, HasSum, Hears, HearsText, Loads, Stands, model_of}
use Rattle.desk_explaining.specs.declared.state.State.{State}

pub same_some : (a b : List ℕ) → Some a ≡ Some b → a ≡ b
same_some a b e = cc

-- ---- one line is said

-- the line of an answer is added
one_more : (text text' : List ℕ) (d : Data) → Adds text d text' → text' ≡ text ++ flat_map ended (compact_text d ∷ [])
one_more text text' d adds = adds ∙ ap (λ l. text ++ l) (sym (append-nil (ended (compact_text d))))

-- what is reported, without reasons
explained_on_client : (misses : _) (k : ℕ) (model : Option (List ℕ)) (line : Line) (r : Report) → is_on_client r ≡ true → IsExplained misses k model line r (report_json r)
explained_on_client misses k model line (Loaded j) e = cc
explained_on_client misses k model line (Faulty j f) e = cc
explained_on_client misses k model line (Refused j why) e = cc
explained_on_client misses k model line (Reply n t o) e = cc
explained_on_client misses k model (Model json) (Of n j what) e = refl
explained_on_client misses k model line (Of n j what) e = refl

-- the sum stays where the model does
same_sum : (old new : State) (lanes : ℕ) (earlier later : List (Reading Line)) → Stands old lanes earlier → StandsAfter lanes new.register later → in_force later ≡ in_force earlier → new.sum ≡ old.sum → HasSum new
same_sum old new lanes earlier later s r force sum = λ text h.
    ap string_bytes sum ∙ s.sum text (s.register.model ∙ (sym force ∙ (sym r.model ∙ h)))

-- a report to a client's line
hears_on_client : (old new : State) (k : ℕ) (line : Line) (r : held.Report) (text text' : List ℕ) → Answers old.register k line (answer.Told r) new.register
    → ((earlier : List (Reading Line)) → in_force (Says line ∷ earlier) ≡ in_force earlier)
    → is_on_client (report_view r) ≡ true → new.sum ≡ old.sum → Adds text (report_json (report_view r)) text' → Hears old k (Says line) text text' new
hears_on_client old new k line r text text' answers stays on sum adds = λ lanes earlier s num.
    let a = answers lanes earlier s.register num in
    let d = report_json (report_view r) in (
      compact_text d ∷ [],
      (d, subst (λ q. IsExplained old.misses (number_after earlier) (in_force earlier) line q d) a.0 (explained_on_client old.misses (number_after earlier) (in_force earlier) line (report_view r) on), refl),
      one_more text text' d adds,
      record { register = a.1; sum = same_sum old new lanes earlier (Says line ∷ earlier) s a.1 (stays earlier) sum },
    )

-- the fault of a model
not_loaded : {M : Type 0} (json : Data) (r : Result M ModelFault) (k : ℕ) (force : Option (List ℕ)) (q : Report) → q ≡ model_answer k r → ((j : ℕ) → q ≢ Loaded j) → newer_model json r force ≡ force
not_loaded json (Ok m) k force q e never = absurd (never k e)
not_loaded json (Err f) k force q e never = refl

explained_faulty : (misses : _) (k : ℕ) (model : Option (List ℕ)) (json : Data) (r : Report) → is_on_model r ≡ true → ((j : ℕ) → r ≢ Loaded j) → IsExplained misses k model (Model json) r (report_json r)
explained_faulty misses k model json (Loaded j) e never = absurd (never j refl)
explained_faulty misses k model json (Faulty j f) e never = refl
explained_faulty misses k model json (Refused j why) e never = cc
explained_faulty misses k model json (Of n j what) e never = cc
explained_faulty misses k model json (Reply n t o) e never = cc

hears_faulty : (old new : State) (k : ℕ) (json : Data) (r : held.Report) (text text' : List ℕ) → Answers old.register k (Model json) (answer.Told r) new.register
    → is_on_model (report_view r) ≡ true → ((j : ℕ) → report_view r ≢ Loaded j) → new.sum ≡ old.sum → Adds text (report_json (report_view r)) text'
    → Hears old k (Says (Model json)) text text' new
hears_faulty old new k json r text text' answers on never sum adds = λ lanes earlier s num.
    let a = answers lanes earlier s.register num in
    let d = report_json (report_view r) in
    let stays = not_loaded json (read_model json) (number_after earlier) (in_force earlier) (report_view r) a.0 never in (
      compact_text d ∷ [],
      (d, subst (λ q. IsExplained old.misses (number_after earlier) (in_force earlier) (Model json) q d) a.0 (explained_faulty old.misses (number_after earlier) (in_force earlier) json (report_view r) on never), refl),
      one_more text text' d adds,
      record { register = a.1; sum = same_sum old new lanes earlier (Says (Model json) ∷ earlier) s a.1 stays sum },
    )

-- no line but a model's is reported as loaded
no_loaded : (r : held.Report) → ((j : ℕ) → r ≢ report.Loaded j) → (j : ℕ) → report_view r ≢ Loaded j
no_loaded (report.Loaded k) never j e = never k refl
no_loaded (report.Faulty k f) never j e = cc
no_loaded (report.Refused k why) never j e = cc
no_loaded (report.Of n k what) never j e = cc
no_loaded (report.Reply n t o) never j e = cc

-- whatever is reported but a model
pub hears_told : (old new : State) (k : ℕ) (line : Line) (r : held.Report) (text text' : List ℕ) → Answers old.register k line (answer.Told r) new.register
    → AsksBy (force_of old.register) line (answer.Told r) → ((j : ℕ) → r ≢ report.Loaded j) → new.sum ≡ old.sum → Adds text (report_json (report_view r)) text'
    → Hears old k (Says line) text text' new
hears_told old new k (Model json) r text text' answers asks never sum adds = hears_faulty old new k json r text text' answers asks (no_loaded r never) sum adds
hears_told old new k line r text text' answers asks never sum adds = hears_on_client old new k line r text text' answers (λ earlier. refl) asks sum adds

-- a model that came in force
loaded_is : {M : Type 0} (json : Data) (r : Result M ModelFault) (k j : ℕ) (force : Option (List ℕ)) → Loaded j ≡ model_answer k r
    → (newer_model json r force ≡ Some (compact_text json)) × (Loaded k ≡ model_answer k r)
loaded_is json (Ok m) k j force e = (refl, refl)
loaded_is json (Err f) k j force e = cc

pub hears_loaded : (old between new : State) (k j : ℕ) (line : Line) (text text' : List ℕ) → Answers old.register k line (answer.Told (report.Loaded j)) between.register
    → AsksBy (force_of old.register) line (answer.Told (report.Loaded j)) → new.register ≡ between.register → Loads between k text text' new → Hears old k (Says line) text text' new
hears_loaded old between new k j (Model json) text text' answers asks same loads = λ lanes earlier s num.
    let a = answers lanes earlier s.register num in
    let is = loaded_is json (read_model json) (number_after earlier) j (in_force earlier) a.0 in
    let force : model_of between ≡ Some (compact_text json) = a.1.model ∙ is.0 in
    let d = loaded (number_after earlier) json in (
      compact_text d ∷ [],
      (d, subst (λ q. IsExplained old.misses (number_after earlier) (in_force earlier) (Model json) q d) is.1 refl, refl),
      one_more text text' d (subst (λ i. Adds text (loaded i json) text') num (loads.says json force)),
      record { register = subst (λ r. StandsAfter lanes r (Says (Model json) ∷ earlier)) (sym same) a.1; sum = loads.sum },
    )
hears_loaded old between new k j line text text' answers asks same loads = cc

-- a reply, with its reasons
pub hears_asked : (old new : State) (k : ℕ) (line : Line) (asked : Asked) (text text' : List ℕ) → Answers old.register k line (answer.Asked asked) new.register
    → AsksBy (force_of old.register) line (answer.Asked asked) → new.sum ≡ old.sum → Explains k (string_bytes old.sum) asked old.misses text text' → Hears old k (Says line) text text' new
hears_asked old new k (Request n s i) asked text text' answers asks sum explains = λ lanes earlier stands num.
    let a = answers lanes earlier stands.register num in
    let task = asks.2 in
    let e = explains task.0 (stands.sum task.0 task.1) (takes_own task.0 s i asked.task task.2) in
    let d = explanation asked.client.now k task.0 asked.service.now e.0 e.1 (request_result asked.task) asked.ticket in
    let is : d ≡ explanation asked.client.now (number_after earlier) task.0 s e.0 e.1 (request_result asked.task) asked.ticket =
    ap (λ j. explanation asked.client.now j task.0 asked.service.now e.0 e.1 (request_result asked.task) asked.ticket) num
    ∙ ap (λ q. explanation asked.client.now (number_after earlier) task.0 q e.0 e.1 (request_result asked.task) asked.ticket) asks.1 in (
      compact_text d ∷ [],
      (
        d,
        subst (λ q. IsExplained old.misses (number_after earlier) (in_force earlier) (Request n s i) q d) a.0
            (task.0, asked.task, sym stands.register.model ∙ task.1, task.2, e.0, e.1, e.2, is),
        refl,
      ),
      one_more text text' d e.3,
      record { register = a.1; sum = same_sum old new lanes earlier (Says (Request n s i) ∷ earlier) stands a.1 refl sum },
    )
hears_asked old new k line asked text text' answers asks sum explains = absurd asks

-- ---- lines by their bytes

stands_on : (state : State) (lanes : ℕ) (earlier : List (Reading Line)) (reading : Reading Line) → Stands state lanes earlier → StandsAfter lanes state.register (reading ∷ earlier) → Stands state lanes (reading ∷ earlier)
stands_on state lanes earlier reading s r = record { register = r; sum = s.sum }

pub heard_long : (state : State) (k : ℕ) (it text text' : List ℕ) → Reads it Long → Adds text (report_json (Refused k word.Long)) text' → HearsText state k it text text' state
heard_long state k it text text' reads adds = (
  Long,
  reads,
  λ lanes earlier s num. (
    compact_text (report_json (Refused k word.Long)) ∷ [],
    ap (λ j. compact_text (report_json (Refused j word.Long)) ∷ []) num,
    one_more text text' (report_json (Refused k word.Long)) adds,
    stands_on state lanes earlier Long s (record { count = s.register.count; model = s.register.model; clients = s.register.clients }),
  ),
)

pub heard_blank : (state : State) (k : ℕ) (it text : List ℕ) → Reads it Blank → HearsText state k it text text state
heard_blank state k it text reads = (
  Blank,
  reads,
  λ lanes earlier s num. (
    [],
    refl,
    sym (append-nil text),
    stands_on state lanes earlier Blank s (record { count = s.register.count; model = s.register.model; clients = s.register.clients }),
  ),
)

pub heard_syntax : (state : State) (k : ℕ) (it text text' : List ℕ) → Reads it Syntax → Adds text (report_json (Refused k word.Syntax)) text' → HearsText state k it text text' state
heard_syntax state k it text text' reads adds = (
  Syntax,
  reads,
  λ lanes earlier s num. (
    compact_text (report_json (Refused k word.Syntax)) ∷ [],
    ap (λ j. compact_text (report_json (Refused j word.Syntax)) ∷ []) num,
    one_more text text' (report_json (Refused k word.Syntax)) adds,
    stands_on state lanes earlier Syntax s (record { count = s.register.count; model = s.register.model; clients = s.register.clients }),
  ),
)

pub heard_shape : (state : State) (k : ℕ) (it text text' : List ℕ) → Reads it Shape → Adds text (report_json (Refused k word.Shape)) text' → HearsText state k it text text' state
heard_shape state k it text text' reads adds = (
  Shape,
  reads,
  λ lanes earlier s num. (
    compact_text (report_json (Refused k word.Shape)) ∷ [],
    ap (λ j. compact_text (report_json (Refused j word.Shape)) ∷ []) num,
    one_more text text' (report_json (Refused k word.Shape)) adds,
    stands_on state lanes earlier Shape s (record { count = s.register.count; model = s.register.model; clients = s.register.clients }),
  ),
)

-- a line that asks something
pub heard_said : (old new : State) (k : ℕ) (heard : Heard) (line : asking.Line) (it text text' : List ℕ) → IsHeardAs it heard → IsLineOf heard (Some line)
    → Hears old k (Says (line_view line)) text text' new → HearsText old k it text text' new
heard_said old new k (heard.Object members) line it text text' h asks f = (Says (line_view line), (h.0, h.1, h.2, h.3 ∙ ap Some (sym asks.0), asks.1), f)
heard_said old new k heard.Long line it text text' h asks f = absurd asks
heard_said old new k heard.Blank line it text text' h asks f = absurd asks
heard_said old new k heard.Syntax line it text text' h asks f = absurd asks
heard_said old new k heard.Other line it text text' h asks f = absurd asks

-- what is none of the lines
pub heard_other : (state : State) (k : ℕ) (heard : Heard) (it text text' : List ℕ) → IsHeardAs it heard → IsLineOf heard None → text' ≡ text ++ refusal_text k heard
    → HearsText state k it text text' state
heard_other state k heard.Long it text text' h none is = heard_long state k it text text' h is
heard_other state k heard.Blank it text text' h none is = subst (λ t. HearsText state k it text t state) (sym (is ∙ append-nil text)) (heard_blank state k it text h)
heard_other state k heard.Syntax it text text' h none is = heard_syntax state k it text text' h is
heard_other state k heard.Other it text text' h none is = heard_shape state k it text text' (h.0, h.1, h.2, (h.3.0, h.3.1, no_line h.3.0 h.3.2)) is
heard_other state k (heard.Object members) it text text' h none is = heard_shape state k it text text' (h.0, h.1, h.2, (_, h.3, λ line lawful same. none line (same, lawful))) is

-- ---- after the lines

no_first : {X : Type 0} (k : ℕ) (xs : List X) → xs ≡ [] → take k xs ≡ []
no_first zero xs e = refl
no_first (suc k) [] e = refl
no_first (suc k) (x ∷ xs) e = cc

-- nothing was said yet
pub at_start : (state : State) (lanes : ℕ) → Stands state lanes [] → After state [] []
at_start state lanes s = record {
  readings = [];
  read = tt;
  answered = refl;
  stands = record {
    register = record { count = refl; model = s.register.model; clients = s.register.clients ∙ ap (map (client_after [])) (no_first lanes [] refl ∙ sym (no_first state.register.lanes [] refl)) };
    sum = s.sum;
  };
}

pub after_line : (old new : State) (k : ℕ) (it text text' : List ℕ) (lines said : List (List ℕ)) → new.misses ≡ old.misses → After old lines said → k ≡ length lines + 1
    → HearsText old k it text text' new → (more : List (List ℕ)) × After new (lines ++ it ∷ []) (said ++ more) × (text' ≡ text ++ flat_map ended more)
after_line old new k it text text' lines said shows a num heard =
    let lanes = old.register.lanes in
    let all : length a.readings ≡ length lines = read-length (reverse lines) a.readings a.read ∙ length-reverse lines in
    let number : k ≡ number_after a.readings = omega (arith, num, all) in
    let h = heard.2 lanes a.readings a.stands number in
    let same : new.register.lanes ≡ lanes = h.3.register.count in
    let answered : AreAnswered old.misses lanes (heard.0 ∷ a.readings) (said ++ h.0) = (said, h.0, a.answered, h.1, refl) in (
      h.0,
      record {
        readings = heard.0 ∷ a.readings;
        read = rw (reverse-append lines (it ∷ [])) (heard.1, a.read);
        answered = subst (λ m. AreAnswered m new.register.lanes (heard.0 ∷ a.readings) (said ++ h.0)) (sym shows)
            (subst (λ n. AreAnswered old.misses n (heard.0 ∷ a.readings) (said ++ h.0)) (sym same) answered);
        stands = subst (λ n. Stands new n (heard.0 ∷ a.readings)) (sym same) h.3;
      },
      h.2,
    )
