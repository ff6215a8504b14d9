-- What each line is answered with, and what stands then.
use Rattle.std.proofs.Common.{◌≡◌, ℕ, zero, suc, Bool, true, false, List, [], ◌∷◌, ◌++◌, Option, Some, None, Ok, Err, length, take, slice_get, slice_set, refl, sym, ap, ◌∙◌, append-nil, subst, if◌then◌else◌}
use Rattle.std.specs.Prelude.{bytes_eq}
use Rattle.std.specs.List.{flat_map}
use Rattle.serde_json.specs.Data.{Data}
use Rattle.dmn_plan.specs.ReadModel.{read_model}
use Rattle.dmn_plan.specs.Request as plan
use Rattle.dmn_plan.specs.declared.fault.TaskFault.{TaskFault}
use Rattle.desk_requests.specs.Line.{Line, Model, Request, Close}
use Rattle.desk_wire.specs.Words.{task_fault_word}
use Rattle.desk_lines.specs.Lines.{ended}
use Rattle.desk_serving.specs.Owed.{Queue, due_to, unhanded, AreBehind, AreBooked, HandsThen, Stands, with_put}
use Rattle.desk_requests.specs.State.{AreDistinct, with_lane, callers, has_lane, in_force, is_closed, requests_under, requests, number_after}
use Rattle.desk_wire.specs.Reading.{Reading, Blank, Long, Syntax, Shape, Says}
use Rattle.desk_wire.specs.Reports.{Report, Refused, Of, client_on, report_text}
use Rattle.desk_wire.specs.declared.report.Told.TheVariants as told
use Rattle.desk_wire.specs.declared.word.Word.{Word}
use Rattle.desk_wire.specs.declared.word.Word.TheVariants as word
use Rattle.desk_serving.specs.Script.{of_client, texts_of}
use Rattle.desk_requests.specs.Due.{answer, request_answer, task_answer, close_answer, model_answer}
use Rattle.feel_value.specs.Distinct.{is_among}
use Rattle.desk_serving.proofs.Owing.{due_to_none, hands_none, hands_then_report, length-unhanded}
use Rattle.desk_requests.proofs.Names.{same_name, name_itself, among_at, set_back}
use Rattle.desk_serving.proofs.Standing.{booked_same, booked_at, booked-set, due_to_quiet, stands_answered, stands_named}
use Rattle.desk_requests.proofs.Callers.{requests-other, requests-refused, requests-closed, requests-accepted, quiet}

-- what a line that is heard comes to
abbrev pub IsHeard : Reading Line → List (Reading Line) → List (List ℕ) → Option (List ℕ) → List Queue → List Report → List ℕ → List ℕ → Type 0
IsHeard reading earlier names model lanes said text text' =
    (more : List Report) × (text' ≡ text ++ flat_map ended (texts_of more)) × Stands (reading ∷ earlier) (reading ∷ earlier) names model lanes (said ++ more)

heard : (reading : Reading Line) (earlier : List (Reading Line)) (names : List (List ℕ)) (model model' : Option (List ℕ)) (lanes new : List Queue) (said : List Report) (e : Report) (text text' : List ℕ)
    → Stands (reading ∷ earlier) earlier names model lanes said → HandsThen names lanes new e text text' → answer (length lanes) earlier reading ≡ e ∷ []
    → length new ≡ length lanes → model' ≡ in_force (reading ∷ earlier) → AreBooked names (unhanded new) (reading ∷ earlier)
    → IsHeard reading earlier names model' new said text text'
heard reading earlier names model model' lanes new said e text text' s h is len force booked =
    (h.more, h.is, stands_answered reading earlier names model model' lanes new said h.more e s is h.owed len force booked)

-- a line that needs no lane
needs_none : (reading : Reading Line) (earlier : List (Reading Line)) (names : List (List ℕ)) (model : Option (List ℕ)) (lanes : List Queue) (said : List Report)
    → Stands earlier earlier names model lanes said → callers (reading ∷ earlier) ≡ callers earlier → Stands (reading ∷ earlier) earlier names model lanes said
needs_none reading earlier names model lanes said s cs = record {
  names = s.names ∙ ap (take (length lanes)) (sym cs);
  distinct = s.distinct;
  model = s.model;
  booked = s.booked;
  owed = s.owed;
}

-- ## Blank lines, and lines that are none

pub heard_blank : (earlier : List (Reading Line)) (names : List (List ℕ)) (model : Option (List ℕ)) (lanes : List Queue) (said : List Report) (text : List ℕ)
    → Stands earlier earlier names model lanes said → IsHeard Blank earlier names model lanes said text text
heard_blank earlier names model lanes said text s = (
  [],
  sym (append-nil text),
  record {
    names = s.names;
    distinct = s.distinct;
    model = s.model;
    booked = booked_same names lanes lanes earlier (Blank ∷ earlier) refl s.booked (λ m among. (refl, refl));
    owed = λ who. ap (λ t. of_client who t ++ due_to who names lanes) (append-nil said) ∙ s.owed who ∙ ap (of_client who) (sym (append-nil _));
  },
)

-- such a line tells nothing of any client and leaves the model
abbrev pub IsNone : Reading Line → Word → Type 0
IsNone Blank why = ⊥
IsNone Long why = why ≡ word.Long
IsNone Syntax why = why ≡ word.Syntax
IsNone Shape why = why ≡ word.Shape
IsNone (Says line) why = ⊥

pub heard_none : (reading : Reading Line) (why : Word) (k : ℕ) (earlier : List (Reading Line)) (names : List (List ℕ)) (model : Option (List ℕ)) (lanes : List Queue) (said : List Report) (text text' : List ℕ)
    → IsNone reading why → Stands earlier earlier names model lanes said → k ≡ number_after earlier → text' ≡ text ++ ended (report_text (Refused k why))
    → IsHeard reading earlier names model lanes said text text'
heard_none Blank why k earlier names model lanes said text text' none s num is = absurd none
heard_none Long why k earlier names model lanes said text text' none s num is =
    heard Long earlier names model model lanes lanes said (Refused k why) text text' (needs_none Long earlier names model lanes said s refl)
    (hands_then_report names lanes lanes (Refused k why) text text text' (hands_none names lanes text) refl is)
    (sym (ap (λ j. Refused j why ∷ []) num ∙ ap (λ w. Refused (number_after earlier) w ∷ []) none))
    refl s.model (booked_same names lanes lanes earlier (Long ∷ earlier) refl s.booked (λ m among. (refl, refl)))
heard_none Syntax why k earlier names model lanes said text text' none s num is =
    heard Syntax earlier names model model lanes lanes said (Refused k why) text text' (needs_none Syntax earlier names model lanes said s refl)
    (hands_then_report names lanes lanes (Refused k why) text text text' (hands_none names lanes text) refl is)
    (sym (ap (λ j. Refused j why ∷ []) num ∙ ap (λ w. Refused (number_after earlier) w ∷ []) none))
    refl s.model (booked_same names lanes lanes earlier (Syntax ∷ earlier) refl s.booked (λ m among. (refl, refl)))
heard_none Shape why k earlier names model lanes said text text' none s num is =
    heard Shape earlier names model model lanes lanes said (Refused k why) text text' (needs_none Shape earlier names model lanes said s refl)
    (hands_then_report names lanes lanes (Refused k why) text text text' (hands_none names lanes text) refl is)
    (sym (ap (λ j. Refused j why ∷ []) num ∙ ap (λ w. Refused (number_after earlier) w ∷ []) none))
    refl s.model (booked_same names lanes lanes earlier (Shape ∷ earlier) refl s.booked (λ m among. (refl, refl)))
heard_none (Says line) why k earlier names model lanes said text text' none s num is = absurd none

-- ## Models

pub heard_model : (json : Data) (k : ℕ) (e : Report) (earlier : List (Reading Line)) (names : List (List ℕ)) (model model' : Option (List ℕ)) (lanes : List Queue) (said : List Report) (text text' : List ℕ)
    → Stands earlier earlier names model lanes said → k ≡ number_after earlier → client_on e ≡ None → e ≡ model_answer k (read_model json) → text' ≡ text ++ ended (report_text e)
    → model' ≡ in_force (Says (Model json) ∷ earlier) → IsHeard (Says (Model json)) earlier names model' lanes said text text'
heard_model json k e earlier names model model' lanes said text text' s num none v is force =
    heard (Says (Model json)) earlier names model model' lanes lanes said e text text' (needs_none (Says (Model json)) earlier names model lanes said s refl)
    (hands_then_report names lanes lanes e text text text' (hands_none names lanes text) (ap (λ (who : Option (List ℕ)). due_to who names lanes) none) is)
    (ap (λ x. x ∷ []) (sym (v ∙ ap (λ j. model_answer j (read_model json)) num)))
    refl force (booked_same names lanes lanes earlier (Says (Model json) ∷ earlier) refl s.booked (λ m among. (refl, refl)))

-- ## Requests

-- no model is in force
pub heard_no_model : (n s : List ℕ) (i : Data) (k : ℕ) (earlier : List (Reading Line)) (names : List (List ℕ)) (model : Option (List ℕ)) (lanes : List Queue) (said : List Report) (text text' : List ℕ)
    → AreBehind lanes → Stands earlier earlier names model lanes said → model ≡ None → k ≡ number_after earlier → text' ≡ text ++ ended (report_text (Of n k (told.Refused word.Model)))
    → IsHeard (Says (Request n s i)) earlier names model lanes said text text'
heard_no_model n s i k earlier names model lanes said text text' f st none num is =
    let reading = Says (Request n s i) in let e = Of n k (told.Refused word.Model) in
    let out : in_force earlier ≡ None = sym st.model ∙ none in
    heard reading earlier names model model lanes lanes said e text text' (needs_none reading earlier names model lanes said st (rw out refl))
    (hands_then_report names lanes lanes e text text text' (hands_none names lanes text) (due_to_quiet n names lanes earlier f st.booked (quiet n earlier out)) is)
    (rw out (ap (λ j. Of n j (told.Refused word.Model) ∷ []) (sym num)))
    refl st.model (booked_same names lanes lanes earlier (reading ∷ earlier) refl st.booked (λ m among. (requests-refused m n s i earlier (rw out refl), refl)))

-- the line's name got a lane, if there was one
pub named_request : (n s : List ℕ) (i : Data) (t : List ℕ) (earlier : List (Reading Line)) (names names' : List (List ℕ)) (model : Option (List ℕ)) (lanes : List Queue) (said : List Report)
    → AreBehind lanes → Stands earlier earlier names model lanes said → model ≡ Some t → names' ≡ with_lane (length lanes) n names
    → Stands (Says (Request n s i) ∷ earlier) earlier names' model lanes said
named_request n s i t earlier names names' model lanes said f st some is =
    let out : in_force earlier ≡ Some t = sym st.model ∙ some in
    stands_named n (Says (Request n s i)) earlier names names' model lanes said f st (rw out refl) is

apart : (n m : List ℕ) (names : List (List ℕ)) (t : Bool) → bytes_eq n m ≡ t → is_among names n ≡ false → is_among names m ≡ true → bytes_eq n m ≡ false
apart n m names true e absent among =
    let there : is_among names n ≡ true = subst (λ k. is_among names k ≡ true) (sym (same_name n m e)) among in
    let wrong : true ≡ false = sym there ∙ absent in cc
apart n m names false e absent among = e

-- no lane is left
pub heard_no_lane : (n s : List ℕ) (i : Data) (t : List ℕ) (k : ℕ) (earlier : List (Reading Line)) (names : List (List ℕ)) (model : Option (List ℕ)) (lanes : List Queue) (said : List Report) (text text' : List ℕ)
    → Stands (Says (Request n s i) ∷ earlier) earlier names model lanes said → model ≡ Some t → is_among names n ≡ false → k ≡ number_after earlier
    → text' ≡ text ++ ended (report_text (Of n k (told.Refused word.Clients))) → IsHeard (Says (Request n s i)) earlier names model lanes said text text'
heard_no_lane n s i t k earlier names model lanes said text text' st some absent num is =
    let reading = Says (Request n s i) in let e = Of n k (told.Refused word.Clients) in
    let out : in_force earlier ≡ Some t = sym st.model ∙ some in
    let lane : has_lane (length lanes) (reading ∷ earlier) n ≡ false = ap (λ ns. is_among ns n) (sym st.names) ∙ absent in
    heard reading earlier names model model lanes lanes said e text text' st
    (hands_then_report names lanes lanes e text text text' (hands_none names lanes text) (due_to_none n names lanes absent) is)
    (ap (λ b. request_answer (number_after earlier) n (in_force earlier) b (is_closed n earlier) (length (requests n earlier)) s i ∷ []) lane
    ∙ ap (λ o. request_answer (number_after earlier) n o false (is_closed n earlier) (length (requests n earlier)) s i ∷ []) out
    ∙ ap (λ j. Of n j (told.Refused word.Clients) ∷ []) (sym num))
    refl st.model (booked_same names lanes lanes earlier (reading ∷ earlier) refl st.booked
    (λ m among. (requests-other m n s i earlier (apart n m names (bytes_eq n m) refl absent among), refl)))

-- the name has a lane, and this is the answer there
pub heard_task : (n s : List ℕ) (i : Data) (t : List ℕ) (k : ℕ) (e : Report) (earlier : List (Reading Line)) (names : List (List ℕ)) (model : Option (List ℕ)) (lanes new : List Queue) (said : List Report) (text text' : List ℕ)
    → Stands (Says (Request n s i) ∷ earlier) earlier names model lanes said → model ≡ Some t → is_among names n ≡ true → k ≡ number_after earlier
    → e ≡ task_answer k n (is_closed n earlier) (length (requests n earlier)) (plan.request_of t s i) → HandsThen names lanes new e text text'
    → length new ≡ length lanes → AreBooked names (unhanded new) (Says (Request n s i) ∷ earlier) → IsHeard (Says (Request n s i)) earlier names model new said text text'
heard_task n s i t k e earlier names model lanes new said text text' st some inside num v h len booked =
    let reading = Says (Request n s i) in
    let out : in_force earlier ≡ Some t = sym st.model ∙ some in
    let lane : has_lane (length lanes) (reading ∷ earlier) n ≡ true = ap (λ ns. is_among ns n) (sym st.names) ∙ inside in
    heard reading earlier names model model lanes new said e text text' st h
    (ap (λ b. request_answer (number_after earlier) n (in_force earlier) b (is_closed n earlier) (length (requests n earlier)) s i ∷ []) lane
    ∙ ap (λ o. request_answer (number_after earlier) n o true (is_closed n earlier) (length (requests n earlier)) s i ∷ []) out
    ∙ ap (λ x. x ∷ []) (sym (v ∙ ap (λ j. task_answer j n (is_closed n earlier) (length (requests n earlier)) (plan.request_of t s i)) num)))
    len st.model booked

-- there is no such task
pub heard_no_task : (n s : List ℕ) (i : Data) (t : List ℕ) (k : ℕ) (f : TaskFault) (earlier : List (Reading Line)) (names : List (List ℕ)) (model : Option (List ℕ)) (lanes new : List Queue) (said : List Report) (text text' : List ℕ)
    → Stands (Says (Request n s i) ∷ earlier) earlier names model lanes said → model ≡ Some t → is_among names n ≡ true → k ≡ number_after earlier
    → plan.request_of t s i ≡ Err f → HandsThen names lanes new (Of n k (told.Refused (task_fault_word f))) text text' → unhanded new ≡ unhanded lanes → IsHeard (Says (Request n s i)) earlier names model new said text text'
heard_no_task n s i t k f earlier names model lanes new said text text' st some inside num bad h same =
    let out : in_force earlier ≡ Some t = sym st.model ∙ some in
    heard_task n s i t k (Of n k (told.Refused (task_fault_word f))) earlier names model lanes new said text text' st some inside num
    (ap (task_answer k n (is_closed n earlier) (length (requests n earlier))) (sym bad)) h (length-unhanded new lanes same)
    (booked_same names lanes new earlier (Says (Request n s i) ∷ earlier) same st.booked (λ m among. (requests-refused m n s i earlier (rw (out, bad) refl), refl)))

closed_requests : (m n s : List ℕ) (i : Data) (earlier : List (Reading Line)) (b : Bool) → is_closed n earlier ≡ true → bytes_eq n m ≡ b → requests m (Says (Request n s i) ∷ earlier) ≡ requests m earlier
closed_requests m n s i earlier true h e = subst (λ j. requests j (Says (Request n s i) ∷ earlier) ≡ requests j earlier) (same_name n m e) (requests-closed n s i earlier h)
closed_requests m n s i earlier false h e = requests-other m n s i earlier e

length-set : {X : Type 0} (xs : List X) (c : ℕ) (x : X) → length (slice_set xs c x) ≡ length xs
length-set [] c x = refl
length-set (y ∷ xs) zero x = refl
length-set (y ∷ xs) (suc c) x = ap suc (length-set xs c x)

-- the lane with one more request, unless it is closed
abbrev pub with_put_if : Queue → plan.Request → Queue
with_put_if lane request = if lane.closed then lane else with_put lane request

-- the request is put into its lane, unless that is closed
put_booked : (n s : List ℕ) (i : Data) (earlier : List (Reading Line)) (names : List (List ℕ)) (lanes new : List Queue) (c : ℕ) (lane : Queue) (q : plan.Request) (b : Bool) → AreDistinct names
    → AreBooked names (unhanded lanes) earlier → slice_get names c ≡ Some n → slice_get lanes c ≡ Some lane → lane.closed ≡ b → requests_under (in_force earlier) s i ≡ q ∷ []
    → unhanded new ≡ unhanded (slice_set lanes c (with_put_if lane q)) → AreBooked names (unhanded new) (Says (Request n s i) ∷ earlier)
put_booked n s i earlier names lanes new c lane q true dis b at la closed good same =
    let book = booked_at names lanes earlier c n lane b at la in
    let is : unhanded new ≡ unhanded lanes = same ∙ ap unhanded (ap (slice_set lanes c) (rw closed refl) ∙ set_back lanes c lane la) in
    let gone : is_closed n earlier ≡ true = sym book.1 ∙ closed in
    booked_same names lanes new earlier (Says (Request n s i) ∷ earlier) is b (λ m among. (closed_requests m n s i earlier (bytes_eq n m) gone refl, refl))
put_booked n s i earlier names lanes new c lane q false dis b at la closed good same =
    let book = booked_at names lanes earlier c n lane b at la in
    let is : unhanded new ≡ unhanded (slice_set lanes c (with_put lane q)) = same ∙ ap (λ x. unhanded (slice_set lanes c x)) (rw closed refl) in
    let open_yet : is_closed n earlier ≡ false = sym book.1 ∙ closed in
    booked-set names lanes new earlier (Says (Request n s i) ∷ earlier) c n (with_put lane q) dis b at is
    (ap (λ qs. qs ++ q ∷ []) book.0 ∙ sym (requests-accepted n s i earlier q open_yet good)) book.1
    (λ m far. (requests-other m n s i earlier far, refl))

pub heard_put : (n s : List ℕ) (i : Data) (t : List ℕ) (k c : ℕ) (q : plan.Request) (earlier : List (Reading Line)) (names : List (List ℕ)) (model : Option (List ℕ)) (lanes new : List Queue) (lane : Queue) (said : List Report) (text text' : List ℕ)
    → Stands (Says (Request n s i) ∷ earlier) earlier names model lanes said → model ≡ Some t → slice_get names c ≡ Some n → slice_get lanes c ≡ Some lane → k ≡ number_after earlier
    → plan.request_of t s i ≡ Ok q → HandsThen names lanes new (task_answer k n lane.closed (length lane.put) (Ok q)) text text'
    → unhanded new ≡ unhanded (slice_set lanes c (with_put_if lane q)) → IsHeard (Says (Request n s i)) earlier names model new said text text'
heard_put n s i t k c q earlier names model lanes new lane said text text' st some at la num good h same =
    let out : in_force earlier ≡ Some t = sym st.model ∙ some in
    let book = booked_at names lanes earlier c n lane st.booked at la in
    heard_task n s i t k (task_answer k n lane.closed (length lane.put) (Ok q)) earlier names model lanes new said text text' st some (among_at n names c at) num
    (ap (λ b. task_answer k n b (length lane.put) (Ok q)) book.1 ∙ ap (λ qs. task_answer k n (is_closed n earlier) (length qs) (Ok q)) book.0
    ∙ ap (task_answer k n (is_closed n earlier) (length (requests n earlier))) (sym good))
    h (length-unhanded new (slice_set lanes c (with_put_if lane q)) same ∙ length-set lanes c (with_put_if lane q))
    (put_booked n s i earlier names lanes new c lane q lane.closed st.distinct st.booked at la refl (rw (out, good) refl) same)

-- ## Closes

pub named_close : (n : List ℕ) (earlier : List (Reading Line)) (names names' : List (List ℕ)) (model : Option (List ℕ)) (lanes : List Queue) (said : List Report)
    → AreBehind lanes → Stands earlier earlier names model lanes said → names' ≡ with_lane (length lanes) n names → Stands (Says (Close n) ∷ earlier) earlier names' model lanes said
named_close n earlier names names' model lanes said f st is = stands_named n (Says (Close n)) earlier names names' model lanes said f st refl is

closed-other : (m n : List ℕ) (earlier : List (Reading Line)) → bytes_eq n m ≡ false → is_closed m (Says (Close n) ∷ earlier) ≡ is_closed m earlier
closed-other m n earlier e = rw e refl

closed-own : (n : List ℕ) (earlier : List (Reading Line)) → is_closed n (Says (Close n) ∷ earlier) ≡ true
closed-own n earlier = rw (name_itself n) refl

pub heard_close_no_lane : (n : List ℕ) (k : ℕ) (earlier : List (Reading Line)) (names : List (List ℕ)) (model : Option (List ℕ)) (lanes : List Queue) (said : List Report) (text text' : List ℕ)
    → Stands (Says (Close n) ∷ earlier) earlier names model lanes said → is_among names n ≡ false → k ≡ number_after earlier
    → text' ≡ text ++ ended (report_text (Of n k (told.Refused word.Clients))) → IsHeard (Says (Close n)) earlier names model lanes said text text'
heard_close_no_lane n k earlier names model lanes said text text' st absent num is =
    let reading = Says (Close n) in let e = Of n k (told.Refused word.Clients) in
    let lane : has_lane (length lanes) (reading ∷ earlier) n ≡ false = ap (λ ns. is_among ns n) (sym st.names) ∙ absent in
    heard reading earlier names model model lanes lanes said e text text' st
    (hands_then_report names lanes lanes e text text text' (hands_none names lanes text) (due_to_none n names lanes absent) is)
    (ap (λ b. close_answer (number_after earlier) n b (is_closed n earlier) ∷ []) lane
    ∙ ap (λ j. Of n j (told.Refused word.Clients) ∷ []) (sym num))
    refl st.model (booked_same names lanes lanes earlier (reading ∷ earlier) refl st.booked
    (λ m among. (refl, closed-other m n earlier (apart n m names (bytes_eq n m) refl absent among))))

-- the lane is closed, if it was not
pub heard_close : (n : List ℕ) (k c : ℕ) (e : Report) (earlier : List (Reading Line)) (names : List (List ℕ)) (model : Option (List ℕ)) (lanes new : List Queue) (lane shut : Queue) (said : List Report) (text text' : List ℕ)
    → Stands (Says (Close n) ∷ earlier) earlier names model lanes said → slice_get names c ≡ Some n → slice_get lanes c ≡ Some lane → k ≡ number_after earlier
    → e ≡ close_answer k n true lane.closed → shut.put ≡ lane.put → shut.closed ≡ true → unhanded new ≡ unhanded (slice_set lanes c shut)
    → HandsThen names lanes new e text text' → IsHeard (Says (Close n)) earlier names model new said text text'
heard_close n k c e earlier names model lanes new lane shut said text text' st at la num v put closed same h =
    let reading = Says (Close n) in
    let book = booked_at names lanes earlier c n lane st.booked at la in
    let inside : has_lane (length lanes) (reading ∷ earlier) n ≡ true = ap (λ ns. is_among ns n) (sym st.names) ∙ among_at n names c at in
    heard reading earlier names model model lanes new said e text text' st h
    (ap (λ b. close_answer (number_after earlier) n b (is_closed n earlier) ∷ []) inside
    ∙ ap (λ x. x ∷ []) (sym (v ∙ ap (λ j. close_answer j n true lane.closed) num ∙ ap (close_answer (number_after earlier) n true) book.1)))
    (length-unhanded new (slice_set lanes c shut) same ∙ length-set lanes c shut) st.model
    (booked-set names lanes new earlier (reading ∷ earlier) c n shut st.distinct st.booked at same (put ∙ book.0) (closed ∙ sym (closed-own n earlier))
    (λ m far. (refl, closed-other m n earlier far)))

-- ## A line that changes no client

pub heard_told : (reading : Reading Line) (e : Report) (earlier : List (Reading Line)) (names : List (List ℕ)) (model : Option (List ℕ)) (lanes new : List Queue) (said : List Report) (text text' : List ℕ)
    → Stands (reading ∷ earlier) earlier names model lanes said → in_force (reading ∷ earlier) ≡ in_force earlier
    → ((m : List ℕ) → (requests m (reading ∷ earlier) ≡ requests m earlier) × (is_closed m (reading ∷ earlier) ≡ is_closed m earlier))
    → answer (length lanes) earlier reading ≡ e ∷ [] → unhanded new ≡ unhanded lanes → HandsThen names lanes new e text text'
    → IsHeard reading earlier names model new said text text'
heard_told reading e earlier names model lanes new said text text' st force none due same h =
    heard reading earlier names model model lanes new said e text text' st h due (length-unhanded new lanes same) (st.model ∙ sym force)
    (booked_same names lanes new earlier (reading ∷ earlier) same st.booked (λ m among. none m))
