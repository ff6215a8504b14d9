-- Clients after a line, and the answer to a request.
use Rattle.std.proofs.Common.{◌≡◌, ◌+◌, ◌<◌, ◌≤◌, ◌^◌, ◌%◌, ℕ, Bool, true, false, List, [], ◌∷◌, ◌++◌, Some, None, Result, Ok, Err, length, get_or, map, option_map, slice_get, slice_set, string_bytes, if◌then◌else◌, refl, sym, ap, ◌∙◌, arith, subst}
use Rattle.std.specs.Arc.{arc_value}
use Rattle.std.specs.Prelude.{bytes_eq}
use Rattle.std.proofs.Math.Nat.{mod-eq_of_lt}
use Rattle.std.proofs.lemmas.List.{length-append, length-map}
use Rattle.serde_json.specs.Data.{Data}
use Rattle.feel_value.specs.Distinct.{is_among}
use Rattle.dmn_plan.specs.Request as plan
use Rattle.dmn_plan.specs.declared.fault.TaskFault.{TaskFault}
use Rattle.desk_wire.specs.Reading.{Reading, Says}
use Rattle.desk_wire.specs.Reports.{Of}
use Rattle.desk_wire.specs.Words.{task_fault_word}
use Rattle.desk_wire.specs.declared.report.Told.TheVariants as told
use Rattle.desk_wire.specs.declared.word.Word.TheVariants as word
use Rattle.desk_requests.specs.Due.{line_answer, request_answer, task_answer}
use Rattle.desk_requests.specs.Line.{Line, Model, Request}
use Rattle.desk_requests.specs.Register.{Answers, Client, StandsAfter, answer_view, client_after, client_view, clients_of, force_of, name_of, names_of, with_accepted, with_client}
use Rattle.desk_requests.specs.State.{callers, has_lane, in_force, is_closed, names_with_lanes, number_after, requests, requests_under, with_one}
use Rattle.desk_requests.specs.declared.register.Answer.{Answer}
use Rattle.desk_requests.specs.declared.register.Client as held
use Rattle.desk_requests.specs.declared.register.Register.{Register}
use Rattle.desk_requests.proofs.Booking.{as_before, lanes-distinct, names_told, same_client, same_elsewhere, same_of_all, set_one, told_at, with_client-told}
use Rattle.desk_requests.proofs.Callers.{requests-accepted, requests-closed, requests-few, requests-other, requests-refused}
use Rattle.desk_requests.proofs.Names.{among_at, get_at, get_inside, get_map, same_name}

-- ## A name that asked for a lane

pub names_are : (clients : List held.Client) → map (λ (c : held.Client). string_bytes c.name) clients ≡ map name_of (map client_view clients)
names_are [] = refl
names_are (c ∷ clients) = ap (λ ns. string_bytes c.name ∷ ns) (names_are clients)

-- the client at a place is the one that is held there
pub at_place : (clients : List held.Client) (place : ℕ) (x : held.Client) (client : Client) → place < length clients → x ≡ get_or clients place x
    → slice_get (map client_view clients) place ≡ Some client → client ≡ client_view x
at_place clients place x client within is at =
    let here : slice_get (map client_view clients) place ≡ Some (client_view x) = get_map client_view clients place x (get_at clients place x within is) in cc

pub within_clients : (clients : List held.Client) (place : ℕ) → place < length (map client_view clients) → place < length clients
within_clients clients place h = omega (arith, h, length-map clients client_view)

pub within_names : (clients : List held.Client) (place : ℕ) (n : List ℕ) → slice_get (map (λ (c : held.Client). string_bytes c.name) clients) place ≡ Some n → place < length clients
within_names clients place n at =
    omega (arith, get_inside (map (λ (c : held.Client). string_bytes c.name) clients) place n at, length-map clients (λ (c : held.Client). string_bytes c.name))

pub within_register : (register : Register) (place : ℕ) (n : List ℕ) → slice_get (names_of register) place ≡ Some n → place < length (clients_of register)
within_register register place n at = omega (arith, within_names register.clients.items place n at, length-map register.clients.items client_view)

-- The clients stand as after the earlier lines, and the line's name has its lane, if there was one.
pub record Named (lanes : ℕ) (register : Register) (earlier : List (Reading Line)) (reading : Reading Line) : Type 0 where
  pub counted : register.lanes ≡ lanes
  pub model : force_of register ≡ in_force earlier
  pub clients : clients_of register ≡ map (client_after earlier) (names_with_lanes lanes (reading ∷ earlier))
  pub names : names_of register ≡ names_with_lanes lanes (reading ∷ earlier)

pub named : (old new : Register) (lanes : ℕ) (earlier : List (Reading Line)) (reading : Reading Line) (n : List ℕ) → StandsAfter lanes old earlier
    → callers (reading ∷ earlier) ≡ with_one n (callers earlier) → clients_of new ≡ with_client old.lanes n (clients_of old) → new.plan ≡ old.plan → new.lanes ≡ old.lanes
    → Named lanes new earlier reading
named old new lanes earlier reading n s cs is plan same =
    let clients : clients_of new ≡ map (client_after earlier) (names_with_lanes lanes (reading ∷ earlier)) =
    is ∙ ap (λ j. with_client j n (clients_of old)) s.count ∙ ap (λ ks. with_client lanes n ks) s.clients ∙ with_client-told lanes n reading earlier cs in
    record {
      counted = same ∙ s.count;
      model = ap (λ p. option_map arc_value p) plan ∙ s.model;
      clients = clients;
      names = names_are new.clients.items ∙ ap (map name_of) clients ∙ names_told earlier (names_with_lanes lanes (reading ∷ earlier));
    }

-- it has one
pub has_one : (lanes : ℕ) (register : Register) (earlier : List (Reading Line)) (reading : Reading Line) (n : List ℕ) (place : ℕ) → Named lanes register earlier reading
    → slice_get (names_of register) place ≡ Some n → has_lane lanes (reading ∷ earlier) n ≡ true
has_one lanes register earlier reading n place m at = among_at n (names_with_lanes lanes (reading ∷ earlier)) place (ap (λ ns. slice_get ns place) (sym m.names) ∙ at)

-- and its client stands there
pub client_there : (lanes : ℕ) (register : Register) (earlier : List (Reading Line)) (reading : Reading Line) (n : List ℕ) (place : ℕ) → Named lanes register earlier reading
    → slice_get (names_of register) place ≡ Some n → slice_get (clients_of register) place ≡ Some (client_after earlier n)
client_there lanes register earlier reading n place m at =
    ap (λ ks. slice_get ks place) m.clients ∙ told_at earlier (names_with_lanes lanes (reading ∷ earlier)) place n (ap (λ ns. slice_get ns place) (sym m.names) ∙ at)

-- or it has none
pub has_none : (lanes : ℕ) (register : Register) (earlier : List (Reading Line)) (reading : Reading Line) (n : List ℕ) → Named lanes register earlier reading
    → is_among (names_of register) n ≡ false → has_lane lanes (reading ∷ earlier) n ≡ false
has_none lanes register earlier reading n m absent = ap (λ ns. is_among ns n) (sym m.names) ∙ absent

-- ## Clients after the line

-- of a line that changes no client
unchanged : (lanes : ℕ) (register : Register) (earlier : List (Reading Line)) (reading : Reading Line) → Named lanes register earlier reading
    → ((m : List ℕ) → client_after earlier m ≡ client_after (reading ∷ earlier) m)
    → clients_of register ≡ map (client_after (reading ∷ earlier)) (names_with_lanes lanes (reading ∷ earlier))
unchanged lanes register earlier reading m h = m.clients ∙ same_of_all (client_after earlier) (client_after (reading ∷ earlier)) (names_with_lanes lanes (reading ∷ earlier)) h

-- of one that would change only a client without a lane
pub elsewhere : (lanes : ℕ) (register : Register) (earlier : List (Reading Line)) (reading : Reading Line) (n : List ℕ) → Named lanes register earlier reading
    → is_among (names_of register) n ≡ false → ((m : List ℕ) → bytes_eq n m ≡ false → client_after earlier m ≡ client_after (reading ∷ earlier) m)
    → clients_of register ≡ map (client_after (reading ∷ earlier)) (names_with_lanes lanes (reading ∷ earlier))
elsewhere lanes register earlier reading n m absent h =
    m.clients ∙ same_elsewhere (client_after earlier) (client_after (reading ∷ earlier)) n (names_with_lanes lanes (reading ∷ earlier)) (has_none lanes register earlier reading n m absent) h

-- of one that changes the client at a place
pub changed : (lanes : ℕ) (register : Register) (earlier : List (Reading Line)) (reading : Reading Line) (n : List ℕ) (place : ℕ) (now : List Client) (client : Client) → Named lanes register earlier reading
    → slice_get (names_of register) place ≡ Some n → now ≡ slice_set (clients_of register) place client → client ≡ client_after (reading ∷ earlier) n
    → ((m : List ℕ) → bytes_eq n m ≡ false → client_after earlier m ≡ client_after (reading ∷ earlier) m)
    → now ≡ map (client_after (reading ∷ earlier)) (names_with_lanes lanes (reading ∷ earlier))
changed lanes register earlier reading n place now client m at is new h =
    is ∙ ap (λ ks. slice_set ks place client) m.clients
    ∙ ap (λ k. slice_set (map (client_after earlier) (names_with_lanes lanes (reading ∷ earlier))) place k) new
    ∙ set_one (client_after earlier) (client_after (reading ∷ earlier)) (names_with_lanes lanes (reading ∷ earlier)) place n (lanes-distinct lanes (reading ∷ earlier))
    (ap (λ ns. slice_get ns place) (sym m.names) ∙ at) h

-- ## Requests

-- what is due to a request, by the model in force, whether its name has a lane, and what its service makes of its inputs
due_without_lane : (lanes : ℕ) (earlier : List (Reading Line)) (n s text : List ℕ) (i : Data) → in_force earlier ≡ Some text → has_lane lanes (Says (Request n s i) ∷ earlier) n ≡ false
    → line_answer lanes earlier (Request n s i) ≡ Of n (number_after earlier) (told.Refused word.Clients)
due_without_lane lanes earlier n s text i some lane =
    ap (λ b. request_answer (number_after earlier) n (in_force earlier) b (is_closed n earlier) (length (requests n earlier)) s i) lane
    ∙ ap (λ m. request_answer (number_after earlier) n m false (is_closed n earlier) (length (requests n earlier)) s i) some

pub due_with_lane : (lanes : ℕ) (earlier : List (Reading Line)) (n s text : List ℕ) (i : Data) (r : Result plan.Request TaskFault) → in_force earlier ≡ Some text
    → has_lane lanes (Says (Request n s i) ∷ earlier) n ≡ true → plan.request_of text s i ≡ r
    → line_answer lanes earlier (Request n s i) ≡ task_answer (number_after earlier) n (is_closed n earlier) (length (requests n earlier)) r
due_with_lane lanes earlier n s text i r some lane is =
    ap (λ b. request_answer (number_after earlier) n (in_force earlier) b (is_closed n earlier) (length (requests n earlier)) s i) lane
    ∙ ap (λ m. request_answer (number_after earlier) n m true (is_closed n earlier) (length (requests n earlier)) s i) some
    ∙ ap (λ q. task_answer (number_after earlier) n (is_closed n earlier) (length (requests n earlier)) q) is

pub ask_no_model : (old : Register) (k : ℕ) (n s : List ℕ) (i : Data) (answer : Answer) → force_of old ≡ None
    → answer_view answer ≡ Of n k (told.Refused word.Model) → Answers old k (Request n s i) answer old
ask_no_model old k n s i answer none view = λ lanes earlier st num.
    let nowhere : in_force earlier ≡ None = sym st.model ∙ none in
    let later = Says (Request n s i) ∷ earlier in
    let names : names_with_lanes lanes earlier ≡ names_with_lanes lanes later = rw nowhere refl in
    let due : Of n (number_after earlier) (told.Refused word.Model) ≡ line_answer lanes earlier (Request n s i) = rw nowhere refl in (
      view ∙ ap (λ j. Of n j (told.Refused word.Model)) num ∙ due,
      record {
        count = st.count;
        model = st.model;
        clients = st.clients
            ∙ same_of_all (client_after earlier) (client_after later) (names_with_lanes lanes earlier) (λ m. sym (as_before m earlier later (requests-refused m n s i earlier (rw nowhere refl)) refl))
            ∙ ap (map (client_after later)) names;
      },
    )

-- a request's name asks for a lane where a model is in force
pub asks : (n s text : List ℕ) (i : Data) (earlier : List (Reading Line)) → in_force earlier ≡ Some text → callers (Says (Request n s i) ∷ earlier) ≡ with_one n (callers earlier)
asks n s text i earlier some = rw some refl

pub ask_no_lane : (old new : Register) (k : ℕ) (n s text : List ℕ) (i : Data) (answer : Answer) → force_of old ≡ Some text → clients_of new ≡ with_client old.lanes n (clients_of old)
    → new.plan ≡ old.plan → new.lanes ≡ old.lanes → is_among (names_of new) n ≡ false
    → answer_view answer ≡ Of n k (told.Refused word.Clients) → Answers old k (Request n s i) answer new
ask_no_lane old new k n s text i answer force is plan same absent view = λ lanes earlier st num.
    let some : in_force earlier ≡ Some text = sym st.model ∙ force in
    let m = named old new lanes earlier (Says (Request n s i)) n st (asks n s text i earlier some) is plan same in
    let lane = has_none lanes new earlier (Says (Request n s i)) n m absent in
    let due = sym (due_without_lane lanes earlier n s text i some lane) in (
      view ∙ ap (λ j. Of n j (told.Refused word.Clients)) num ∙ due,
      record {
        count = m.counted;
        model = m.model;
        clients = elsewhere lanes new earlier (Says (Request n s i)) n m absent (λ j far. sym (as_before j earlier (Says (Request n s i) ∷ earlier) (requests-other j n s i earlier far) refl));
      },
    )

pub ask_fault : (old new : Register) (k : ℕ) (n s text : List ℕ) (i : Data) (answer : Answer) (place : ℕ) (fault : TaskFault) → force_of old ≡ Some text
    → clients_of new ≡ with_client old.lanes n (clients_of old) → new.plan ≡ old.plan → new.lanes ≡ old.lanes → slice_get (names_of new) place ≡ Some n
    → plan.request_of text s i ≡ Err fault
    → answer_view answer ≡ Of n k (told.Refused (task_fault_word fault)) → Answers old k (Request n s i) answer new
ask_fault old new k n s text i answer place fault force is plan same at bad view = λ lanes earlier st num.
    let some : in_force earlier ≡ Some text = sym st.model ∙ force in
    let m = named old new lanes earlier (Says (Request n s i)) n st (asks n s text i earlier some) is plan same in
    let lane = has_one lanes new earlier (Says (Request n s i)) n place m at in
    let due = sym (due_with_lane lanes earlier n s text i (Err fault) some lane bad) in
    let nothing : requests_under (in_force earlier) s i ≡ [] = rw (some, bad) refl in (
      view ∙ ap (λ j. Of n j (told.Refused (task_fault_word fault))) num ∙ due,
      record {
        count = m.counted;
        model = m.model;
        clients = unchanged lanes new earlier (Says (Request n s i)) m (λ j. sym (as_before j earlier (Says (Request n s i) ∷ earlier) (requests-refused j n s i earlier nothing) refl));
      },
    )

-- a request of a closed client adds none to any
still : (j n s : List ℕ) (i : Data) (earlier : List (Reading Line)) (b : Bool) → bytes_eq n j ≡ b → is_closed n earlier ≡ true → requests j (Says (Request n s i) ∷ earlier) ≡ requests j earlier
still j n s i earlier true e closed =
    subst (λ h. requests h (Says (Request n s i) ∷ earlier) ≡ requests h earlier) (same_name n j e) (requests-closed n s i earlier closed)
still j n s i earlier false e closed = requests-other j n s i earlier e

-- the next ticket is a number of 64 bits
next_ticket : (a k : ℕ) → a + 1 ≤ k → k < 2 ^ 64 → (a + 1) % 2 ^ 64 ≡ a + 1
next_ticket a k least most = mod-eq_of_lt (omega (arith, least, most))

accepted_clients : (lanes : ℕ) (mid : Register) (now : List Client) (earlier : List (Reading Line)) (n s text : List ℕ) (i : Data) (place : ℕ) (q : plan.Request) (closed : Bool)
    → Named lanes mid earlier (Says (Request n s i)) → in_force earlier ≡ Some text → plan.request_of text s i ≡ Ok q → slice_get (names_of mid) place ≡ Some n
    → number_after earlier < 2 ^ 64 → is_closed n earlier ≡ closed
    → now ≡ (if closed then clients_of mid else slice_set (clients_of mid) place (with_accepted (client_after earlier n)))
    → now ≡ map (client_after (Says (Request n s i) ∷ earlier)) (names_with_lanes lanes (Says (Request n s i) ∷ earlier))
accepted_clients lanes mid now earlier n s text i place q true m some good at few closed is =
    is ∙ unchanged lanes mid earlier (Says (Request n s i)) m
    (λ j. sym (as_before j earlier (Says (Request n s i) ∷ earlier) (still j n s i earlier (bytes_eq n j) refl closed) refl))
accepted_clients lanes mid now earlier n s text i place q false m some good at few closed is =
    let later = Says (Request n s i) ∷ earlier in
    let one : requests_under (in_force earlier) s i ≡ q ∷ [] = rw (some, good) refl in
    let more : requests n later ≡ requests n earlier ++ q ∷ [] = requests-accepted n s i earlier q closed one in
    let size : length (requests n later) ≡ length (requests n earlier) + 1 = ap length more ∙ length-append (requests n earlier) (q ∷ []) in
    let fits : (length (requests n earlier) + 1) % 2 ^ 64 ≡ length (requests n earlier) + 1 = next_ticket (length (requests n earlier)) (number_after earlier) (omega (arith, requests-few n earlier)) few in
    let new : with_accepted (client_after earlier n) ≡ client_after later n =
    same_client n ((length (requests n earlier) + 1) % 2 ^ 64) (length (requests n later)) (is_closed n earlier) (is_closed n later) (fits ∙ sym size) refl in
    changed lanes mid earlier (Says (Request n s i)) n place now (with_accepted (client_after earlier n)) m at is new
    (λ j far. sym (as_before j earlier later (requests-other j n s i earlier far) refl))

pub ask_accepted : (old mid new : Register) (k : ℕ) (n s text : List ℕ) (i : Data) (answer : Answer) (place : ℕ) (q : plan.Request) → k < 2 ^ 64 → force_of old ≡ Some text
    → clients_of mid ≡ with_client old.lanes n (clients_of old) → mid.plan ≡ old.plan → mid.lanes ≡ old.lanes → slice_get (names_of mid) place ≡ Some n
    → plan.request_of text s i ≡ Ok q → new.plan ≡ mid.plan → new.lanes ≡ mid.lanes
    → ((client : Client) → slice_get (clients_of mid) place ≡ Some client → answer_view answer ≡ task_answer k n client.closed client.accepted (Ok q))
    → ((client : Client) → slice_get (clients_of mid) place ≡ Some client → clients_of new ≡ (if client.closed then clients_of mid else slice_set (clients_of mid) place (with_accepted client)))
    → Answers old k (Request n s i) answer new
ask_accepted old mid new k n s text i answer place q fits force is plan same at good plan' same' view counts = λ lanes earlier st num.
    let some : in_force earlier ≡ Some text = sym st.model ∙ force in
    let m = named old mid lanes earlier (Says (Request n s i)) n st (asks n s text i earlier some) is plan same in
    let lane = has_one lanes mid earlier (Says (Request n s i)) n place m at in
    let there = client_there lanes mid earlier (Says (Request n s i)) n place m at in
    let due = sym (due_with_lane lanes earlier n s text i (Ok q) some lane good) in (
      view (client_after earlier n) there ∙ ap (λ j. task_answer j n (is_closed n earlier) (length (requests n earlier)) (Ok q)) num ∙ due,
      record {
        count = same' ∙ m.counted;
        model = ap (λ p. option_map arc_value p) plan' ∙ m.model;
        clients = accepted_clients lanes mid (clients_of new) earlier n s text i place q (is_closed n earlier) m some good at (subst (λ j. j < 2 ^ 64) num fits) refl (counts (client_after earlier n) there);
      },
    )
