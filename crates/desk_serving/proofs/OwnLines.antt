-- What a client is told follows from its own lines.
use Rattle.std.proofs.Common.{◌≡◌, ℕ, zero, suc, Bool, true, false, not, ◌||◌, if◌then◌else◌, List, [], ◌∷◌, ◌++◌, Option, Some, None, Result, Ok, Err, length, map, take, refl, sym, ap, ap₂, ◌∙◌, append-nil, subst}
use Rattle.std.specs.Prelude.{bytes_eq}
use Rattle.std.proofs.lemmas.List.{map-append}
use Rattle.serde_json.specs.Data.{Data}
use Rattle.box_core.specs.Mail.{is_no_capacity}
use Rattle.feel_value.specs.Distinct.{is_among}
use Rattle.dmn_plan.specs.ReadModel.{read_model}
use Rattle.dmn_plan.specs.Request as plan
use Rattle.dmn_plan.specs.declared.fault.ModelFault.{ModelFault}
use Rattle.dmn_plan.specs.declared.fault.TaskFault.{TaskFault}
use Rattle.desk_wire.specs.Reading.{Reading, Blank, Long, Syntax, Shape, Says}
use Rattle.desk_wire.specs.Reports.{Report, Refused, client_on}
use Rattle.desk_wire.specs.declared.word.Word.TheVariants as word
use Rattle.desk_requests.specs.Line.{Line, Model, Request, Close, Resize}
use Rattle.desk_serving.specs.Script.{of_client, same_client}
use Rattle.desk_requests.specs.State.{callers, closes, has_lane, in_force, is_closed, number_after, requests, requests_under, with_one, with_caller, with_requester, with_request_of}
use Rattle.desk_requests.specs.Due.{answer, answers, capacity_answer, close_answer, line_answer, model_answer, request_answer, resize_answer, task_answer}
use Rattle.desk_serving.specs.Own.{OwnLine, OwnLinesDecide, is_of, own_lines_of, told_to, without_number}
use Rattle.desk_serving.proofs.Owing.{of_client-append, of_other, of_same}
use Rattle.desk_requests.proofs.Names.{name_itself, or_true, same_name}

-- ## What a client's own lines say

abbrev ends_client : Line → Bool
ends_client (Model json) = false
ends_client (Request n s i) = false
ends_client (Close n) = true
ends_client (Resize n c) = false

abbrev own_closed : List OwnLine → Bool
own_closed [] = false
own_closed (line ∷ own) = ends_client line.says || own_closed own

-- the requests with that of one more line of the client
abbrev with_request : Bool → Option (List ℕ) → Line → List plan.Request → List plan.Request
with_request closed model (Model json) past = past
with_request closed model (Request n s i) past = if not closed then past ++ requests_under model s i else past
with_request closed model (Close n) past = past
with_request closed model (Resize n c) past = past

abbrev own_requests : List OwnLine → List plan.Request
own_requests [] = []
own_requests (line ∷ own) = with_request (own_closed own) line.model line.says (own_requests own)

abbrev of_line : Bool → Option (List ℕ) → Line → List OwnLine → List OwnLine
of_line b model line own = if b then (record { model = model; says = line }) ∷ own else own

closed_line : (name : List ℕ) (model : Option (List ℕ)) (line : Line) (own : List OwnLine) (b : Bool) → is_of name line ≡ b
    → (closes name (Says line) || own_closed own) ≡ own_closed (of_line b model line own)
closed_line name model (Model json) own true e = cc
closed_line name model (Model json) own false e = refl
closed_line name model (Request n s i) own true e = refl
closed_line name model (Request n s i) own false e = refl
closed_line name model (Close n) own true e = rw e refl
closed_line name model (Close n) own false e = rw e refl
closed_line name model (Resize n c) own true e = refl
closed_line name model (Resize n c) own false e = refl

closed_own : (name : List ℕ) (read : List (Reading Line)) → is_closed name read ≡ own_closed (own_lines_of name read)
closed_own name [] = refl
closed_own name (Blank ∷ earlier) = closed_own name earlier
closed_own name (Long ∷ earlier) = closed_own name earlier
closed_own name (Syntax ∷ earlier) = closed_own name earlier
closed_own name (Shape ∷ earlier) = closed_own name earlier
closed_own name (Says line ∷ earlier) =
    ap (λ c. closes name (Says line) || c) (closed_own name earlier) ∙ closed_line name (in_force earlier) line (own_lines_of name earlier) (is_of name line) refl

request_line : (name : List ℕ) (closed : Bool) (model : Option (List ℕ)) (line : Line) (past : List plan.Request) (b : Bool) → is_of name line ≡ b
    → with_request_of name closed model (Says line) past ≡ (if b then with_request closed model line past else past)
request_line name closed model (Model json) past true e = refl
request_line name closed model (Model json) past false e = refl
request_line name closed model (Request n s i) past true e = rw e refl
request_line name closed model (Request n s i) past false e = rw e refl
request_line name closed model (Close n) past true e = refl
request_line name closed model (Close n) past false e = refl
request_line name closed model (Resize n c) past true e = refl
request_line name closed model (Resize n c) past false e = refl

requests_line : (model : Option (List ℕ)) (line : Line) (own : List OwnLine) (b : Bool)
    → (if b then with_request (own_closed own) model line (own_requests own) else own_requests own) ≡ own_requests (of_line b model line own)
requests_line model line own true = refl
requests_line model line own false = refl

requests_own : (name : List ℕ) (read : List (Reading Line)) → requests name read ≡ own_requests (own_lines_of name read)
requests_own name [] = refl
requests_own name (Blank ∷ earlier) = requests_own name earlier
requests_own name (Long ∷ earlier) = requests_own name earlier
requests_own name (Syntax ∷ earlier) = requests_own name earlier
requests_own name (Shape ∷ earlier) = requests_own name earlier
requests_own name (Says line ∷ earlier) =
    let own = own_lines_of name earlier in
    ap₂ (λ c past. with_request_of name c (in_force earlier) (Says line) past) (closed_own name earlier) (requests_own name earlier)
    ∙ request_line name (own_closed own) (in_force earlier) line (own_requests own) (is_of name line) refl
    ∙ requests_line (in_force earlier) line own (is_of name line)

-- ## What is told, whatever the number of the line

unnumbered_task : (k : ℕ) (n : List ℕ) (closed : Bool) (ticket : ℕ) (r : Result plan.Request TaskFault) → without_number (task_answer k n closed ticket r) ≡ without_number (task_answer 0 n closed ticket r)
unnumbered_task k n true ticket (Ok q) = refl
unnumbered_task k n false ticket (Ok q) = refl
unnumbered_task k n true ticket (Err f) = refl
unnumbered_task k n false ticket (Err f) = refl

unnumbered_request : (k : ℕ) (n : List ℕ) (model : Option (List ℕ)) (lane closed : Bool) (ticket : ℕ) (s : List ℕ) (i : Data)
    → without_number (request_answer k n model lane closed ticket s i) ≡ without_number (request_answer 0 n model lane closed ticket s i)
unnumbered_request k n None true closed ticket s i = refl
unnumbered_request k n None false closed ticket s i = refl
unnumbered_request k n (Some t) false closed ticket s i = refl
unnumbered_request k n (Some t) true closed ticket s i = unnumbered_task k n closed ticket (plan.request_of t s i)

unnumbered_close : (k : ℕ) (n : List ℕ) (lane closed : Bool) → without_number (close_answer k n lane closed) ≡ without_number (close_answer 0 n lane closed)
unnumbered_close k n true true = refl
unnumbered_close k n true false = refl
unnumbered_close k n false true = refl
unnumbered_close k n false false = refl

unnumbered_capacity : (k : ℕ) (n : List ℕ) (c : ℕ) (b : Bool) → without_number (capacity_answer k n c b) ≡ without_number (capacity_answer 0 n c b)
unnumbered_capacity k n c true = refl
unnumbered_capacity k n c false = refl

unnumbered_resize : (k : ℕ) (n : List ℕ) (c : ℕ) (lane closed : Bool) → without_number (resize_answer k n c lane closed) ≡ without_number (resize_answer 0 n c lane closed)
unnumbered_resize k n c true true = refl
unnumbered_resize k n c true false = unnumbered_capacity k n c (is_no_capacity c)
unnumbered_resize k n c false true = refl
unnumbered_resize k n c false false = refl

-- a request for which a model is in force has a lane
with_a_lane : (n : List ℕ) (model : Option (List ℕ)) (lane closed : Bool) (ticket : ℕ) (s : List ℕ) (i : Data) → ((t : List ℕ) → model ≡ Some t → lane ≡ true)
    → request_answer 0 n model lane closed ticket s i ≡ request_answer 0 n model true closed ticket s i
with_a_lane n None true closed ticket s i h = refl
with_a_lane n None false closed ticket s i h = refl
with_a_lane n (Some t) lane closed ticket s i h = ap (λ l. request_answer 0 n (Some t) l closed ticket s i) (h t refl)

-- ## Whom it is told

model_client : (k : ℕ) {M : Type 0} (r : Result M ModelFault) → client_on (model_answer k r) ≡ None
model_client k (Ok m) = refl
model_client k (Err f) = refl

task_client : (k : ℕ) (n : List ℕ) (closed : Bool) (ticket : ℕ) (r : Result plan.Request TaskFault) → client_on (task_answer k n closed ticket r) ≡ Some n
task_client k n true ticket (Ok q) = refl
task_client k n false ticket (Ok q) = refl
task_client k n true ticket (Err f) = refl
task_client k n false ticket (Err f) = refl

request_client : (k : ℕ) (n : List ℕ) (model : Option (List ℕ)) (lane closed : Bool) (ticket : ℕ) (s : List ℕ) (i : Data) → client_on (request_answer k n model lane closed ticket s i) ≡ Some n
request_client k n None true closed ticket s i = refl
request_client k n None false closed ticket s i = refl
request_client k n (Some t) false closed ticket s i = refl
request_client k n (Some t) true closed ticket s i = task_client k n closed ticket (plan.request_of t s i)

close_client : (k : ℕ) (n : List ℕ) (lane closed : Bool) → client_on (close_answer k n lane closed) ≡ Some n
close_client k n true true = refl
close_client k n true false = refl
close_client k n false true = refl
close_client k n false false = refl

capacity_client : (k : ℕ) (n : List ℕ) (c : ℕ) (b : Bool) → client_on (capacity_answer k n c b) ≡ Some n
capacity_client k n c true = refl
capacity_client k n c false = refl

resize_client : (k : ℕ) (n : List ℕ) (c : ℕ) (lane closed : Bool) → client_on (resize_answer k n c lane closed) ≡ Some n
resize_client k n c true true = refl
resize_client k n c true false = capacity_client k n c (is_no_capacity c)
resize_client k n c false true = refl
resize_client k n c false false = refl

-- a report to another client, and to this one
told_other : (name n : List ℕ) (e : Report) → client_on e ≡ Some n → bytes_eq n name ≡ false → told_to name (e ∷ []) ≡ []
told_other name n e c other = ap (map (λ report. without_number report)) (of_other (Some name) e (ap (λ who. same_client who (Some name)) c ∙ other))

told_own : (name n : List ℕ) (e : Report) → client_on e ≡ Some n → bytes_eq n name ≡ true → told_to name (e ∷ []) ≡ without_number e ∷ []
told_own name n e c same = ap (map (λ report. without_number report)) (of_same (Some name) e (ap (λ who. same_client who (Some name)) c ∙ same))

-- ## A name that asked has a lane, if it has one in the end

abbrev Has : ℕ → List ℕ → List (List ℕ) → Type 0
Has lanes name names = is_among names name ≡ true → is_among (take lanes names) name ≡ true

or_then : (a b b' : Bool) → (b ≡ true → b' ≡ true) → (a || b) ≡ true → (a || b') ≡ true
or_then true b b' f h = refl
or_then false b b' f h = f h

among_last : (n : List ℕ) (names : List (List ℕ)) → is_among (names ++ n ∷ []) n ≡ true
among_last n [] = rw (name_itself n) refl
among_last n (k ∷ names) = rw (among_last n names) (or_true (bytes_eq n k))

among_more : (m name : List ℕ) (names : List (List ℕ)) → is_among names name ≡ true → is_among (names ++ m ∷ []) name ≡ true
among_more m name [] h = cc
among_more m name (k ∷ names) h = or_then (bytes_eq name k) (is_among names name) (is_among (names ++ m ∷ []) name) (among_more m name names) h

abbrev joined : Bool → List ℕ → List (List ℕ) → List (List ℕ)
joined b m names = if b then names else names ++ m ∷ []

joined_itself : (n : List ℕ) (names : List (List ℕ)) (b : Bool) → is_among names n ≡ b → is_among (joined b n names) n ≡ true
joined_itself n names true e = e
joined_itself n names false e = among_last n names

joined_more : (m name : List ℕ) (names : List (List ℕ)) (b : Bool) → is_among names name ≡ true → is_among (joined b m names) name ≡ true
joined_more m name names true h = h
joined_more m name names false h = among_more m name names h

apart : (name m : List ℕ) (names : List (List ℕ)) (t : Bool) → bytes_eq name m ≡ t → is_among names name ≡ true → is_among names m ≡ false → bytes_eq name m ≡ false
apart name m names true e among absent =
    let there : is_among names m ≡ true = subst (λ k. is_among names k ≡ true) (same_name name m e) among in
    let wrong : true ≡ false = sym there ∙ absent in cc
apart name m names false e among absent = e

none_taken : (n : ℕ) (name : List ℕ) → is_among (take n []) name ≡ false
none_taken zero name = refl
none_taken (suc n) name = refl

take_last : (lanes : ℕ) (name m : List ℕ) (names : List (List ℕ)) → bytes_eq name m ≡ false → is_among (take lanes (names ++ m ∷ [])) name ≡ true → is_among (take lanes names) name ≡ true
take_last zero name m [] d h = h
take_last zero name m (k ∷ names) d h = h
take_last (suc n) name m [] d h =
    let none : (bytes_eq name m || is_among (take n []) name) ≡ false = rw (d, none_taken n name) refl in
    let wrong : true ≡ false = sym h ∙ none in cc
take_last (suc n) name m (k ∷ names) d h =
    or_then (bytes_eq name k) (is_among (take n (names ++ m ∷ [])) name) (is_among (take n names) name) (take_last n name m names d) h

joined_lane : (lanes : ℕ) (m name : List ℕ) (names : List (List ℕ)) (b : Bool) → is_among names m ≡ b → is_among names name ≡ true
    → is_among (take lanes (joined b m names)) name ≡ true → is_among (take lanes names) name ≡ true
joined_lane lanes m name names true e a h = h
joined_lane lanes m name names false e a h = take_last lanes name m names (apart name m names (bytes_eq name m) refl a e) h

has_before : (lanes : ℕ) (m name : List ℕ) (names : List (List ℕ)) → Has lanes name (with_one m names) → Has lanes name names
has_before lanes m name names h = λ a. joined_lane lanes m name names (is_among names m) refl a (h (joined_more m name names (is_among names m) a))

has_requester : (lanes : ℕ) (name n : List ℕ) (model : Option (List ℕ)) (names : List (List ℕ)) → Has lanes name (with_requester model n names) → Has lanes name names
has_requester lanes name n None names h = h
has_requester lanes name n (Some t) names h = has_before lanes n name names h

has_caller : (lanes : ℕ) (name : List ℕ) (model : Option (List ℕ)) (reading : Reading Line) (names : List (List ℕ)) → Has lanes name (with_caller model reading names) → Has lanes name names
has_caller lanes name model Blank names h = h
has_caller lanes name model Long names h = h
has_caller lanes name model Syntax names h = h
has_caller lanes name model Shape names h = h
has_caller lanes name model (Says (Model json)) names h = h
has_caller lanes name model (Says (Request n s i)) names h = has_requester lanes name n model names h
has_caller lanes name model (Says (Close n)) names h = has_before lanes n name names h
has_caller lanes name model (Says (Resize n c)) names h = has_before lanes n name names h

-- the name of a line that asks for a lane has one
asked : (lanes : ℕ) (name n : List ℕ) (names : List (List ℕ)) → bytes_eq n name ≡ true → Has lanes name (with_one n names) → is_among (take lanes (with_one n names)) n ≡ true
asked lanes name n names e h =
    let own : Has lanes n (with_one n names) = subst (λ k. Has lanes k (with_one n names)) (sym (same_name n name e)) h in
    own (joined_itself n names (is_among names n) refl)

asked_under : (lanes : ℕ) (name n : List ℕ) (model : Option (List ℕ)) (names : List (List ℕ)) (t : List ℕ) → bytes_eq n name ≡ true → Has lanes name (with_requester model n names) → model ≡ Some t
    → is_among (take lanes (with_requester model n names)) n ≡ true
asked_under lanes name n None names t e h is = let wrong : ⊥ = cc in absurd wrong
asked_under lanes name n (Some u) names t e h is = asked lanes name n names e h

-- ## What a client is told

-- to its line, where so many of its requests came before
abbrev answer_by : Option (List ℕ) → Line → Bool → ℕ → Report
answer_by model (Model json) closed count = Refused 0 word.Shape
answer_by model (Request n s i) closed count = without_number (request_answer 0 n model true closed count s i)
answer_by model (Close n) closed count = without_number (close_answer 0 n true closed)
answer_by model (Resize n c) closed count = without_number (resize_answer 0 n c true closed)

abbrev own_answers : List OwnLine → List Report
own_answers [] = []
own_answers (line ∷ own) = own_answers own ++ answer_by line.model line.says (own_closed own) (length (own_requests own)) ∷ []

told_line : (name : List ℕ) (lanes : ℕ) (earlier : List (Reading Line)) (line : Line) (b : Bool) → is_of name line ≡ b → Has lanes name (callers (Says line ∷ earlier))
    → told_to name (line_answer lanes earlier line ∷ []) ≡ (if b then answer_by (in_force earlier) line (is_closed name earlier) (length (requests name earlier)) ∷ [] else [])
told_line name lanes earlier (Model json) true e h = cc
told_line name lanes earlier (Model json) false e h =
    ap (map (λ report. without_number report)) (of_other (Some name) (model_answer (number_after earlier) (read_model json)) (ap (λ who. same_client who (Some name)) (model_client (number_after earlier) (read_model json))))
told_line name lanes earlier (Request n s i) false e h =
    told_other name n (line_answer lanes earlier (Request n s i)) (request_client (number_after earlier) n (in_force earlier) _ _ _ s i) e
told_line name lanes earlier (Request n s i) true e h =
    let reading = Says (Request n s i) in
    let model = in_force earlier in
    let lane = has_lane lanes (reading ∷ earlier) n in
    told_own name n (line_answer lanes earlier (Request n s i)) (request_client (number_after earlier) n model _ _ _ s i) e
    ∙ ap (λ report. report ∷ [])
    (unnumbered_request (number_after earlier) n model lane (is_closed n earlier) (length (requests n earlier)) s i
    ∙ ap (λ report. without_number report) (with_a_lane n model lane (is_closed n earlier) (length (requests n earlier)) s i (λ t is. asked_under lanes name n model (callers earlier) t e h is))
    ∙ ap (λ m. without_number (request_answer 0 n model true (is_closed m earlier) (length (requests m earlier)) s i)) (same_name n name e))
told_line name lanes earlier (Close n) false e h =
    told_other name n (line_answer lanes earlier (Close n)) (close_client (number_after earlier) n _ _) e
told_line name lanes earlier (Close n) true e h =
    let lane = has_lane lanes (Says (Close n) ∷ earlier) n in
    told_own name n (line_answer lanes earlier (Close n)) (close_client (number_after earlier) n _ _) e
    ∙ ap (λ report. report ∷ [])
    (unnumbered_close (number_after earlier) n lane (is_closed n earlier)
    ∙ ap (λ l. without_number (close_answer 0 n l (is_closed n earlier))) (asked lanes name n (callers earlier) e h)
    ∙ ap (λ m. without_number (close_answer 0 n true (is_closed m earlier))) (same_name n name e))
told_line name lanes earlier (Resize n c) false e h =
    told_other name n (line_answer lanes earlier (Resize n c)) (resize_client (number_after earlier) n c _ _) e
told_line name lanes earlier (Resize n c) true e h =
    let lane = has_lane lanes (Says (Resize n c) ∷ earlier) n in
    told_own name n (line_answer lanes earlier (Resize n c)) (resize_client (number_after earlier) n c _ _) e
    ∙ ap (λ report. report ∷ [])
    (unnumbered_resize (number_after earlier) n c lane (is_closed n earlier)
    ∙ ap (λ l. without_number (resize_answer 0 n c l (is_closed n earlier))) (asked lanes name n (callers earlier) e h)
    ∙ ap (λ m. without_number (resize_answer 0 n c true (is_closed m earlier))) (same_name n name e))

one_more : (own : List OwnLine) (model : Option (List ℕ)) (line : Line) (closed : Bool) (count : ℕ) (b : Bool) → closed ≡ own_closed own → count ≡ length (own_requests own)
    → own_answers own ++ (if b then answer_by model line closed count ∷ [] else []) ≡ own_answers (of_line b model line own)
one_more own model line closed count true e f = ap₂ (λ c n. own_answers own ++ answer_by model line c n ∷ []) e f
one_more own model line closed count false e f = append-nil (own_answers own)

told_none : (name : List ℕ) (own : List OwnLine) (e : Report) → client_on e ≡ None → own_answers own ++ told_to name (e ∷ []) ≡ own_answers own
told_none name own e c =
    ap (λ more. own_answers own ++ map (λ report. without_number report) more) (of_other (Some name) e (ap (λ who. same_client who (Some name)) c)) ∙ append-nil (own_answers own)

told_next : (name : List ℕ) (lanes : ℕ) (reading : Reading Line) (earlier : List (Reading Line)) → Has lanes name (callers (reading ∷ earlier))
    → own_answers (own_lines_of name earlier) ++ told_to name (answer lanes earlier reading) ≡ own_answers (own_lines_of name (reading ∷ earlier))
told_next name lanes Blank earlier h = append-nil (own_answers (own_lines_of name earlier))
told_next name lanes Long earlier h = told_none name (own_lines_of name earlier) (Refused (number_after earlier) word.Long) refl
told_next name lanes Syntax earlier h = told_none name (own_lines_of name earlier) (Refused (number_after earlier) word.Syntax) refl
told_next name lanes Shape earlier h = told_none name (own_lines_of name earlier) (Refused (number_after earlier) word.Shape) refl
told_next name lanes (Says line) earlier h =
    let own = own_lines_of name earlier in
    ap (λ more. own_answers own ++ more) (told_line name lanes earlier line (is_of name line) refl h)
    ∙ one_more own (in_force earlier) line (is_closed name earlier) (length (requests name earlier)) (is_of name line) (closed_own name earlier) (ap length (requests_own name earlier))

told_all : (name : List ℕ) (lanes : ℕ) (read : List (Reading Line)) → Has lanes name (callers read) → told_to name (answers lanes read) ≡ own_answers (own_lines_of name read)
told_all name lanes [] h = refl
told_all name lanes (reading ∷ earlier) h =
    let said = answers lanes earlier in let more = answer lanes earlier reading in
    ap (map (λ report. without_number report)) (of_client-append (Some name) said more)
    ∙ map-append (λ report. without_number report) (of_client (Some name) said) (of_client (Some name) more)
    ∙ ap (λ xs. xs ++ told_to name more) (told_all name lanes earlier (has_caller lanes name (in_force earlier) reading (callers earlier) h))
    ∙ told_next name lanes reading earlier h

pub own_lines : OwnLinesDecide
own_lines name lanes lanes' lines written lines' written' one other has has' same =
    ap (map (λ report. without_number report)) (one.each (Some name))
    ∙ told_all name lanes one.readings (λ _. has)
    ∙ ap (λ own. own_answers own) same
    ∙ sym (told_all name lanes' other.readings (λ _. has'))
    ∙ sym (ap (map (λ report. without_number report)) (other.each (Some name)))
