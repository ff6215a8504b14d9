-- Laws of scripts.
use Rattle.std.proofs.Common.{◌≡◌, ◌≢◌, ℕ, Bool, true, false, if◌then◌else◌, List, [], ◌∷◌, ◌++◌, length, map, Option, Some, None, option_map, true≢false, inl, inr, refl, ap, sym, ◌∙◌, subst, append-nil, codes, bytes_eq}
use Rattle.std.specs.List.{flat_map, list_any}
use Rattle.std.proofs.lemmas.Grind.{flat_map-append}
use Rattle.std.proofs.lemmas.Bool.{or_parts}
use Rattle.serde_json.specs.Data.{Data, number, string, object, unsigned, Members, no_members, member}
use Rattle.box_core.specs.History as broker
use Rattle.box_core.specs.Mail.{Status, Unknown, Waiting, Running, Settled, refusal_by, resize_refusal_by}
use Rattle.box_core.specs.Table.{Reports, LegalAfter, Legal, OrMemory, OrMemoryWhere, ForClient, AnswerReport, submit_report, take_report, release_report, close_report, resize_report}
use Rattle.box_core.specs.declared.faults.Refusal.TheVariants as refusal
use Rattle.box_core.specs.declared.faults.AddRefusal.TheVariants as unadded
use Rattle.dmn_plan.specs.Request.{Request, request_result}
use Rattle.feel_value.specs.declared.feel.Outcome.{Outcome}
use Rattle.desk_replaying.specs.Line.{Line, Model, Open, Submit, Take, Answer, AnswerWith, Release, Close, Resize, object_of, IsLawful, Reads}
use Rattle.desk_wire.specs.Reading.{Reading, Blank, Long, Syntax, Shape, Says}
use Rattle.desk_wire.proofs.ReadOnce.{some_same, read_once}
use Rattle.desk_replaying.specs.State.{Deed, Skipped, Loaded, Faulty, Asked, Refused, Turn, pair_of, history}
use Rattle.desk_replaying.specs.Due.{Due, Loads, Faults, Refuses, Asks, IsDone, IsDue, IsDueAs, Follows}
use Rattle.desk_replaying.specs.Reports.{said_of}
use Rattle.desk_replaying.specs.Script.{AreInOrder, Script, told_memory, tells_memory}
use Rattle.desk_wire.specs.declared.word.Word.TheVariants as word

-- ---- a script's history is legal

asked_done : (past : broker.History Request Outcome) (due : Due) (event : broker.Event Request) (told : broker.Report Request Outcome)
    → IsDone past due (Asked event told) → Reports (λ request. request) request_result past event told
asked_done past (Loads text) event told h = let wrong : ⊥ = cc in absurd wrong
asked_done past (Faults fault) event told h = let wrong : ⊥ = cc in absurd wrong
asked_done past (Refuses why) event told h = let wrong : ⊥ = cc in absurd wrong
asked_done past (Asks asks) event told h =
    let same_event : event ≡ asks = cc h.2 in
    let same_told : told ≡ h.0 = cc h.2 in
    rw (same_event, same_told) h.1

asked_due : (before : List Turn) (says : Line) (event : broker.Event Request) (told : broker.Report Request Outcome)
    → IsDue before says (Asked event told) → Reports (λ request. request) request_result (history before) event told
asked_due before says event told (inl done) = asked_done (history before) _ event told done
asked_due before says event told (inr lack) = let e = lack.1 in let wrong : ⊥ = cc in absurd wrong

asked_read : (before : List Turn) (reading : Reading Line) (event : broker.Event Request) (told : broker.Report Request Outcome)
    → IsDueAs before reading (Asked event told) → Reports (λ request. request) request_result (history before) event told
asked_read before Blank event told h = let wrong : ⊥ = cc in absurd wrong
asked_read before Long event told h = let wrong : ⊥ = cc in absurd wrong
asked_read before Syntax event told h = let wrong : ⊥ = cc in absurd wrong
asked_read before Shape event told h = let wrong : ⊥ = cc in absurd wrong
asked_read before (Says says) event told h = asked_due before says event told h

joined : (before : List Turn) (reading : Reading Line) (deed : Deed) (tail : broker.History Request Outcome) → IsDueAs before reading deed
    → LegalAfter (λ request. request) request_result (history before ++ pair_of deed) tail
    → LegalAfter (λ request. request) request_result (history before) (pair_of deed ++ tail)
joined before reading Skipped tail due legal = rw append-nil at legal
joined before reading (Loaded text) tail due legal = rw append-nil at legal
joined before reading (Faulty fault) tail due legal = rw append-nil at legal
joined before reading (Refused why) tail due legal = rw append-nil at legal
joined before reading (Asked event told) tail due legal = (asked_read before reading event told due, legal)

legal_from : (before turns : List Turn) → AreInOrder before turns → LegalAfter (λ request. request) request_result (history before) (history turns)
legal_from before [] order = tt
legal_from before (turn ∷ turns) order =
    let longer : history (before ++ turn ∷ []) ≡ history before ++ pair_of turn.deed =
    flat_map-append (λ (t : Turn). pair_of t.deed) before (turn ∷ []) ∙ ap (λ l. history before ++ l) (append-nil (pair_of turn.deed)) in
    joined before turn.reading turn.deed (history turns) order.0.due (rw longer at (legal_from (before ++ turn ∷ []) turns order.1))

-- what the broker was asked and reported is a legal history
pub legal : (lines output : List (List ℕ)) (script : Script lines output) → Legal (λ request. request) request_result (history script.turns)
legal lines output script = legal_from [] script.turns script.due

-- ---- a JSON value is at most one line

abbrev texts_as : (List ℕ → Option Line) → Data → Option Line
texts_as f (string text) = f text
texts_as f d = None

abbrev number_as : (ℕ → Option Line) → Data → Option Line
number_as f (number (unsigned n)) = f n
number_as f d = None

abbrev named : (List ℕ → Line) → Data → Option Line
named f name = texts_as (λ s. Some (f s)) name

abbrev named_number : (List ℕ → ℕ → Line) → Data → Data → Option Line
named_number f name n = number_as (λ k. named (λ s. f s k) name) n

abbrev line_in : Members → Option Line
line_in (member k d no_members) =
    if bytes_eq k (codes "model") then Some (Model d) else (if bytes_eq k (codes "release") then named Release d else named Close d)
line_in (member k d (member l e no_members)) =
    if bytes_eq k (codes "capacity") then (if bytes_eq l (codes "open") then named_number Open e d else named_number Resize e d)
    else (if bytes_eq k (codes "take") then named_number Take d e else named_number Answer d e)
line_in (member k inputs (member l service (member m name no_members))) = texts_as (λ s. named (λ n. Submit n s inputs) name) service
line_in (member k name (member l inputs (member m service (member n ticket no_members)))) =
    number_as (λ t. texts_as (λ s. named (λ c. AnswerWith c t s inputs) name) service) ticket
line_in ms = None

-- the only line that a JSON value may be
abbrev pub line_of : Data → Option Line
line_of (object ms) = line_in ms
line_of d = None

pub line_of_object : (says : Line) → line_of (object_of says) ≡ Some says
line_of_object (Model d) = refl
line_of_object (Open name n) = refl
line_of_object (Submit name service inputs) = refl
line_of_object (Take name t) = refl
line_of_object (Answer name t) = refl
line_of_object (AnswerWith name t service inputs) = refl
line_of_object (Release name) = refl
line_of_object (Close name) = refl
line_of_object (Resize name n) = refl

pub one_line : (says other : Line) → object_of says ≡ object_of other → says ≡ other
one_line says other e = some_same says other (sym (line_of_object says) ∙ ap line_of e ∙ line_of_object other)

-- ---- where out of memory is not told, what is due is one deed

memory_told : {A : Type 0} (tells : A → Bool) (x y : A) → x ≡ y → tells y ≡ true → tells x ≡ false → ⊥
memory_told tells x y e is_true quiet = true≢false (sym is_true ∙ sym (ap tells e) ∙ quiet)

or_memory : (due told : broker.Report Request Outcome) → OrMemory due told → told_memory told ≡ false → told ≡ due
or_memory due told (inl e) quiet = e
or_memory (broker.Added c) told (inr e) quiet = absurd (memory_told told_memory told (broker.NotAdded unadded.Memory) e refl quiet)
or_memory (broker.Taken job) told (inr e) quiet = absurd (memory_told told_memory told (broker.Refused refusal.Memory) e refl quiet)
or_memory (broker.Resized n) told (inr e) quiet = absurd (memory_told told_memory told (broker.Refused refusal.Memory) e refl quiet)
or_memory due told (inr e) quiet = e

unless : (condition : Type 0) (due told : broker.Report Request Outcome) → OrMemoryWhere condition due told → OrMemory due told
unless condition due told (inl e) = inl e
unless condition due told (inr e) = inr e.1

answer_once : (s : Status Request) (work : Request) (x y : broker.Report Request Outcome)
    → AnswerReport {O = Outcome} (λ (r : Request). r) s work x → AnswerReport {O = Outcome} (λ (r : Request). r) s work y → x ≡ y
answer_once Unknown work x y h k = h ∙ sym k
answer_once (Waiting other) work x y h k = h ∙ sym k
answer_once Settled work x y h k = h ∙ sym k
answer_once (Running other) work x y (inl a) (inl b) = a.1 ∙ sym b.1
answer_once (Running other) work x y (inl a) (inr b) = absurd (b.0 a.0)
answer_once (Running other) work x y (inr a) (inl b) = absurd (a.0 b.0)
answer_once (Running other) work x y (inr a) (inr b) = a.1 ∙ sym b.1

client_once : (o : Option ℕ) (row : ℕ → broker.Report Request Outcome → Type 0) (x y : broker.Report Request Outcome)
    → ((a : ℕ) → row a x → row a y → x ≡ y)
    → ForClient {W = Request} {O = Outcome} o (λ a. row a x) x → ForClient {W = Request} {O = Outcome} o (λ a. row a y) y → x ≡ y
client_once None row x y once h k = h ∙ sym k
client_once (Some a) row x y once h k = once a h k

reports_once : (past : broker.History Request Outcome) (event : broker.Event Request) (x y : broker.Report Request Outcome)
    → Reports (λ request. request) request_result past event x → Reports (λ request. request) request_result past event y
    → told_memory x ≡ false → told_memory y ≡ false → x ≡ y
reports_once past (broker.AddClient n) x y h k quiet silent = or_memory _ x h quiet ∙ sym (or_memory _ y k silent)
reports_once past (broker.Submit c w) x y h k quiet silent =
    client_once (broker.capacity past c)
    (λ capacity r. r ≡ submit_report (refusal_by (broker.is_closed past c) capacity (length (broker.accepted past c)) (length (broker.handed past c))) (length (broker.accepted past c)))
    x y (λ a p q. p ∙ sym q) h k
reports_once past (broker.Take c t) x y h k quiet silent =
    client_once (broker.capacity past c) (λ a r. OrMemory (take_report t (broker.status past c t)) r)
    x y (λ a p q. or_memory _ x p quiet ∙ sym (or_memory _ y q silent)) h k
reports_once past (broker.Answer c done) x y h k quiet silent =
    client_once (broker.capacity past c) (λ a r. AnswerReport {O = Outcome} (λ (q : Request). q) (broker.status past c done.ticket) done.work r)
    x y (λ a p q. answer_once (broker.status past c done.ticket) done.work x y p q) h k
reports_once past (broker.Release c) x y h k quiet silent =
    client_once (broker.capacity past c)
    (λ a r. r ≡ release_report (length (broker.handed past c)) (option_map (λ work. request_result work) (broker.kept past c (length (broker.handed past c)))))
    x y (λ a p q. p ∙ sym q) h k
reports_once past (broker.Close c) x y h k quiet silent =
    client_once (broker.capacity past c) (λ a r. r ≡ close_report (broker.is_closed past c)) x y (λ a p q. p ∙ sym q) h k
reports_once past (broker.Resize c n) x y h k quiet silent =
    client_once (broker.capacity past c)
    (λ capacity r. OrMemoryWhere (n ≢ capacity) (resize_report (resize_refusal_by (broker.is_closed past c) (length (broker.accepted past c)) (length (broker.handed past c)) n) n) r)
    x y (λ a p q. or_memory _ x (unless _ _ x p) quiet ∙ sym (or_memory _ y (unless _ _ y q) silent)) h k

done_once : (past : broker.History Request Outcome) (due : Due) (x y : Deed) → IsDone past due x → IsDone past due y
    → tells_memory x ≡ false → tells_memory y ≡ false → x ≡ y
done_once past (Loads text) x y h k quiet silent = h ∙ sym k
done_once past (Faults fault) x y h k quiet silent = h ∙ sym k
done_once past (Refuses why) x y h k quiet silent = h ∙ sym k
done_once past (Asks event) x y h k quiet silent =
    h.2 ∙ ap (Asked event) (reports_once past event h.0 k.0 h.1 k.1 (sym (ap tells_memory h.2) ∙ quiet) (sym (ap tells_memory k.2) ∙ silent)) ∙ sym k.2

due_once : (before : List Turn) (says : Line) (x y : Deed) → IsDue before says x → IsDue before says y
    → tells_memory x ≡ false → tells_memory y ≡ false → x ≡ y
due_once before says x y (inl h) (inl k) quiet silent = done_once (history before) _ x y h k quiet silent
due_once before says x y (inr lack) k quiet silent = absurd (memory_told tells_memory x (Refused word.Memory) lack.1 refl quiet)
due_once before says x y (inl h) (inr lack) quiet silent = absurd (memory_told tells_memory y (Refused word.Memory) lack.1 refl silent)

deed_once : (before : List Turn) (reading : Reading Line) (x y : Deed) → IsDueAs before reading x → IsDueAs before reading y
    → tells_memory x ≡ false → tells_memory y ≡ false → x ≡ y
deed_once before Blank x y h k quiet silent = h ∙ sym k
deed_once before Long x y h k quiet silent = h ∙ sym k
deed_once before Syntax x y h k quiet silent = h ∙ sym k
deed_once before Shape x y h k quiet silent = h ∙ sym k
deed_once before (Says says) x y h k quiet silent = due_once before says x y h k quiet silent

-- ---- and so there is one output

turn_same : (t u : Turn) → t.number ≡ u.number → t.line ≡ u.line → t.reading ≡ u.reading → t.deed ≡ u.deed → t ≡ u
turn_same t u p q r d =
    let by_number : ℕ → Turn = λ x. record { number = x; line = t.line; reading = t.reading; deed = t.deed } in
    let by_line : List ℕ → Turn = λ x. record { number = u.number; line = x; reading = t.reading; deed = t.deed } in
    let by_reading : Reading Line → Turn = λ x. record { number = u.number; line = u.line; reading = x; deed = t.deed } in
    let by_deed : Deed → Turn = λ x. record { number = u.number; line = u.line; reading = u.reading; deed = x } in
    ap by_number p ∙ ap by_line q ∙ ap by_reading r ∙ ap by_deed d

turn_once : (before : List Turn) (t u : Turn) → Follows before t → Follows before u → t.line ≡ u.line
    → tells_memory t.deed ≡ false → tells_memory u.deed ≡ false → t ≡ u
turn_once before t u f g same quiet silent =
    let reads : Reads t.line u.reading = rw same g.reads in
    let reading : t.reading ≡ u.reading = read_once object_of IsLawful one_line t.line t.reading u.reading f.reads reads in
    let due : IsDueAs before u.reading t.deed = rw reading at f.due in
    turn_same t u (f.number ∙ sym g.number) same reading (deed_once before u.reading t.deed u.deed due g.due quiet silent)

turns_once : (before turns others : List Turn) → AreInOrder before turns → AreInOrder before others
    → map (λ (t : Turn). t.line) turns ≡ map (λ (t : Turn). t.line) others
    → list_any (λ (t : Turn). tells_memory t.deed) turns ≡ false → list_any (λ (t : Turn). tells_memory t.deed) others ≡ false → turns ≡ others
turns_once before [] [] order other e quiet silent = refl
turns_once before [] (u ∷ us) order other e quiet silent = let wrong : ⊥ = cc in absurd wrong
turns_once before (t ∷ ts) [] order other e quiet silent = let wrong : ⊥ = cc in absurd wrong
turns_once before (t ∷ ts) (u ∷ us) order other e quiet silent =
    let head : t.line ≡ u.line = cc in
    let tail : map (λ (x : Turn). x.line) ts ≡ map (λ (x : Turn). x.line) us = cc in
    let n = or_parts (tells_memory t.deed) (list_any (λ (x : Turn). tells_memory x.deed) ts) quiet in
    let m = or_parts (tells_memory u.deed) (list_any (λ (x : Turn). tells_memory x.deed) us) silent in
    let same : t ≡ u = turn_once before t u order.0 other.0 head n.0 m.0 in
    let P : Turn → Type 0 = λ x. AreInOrder (before ++ x ∷ []) us in
    ap (λ x. x ∷ ts) same ∙ ap (λ l. u ∷ l) (turns_once (before ++ t ∷ []) ts us order.1 (subst P (sym same) other.1) tail n.1 m.1)

-- where out of memory is not told, the output is one function of the input
pub one_output : (lines output other : List (List ℕ)) (script : Script lines output) (second : Script lines other)
    → list_any (λ (t : Turn). tells_memory t.deed) script.turns ≡ false → list_any (λ (t : Turn). tells_memory t.deed) second.turns ≡ false → output ≡ other
one_output lines output other script second quiet silent =
    let same : script.turns ≡ second.turns = turns_once [] script.turns second.turns script.due second.due (script.each ∙ sym second.each) quiet silent in
    script.said ∙ ap (flat_map said_of) same ∙ sym second.said
