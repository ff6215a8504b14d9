-- The lines that are put together of pieces.
use Rattle.std.proofs.Common.{◌≡◌, ℕ, Bool, true, false, if◌then◌else◌, nat_le, List, [], ◌∷◌, ◌++◌, length, append_assoc, codes, decimal, refl, sym, ap, ◌∙◌, Option, Some, None, Ok}
use Rattle.json.specs.Print.{escape_byte, quoted}
use Rattle.std.specs.List.{zip}
use Rattle.serde_json.specs.Data.{Data, string, object, Items, Members, array, member}
use Rattle.serde_json.specs.Written.{compact_text, members_text}
use Rattle.feel_value.specs.declared.feel.Outcome.{Outcome}
use Rattle.feel_value.specs.declared.feel.Outcome.TheVariants.{Is, Limit}
use Rattle.dmn_service.specs.Decision.{parameters_of, outcome_of as found_for}
use Rattle.dmn_plan.specs.Course.{IsCourseOf}
use Rattle.dmn_plan.specs.Request.{Request, request_result}
use Rattle.dmn_plan.specs.declared.course.Course.{Course}
use Rattle.json_writer.specs.Bounded.{kept_text, most_bytes}
use Rattle.dmn_explain.specs.Explanation.{decisions_told, inputs_told}
use Rattle.desk_lines.specs.Lines.{ended}
use Rattle.desk_requests.specs.declared.register.Asked.{Asked}
use Rattle.desk_wire.specs.Parts.{with_name, with_number, with_word}
use Rattle.desk_wire.specs.declared.word.Word.TheVariants as word
use Rattle.desk_explaining.specs.StateView.{Explains}
use Rattle.desk_explaining.specs.Due.{explanation, loaded, result_told, sum_of}
use Rattle.desk_explaining.proofs.Counting.{one_each}
use Rattle.desk_explaining.specs.ExplainedLine.{begin_of, asked_of, middle_of, outcome_of, ticket_of, loaded_line, read_of}

pub pieces_3 : (l a b c : List ℕ) → ((l ++ a) ++ b) ++ c ≡ l ++ (a ++ (b ++ c))
pieces_3 l a b c = simp append_assoc

pub pieces_4 : (l a b c d : List ℕ) → (((l ++ a) ++ b) ++ c) ++ d ≡ l ++ (a ++ (b ++ (c ++ d)))
pieces_4 l a b c d = simp append_assoc

pub pieces_5 : (l a b c d e : List ℕ) → ((((l ++ a) ++ b) ++ c) ++ d) ++ e ≡ l ++ (a ++ (b ++ (c ++ (d ++ e))))
pieces_5 l a b c d e = simp append_assoc

-- ---- a model

pub loaded_told : (k : ℕ) (json : Data) → loaded_line k (compact_text json) (sum_of (compact_text json)) ≡ ended (compact_text (loaded k json))
unfolding escape_byte
loaded_told k json = simp append_assoc

-- ---- an explanation

begun : (text name : List ℕ) (k : ℕ) (rest : List ℕ)
    → (text ++ begin_of name k) ++ rest ≡ text ++ (123 ∷ (quoted (codes "client") ++ 58 ∷ (quoted name ++ 44 ∷ (quoted (codes "line") ++ 58 ∷ (decimal k ++ rest)))))
unfolding escape_byte
begun text name k rest = simp append_assoc

-- from its model on, up to its inputs
abbrev from_model : List ℕ → List ℕ → List ℕ → List ℕ
from_model sum service rest =
    44 ∷ (quoted (codes "model") ++ 58 ∷ (quoted sum ++ 44 ∷ (quoted (codes "service") ++ 58 ∷ (quoted service ++ 44 ∷ (quoted (codes "inputs") ++ 58 ∷ rest)))))

asked_headed : (sum service rest : List ℕ) → asked_of sum service ++ rest ≡ from_model sum service rest
unfolding escape_byte
asked_headed sum service rest = simp append_assoc

decisions_headed : (rest : List ℕ) → codes ",\"decisions\":" ++ rest ≡ 44 ∷ (quoted (codes "decisions") ++ 58 ∷ rest)
unfolding escape_byte
decisions_headed rest = refl

long_headed : (rest : List ℕ) → codes ",\"explained\":" ++ rest ≡ 44 ∷ (quoted (codes "explained") ++ 58 ∷ rest)
unfolding escape_byte
long_headed rest = refl

long_quoted : codes ",\"explained\":\"long\"" ≡ codes ",\"explained\":" ++ quoted (codes "long")
unfolding escape_byte
long_quoted = refl

result_line : (outcome : Outcome) (t : ℕ) → outcome_of outcome ++ ticket_of t ≡ members_text true (result_told outcome t) ++ 10 ∷ []
unfolding escape_byte
result_line (Is value) t = simp append_assoc
result_line Limit t = simp append_assoc

regroup : (x b a i w v o k : List ℕ) → (((((x ++ b) ++ a) ++ i) ++ (w ++ v)) ++ o) ++ k ≡ (x ++ b) ++ (a ++ (i ++ (w ++ (v ++ (o ++ k)))))
regroup x b a i w v o k = simp append_assoc

newline_last : (c n l k m u s q p i d v r : List ℕ)
    → 123 ∷ (c ++ 58 ∷ (n ++ 44 ∷ (l ++ 58 ∷ (k ++ 44 ∷ (m ++ 58 ∷ (u ++ 44 ∷ (s ++ 58 ∷ (q ++ 44 ∷ (p ++ 58 ∷ (i ++ 44 ∷ (d ++ 58 ∷ (v ++ (r ++ 10 ∷ [])))))))))))))
    ≡ (123 ∷ (c ++ 58 ∷ (n ++ 44 ∷ (l ++ 58 ∷ (k ++ 44 ∷ (m ++ 58 ∷ (u ++ 44 ∷ (s ++ 58 ∷ (q ++ 44 ∷ (p ++ 58 ∷ (i ++ 44 ∷ (d ++ 58 ∷ (v ++ r))))))))))))) ++ 10 ∷ []
newline_last c n l k m u s q p i d v r = simp append_assoc

abbrev from_client : List ℕ → ℕ → List ℕ → List ℕ
from_client name k rest = 123 ∷ (quoted (codes "client") ++ 58 ∷ (quoted name ++ 44 ∷ (quoted (codes "line") ++ 58 ∷ (decimal k ++ rest))))

-- a line whose key behind its inputs is written so
line_with : (text name : List ℕ) (k : ℕ) (sum service : List ℕ) (given : Members) (key written : List ℕ) (d : Data) (outcome : Outcome) (t : ℕ)
    → ((rest : List ℕ) → written ++ rest ≡ 44 ∷ (quoted key ++ 58 ∷ rest))
    → (((((text ++ begin_of name k) ++ asked_of sum service) ++ compact_text (object given)) ++ (written ++ compact_text d)) ++ outcome_of outcome) ++ ticket_of t
    ≡ text ++ ended (compact_text (object (with_name (codes "client") name (with_number (codes "line") k (with_name (codes "model") sum (with_name (codes "service") service
    (member (codes "inputs") (object given) (member key d (result_told outcome t)))))))))
line_with text name k sum service given key written d outcome t headed =
    let inputs : List ℕ = compact_text (object given) in
    let value : List ℕ = compact_text d in
    let told : List ℕ = members_text true (result_told outcome t) in
    regroup text (begin_of name k) (asked_of sum service) inputs written value (outcome_of outcome) (ticket_of t)
    ∙ ap (λ r. (text ++ begin_of name k) ++ (asked_of sum service ++ (inputs ++ r))) (headed (value ++ (outcome_of outcome ++ ticket_of t)))
    ∙ ap (λ r. (text ++ begin_of name k) ++ (asked_of sum service ++ (inputs ++ (44 ∷ (quoted key ++ 58 ∷ (value ++ r)))))) (result_line outcome t)
    ∙ ap (λ r. (text ++ begin_of name k) ++ r) (asked_headed sum service (inputs ++ (44 ∷ (quoted key ++ 58 ∷ (value ++ (told ++ 10 ∷ []))))))
    ∙ begun text name k (from_model sum service (inputs ++ (44 ∷ (quoted key ++ 58 ∷ (value ++ (told ++ 10 ∷ []))))))
    ∙ ap (λ r. text ++ r)
    (newline_last (quoted (codes "client")) (quoted name) (quoted (codes "line")) (decimal k) (quoted (codes "model")) (quoted sum) (quoted (codes "service")) (quoted service)
    (quoted (codes "inputs")) inputs (quoted key) value told)

-- the same where b says whether the decisions are short enough
by_length : (text name : List ℕ) (k : ℕ) (sum service : List ℕ) (given : Members) (decisions : Items) (outcome : Outcome) (t : ℕ) (b : Bool)
    → (((((text ++ begin_of name k) ++ asked_of sum service) ++ compact_text (object given)) ++ middle_of (if b then Some (compact_text (array decisions)) else None)) ++ outcome_of outcome) ++ ticket_of t
    ≡ text ++ ended (compact_text (object (with_name (codes "client") name (with_number (codes "line") k (with_name (codes "model") sum (with_name (codes "service") service
    (member (codes "inputs") (object given)
    (if b then member (codes "decisions") (array decisions) (result_told outcome t) else with_word (codes "explained") word.Long (result_told outcome t)))))))))
by_length text name k sum service given decisions outcome t true =
    line_with text name k sum service given (codes "decisions") (codes ",\"decisions\":") (array decisions) outcome t decisions_headed
by_length text name k sum service given decisions outcome t false =
    ap (λ l. ((((((text ++ begin_of name k) ++ asked_of sum service) ++ compact_text (object given)) ++ l) ++ outcome_of outcome) ++ ticket_of t)) long_quoted
    ∙ line_with text name k sum service given (codes "explained") (codes ",\"explained\":") (string (codes "long")) outcome t long_headed

pub explained_line : (text name : List ℕ) (k : ℕ) (model service : List ℕ) (given : Members) (decisions : Items) (outcome : Outcome) (t : ℕ)
    → (((((text ++ begin_of name k) ++ asked_of (sum_of model) service) ++ compact_text (object given)) ++ middle_of (kept_text (compact_text (array decisions)))) ++ outcome_of outcome) ++ ticket_of t
    ≡ text ++ ended (compact_text (explanation name k model service given decisions outcome t))
explained_line text name k model service given decisions outcome t =
    by_length text name k (sum_of model) service given decisions outcome t (nat_le (length (compact_text (array decisions))) most_bytes)

-- the pieces make up the line of an explanation
pub explains : (k : ℕ) (sum : List ℕ) (asked : Asked) (misses : Bool) (course : Course) (text begun asks inputs middle told text' : List ℕ) (listed : Option (List ℕ)) (c : IsCourseOf asked.task course)
    → listed ≡ kept_text (compact_text (array (decisions_told misses (found_for c.model (zip (parameters_of c.service) asked.task.values)) course.items.now course.service.now)))
    → begun ≡ text ++ begin_of asked.client.now k
    → asks ≡ begun ++ asked_of sum asked.service.now
    → (length asked.task.values ≡ length (parameters_of c.service) → inputs ≡ asks ++ compact_text (object (inputs_told (zip (parameters_of c.service) asked.task.values))))
    → middle ≡ inputs ++ middle_of listed
    → told ≡ middle ++ outcome_of course.result
    → text' ≡ told ++ ticket_of asked.ticket
    → Explains k sum asked misses text text'
explains k sum asked misses course text begun asks inputs middle told text' listed c list b a given_for m o t = λ model is takes.
    let found = found_for c.model (zip (parameters_of c.service) asked.task.values) in
    let given = inputs_told (zip (parameters_of c.service) asked.task.values) in
    let i = given_for (one_each asked.task course c takes) in
    let decisions = decisions_told misses found course.items.now course.service.now in (
      given,
      decisions,
      record { course = course; is = c; read = refl; told = refl },
      t ∙ ap (λ l. l ++ ticket_of asked.ticket)
          (o ∙ ap (λ r. middle ++ outcome_of r) c.result ∙ ap (λ l. l ++ outcome_of (request_result asked.task))
          (m ∙ ap (λ l. inputs ++ middle_of l) list ∙ ap (λ l. l ++ middle_of (kept_text (compact_text (array decisions))))
          (i ∙ ap (λ l. l ++ compact_text (object given)) (a ∙ ap (λ l. l ++ asked_of sum asked.service.now) b ∙ ap (λ s. (text ++ begin_of asked.client.now k) ++ asked_of s asked.service.now) is))))
          ∙ explained_line text asked.client.now k model asked.service.now given decisions (request_result asked.task) asked.ticket,
    )
