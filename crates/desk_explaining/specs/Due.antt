-- What `explain` answers to a line: what `serve` answers, and its reasons.
--
-- It follows from the earlier lines and the number of lanes. Only the order in which an answer tells decisions is left open: it is
-- any in which each decision stands behind those that it needs.
use Rattle.std.specs.Prelude.{◌≡◌, ℕ, Bool, List, [], ◌∷◌, length, nat_le, if◌then◌else◌, Option, Some, Ok, codes, true}
use Rattle.std.specs.List.{zip}
use Rattle.hex.specs.Hex.{encode_lower}
use Rattle.sha2.specs.Sha256.{sha256}
use Rattle.serde_json.specs.Data.{Data, Items, Members, array, boolean, object, member, no_members}
use Rattle.serde_json.specs.Written.{compact_text}
use Rattle.feel_value.specs.Json.{json_of}
use Rattle.feel_value.specs.declared.feel.Outcome.{Outcome}
use Rattle.feel_value.specs.declared.feel.Outcome.TheVariants.{Is, Limit}
use Rattle.dmn_service.specs.Decision.{parameters_of, outcome_of}
use Rattle.dmn_plan.specs.Course.{IsCourseOf}
use Rattle.dmn_plan.specs.Request as plan
use Rattle.dmn_plan.specs.declared.course.Course.{Course}
use Rattle.json_writer.specs.Bounded.{most_bytes}
use Rattle.dmn_explain.specs.Explanation.{decisions_told, inputs_told}
use Rattle.desk_wire.specs.Parts.{with_name, with_number, with_word}
use Rattle.desk_wire.specs.Reading.{Reading, Says}
use Rattle.desk_wire.specs.Reports.{Report, Loaded, Reply, report_json, texts_of}
use Rattle.desk_wire.specs.declared.word.Word.TheVariants as word
use Rattle.desk_requests.specs.Line.{Line, Model, Request}
use Rattle.desk_requests.specs.Due.{answer, line_answer}
use Rattle.desk_requests.specs.State.{in_force, number_after}

-- ## The answer to a model

-- the sum by which a model is named: SHA-256 of its text, in hexadecimal digits
abbrev pub sum_of : List ℕ → List ℕ
sum_of text = encode_lower (sha256 text)

-- `{"line":k,"model":true,"read":{..},"sha256":".."}`: that the model is in force, and which it is
abbrev pub loaded : ℕ → Data → Data
loaded k json =
    object (with_number (codes "line") k (member (codes "model") (boolean true) (member (codes "read") json
    (with_name (codes "sha256") (sum_of (compact_text json)) no_members))))

-- ## The answer to a request

-- the result, or that a limit was broken, and the ticket
abbrev pub result_told : Outcome → ℕ → Members
result_told (Is value) t = member (codes "result") (json_of value) (with_number (codes "ticket") t no_members)
result_told Limit t = with_word (codes "fault") word.Limit (with_number (codes "ticket") t no_members)

-- the decisions; where their compact text is over 64 MiB, that they are long
abbrev pub decisions_or_long : Items → Members → Members
decisions_or_long decisions rest =
    if nat_le (length (compact_text (array decisions))) most_bytes
    then member (codes "decisions") (array decisions) rest
    else with_word (codes "explained") word.Long rest

-- `{"client":name,"line":k,"model":"..","service":s,"inputs":{..},"decisions":[..],"result":V,"ticket":t}`, with
-- `"explained":"long"` in place of the decisions where they are long, and `"fault":"limit"` in place of the result where a limit was
-- broken
abbrev pub explanation : List ℕ → ℕ → List ℕ → List ℕ → Members → Items → Outcome → ℕ → Data
explanation name k text service inputs decisions outcome t =
    object (with_name (codes "client") name (with_number (codes "line") k (with_name (codes "model") (sum_of text)
    (with_name (codes "service") service (member (codes "inputs") (object inputs)
    (decisions_or_long decisions (result_told outcome t)))))))

-- the inputs of a request, and what is told of the decisions on the way to its answer
pub record AreReasonsOf (misses : Bool) (q : plan.Request) (inputs : Members) (decisions : Items) : Type 0 where
  pub course : Course
  pub is : IsCourseOf q course
  pub read : inputs ≡ inputs_told (zip (parameters_of is.service) q.values)
  pub told : decisions ≡ decisions_told misses (outcome_of is.model (zip (parameters_of is.service) q.values)) course.items.now course.service.now

-- ## The answer to a line

-- The answer is what is reported of the line with this number, and how it came about: a model's sum, a reply's reasons.
abbrev pub IsExplained : Bool → ℕ → Option (List ℕ) → Line → Report → Data → Type 0
IsExplained misses k model (Model json) (Loaded line) answer = answer ≡ loaded line json
IsExplained misses k model (Request name service inputs) (Reply client ticket outcome) answer =
    (text : List ℕ) × (q : plan.Request) × (model ≡ Some text) × (plan.request_of text service inputs ≡ Ok q)
    × (given : Members) × (decisions : Items) × AreReasonsOf misses q given decisions
    × (answer ≡ explanation client k text service given decisions outcome ticket)
IsExplained misses k model line report answer = answer ≡ report_json report

-- what is said to a line, as it is read; nothing to a blank one
abbrev pub IsAnswer : Bool → ℕ → List (Reading Line) → Reading Line → List (List ℕ) → Type 0
IsAnswer misses lanes earlier (Says line) said =
    (told : Data) × IsExplained misses (number_after earlier) (in_force earlier) line (line_answer lanes earlier line) told
    × (said ≡ compact_text told ∷ [])
IsAnswer misses lanes earlier reading said = said ≡ texts_of (answer lanes earlier reading)
