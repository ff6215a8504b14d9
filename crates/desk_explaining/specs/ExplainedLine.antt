-- Internal: no public contract cites these words. The pieces of the lines that explain.
use Rattle.std.specs.Prelude.{ℕ, List, ◌++◌, codes, decimal, Option, Some, None}
use Rattle.json.specs.Print.{quoted}
use Rattle.serde_json.specs.Written.{compact_text}
use Rattle.feel_value.specs.Json.{json_of}
use Rattle.feel_value.specs.declared.feel.Outcome.{Outcome}
use Rattle.feel_value.specs.declared.feel.Outcome.TheVariants.{Is, Limit}

-- `{"line":k,"model":true,"read":{..}`
abbrev pub read_of : ℕ → List ℕ → List ℕ
read_of k text = codes "{\"line\":" ++ (decimal k ++ (codes ",\"model\":true,\"read\":" ++ text))

-- `{"line":k,"model":true,"read":{..},"sha256":".."}`, with the newline
abbrev pub loaded_line : ℕ → List ℕ → List ℕ → List ℕ
loaded_line k text sum = read_of k text ++ (codes ",\"sha256\":" ++ (quoted sum ++ codes "}\n"))

-- `{"client":name,"line":k`
abbrev pub begin_of : List ℕ → ℕ → List ℕ
begin_of name k = codes "{\"client\":" ++ (quoted name ++ (codes ",\"line\":" ++ decimal k))

-- `,"model":"..","service":s,"inputs":`
abbrev pub asked_of : List ℕ → List ℕ → List ℕ
asked_of sum service = codes ",\"model\":" ++ (quoted sum ++ (codes ",\"service\":" ++ (quoted service ++ codes ",\"inputs\":")))

-- `,"decisions":[..]`, or `,"explained":"long"` where these grew too long
abbrev pub middle_of : Option (List ℕ) → List ℕ
middle_of (Some decisions) = codes ",\"decisions\":" ++ decisions
middle_of None = codes ",\"explained\":\"long\""

-- `,"result":V`, or `,"fault":"limit"` where a limit was broken
abbrev pub outcome_of : Outcome → List ℕ
outcome_of (Is value) = codes ",\"result\":" ++ compact_text (json_of value)
outcome_of Limit = codes ",\"fault\":\"limit\""

-- `,"ticket":t}`, with the newline
abbrev pub ticket_of : ℕ → List ℕ
ticket_of t = codes ",\"ticket\":" ++ (decimal t ++ codes "}\n")
