-- What `explain` says without its reasons is what `serve` says.
use Rattle.std.specs.Prelude.{◌≡◌, ℕ, Bool, true, false, List, [], ◌∷◌, Option, codes}
use Rattle.feel_value.specs.Distinct.{is_among}
use Rattle.serde_json.specs.Data.{Data, Members, member, no_members, object}
use Rattle.desk_wire.specs.Reports.{Report, Loaded, Reply, report_json}
use Rattle.desk_requests.specs.Line.{Line}
use Rattle.desk_explaining.specs.Due.{IsExplained}

abbrev pub kept_if : Bool → List ℕ → Data → Members → Members
kept_if true key value rest = member key value rest
kept_if false key value rest = rest

-- the members under these keys
abbrev pub only : List (List ℕ) → Members → Members
only keys no_members = no_members
only keys (member key value rest) = kept_if (is_among keys key) key value (only keys rest)

abbrev pub only_in : List (List ℕ) → Data → Data
only_in keys (object members) = object (only keys members)
only_in keys value = value

abbrev pub model_keys : List (List ℕ)
model_keys = codes "line" ∷ codes "model" ∷ []

abbrev pub reply_keys : List (List ℕ)
reply_keys = codes "client" ∷ codes "fault" ∷ codes "result" ∷ codes "ticket" ∷ []

-- an answer with no more than `serve` says
abbrev pub without_reasons : Report → Data → Data
without_reasons (Loaded k) answer = only_in model_keys answer
without_reasons (Reply client ticket outcome) answer = only_in reply_keys answer
without_reasons report answer = answer

abbrev pub ReasonsAreAdded : Type 0
ReasonsAreAdded =
    (misses : Bool) (k : ℕ) (model : Option (List ℕ)) (line : Line) (report : Report) (answer : Data) → IsExplained misses k model line report answer
    → without_reasons report answer ≡ report_json report
