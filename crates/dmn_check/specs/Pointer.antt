-- Places in a JSON value as JSON Pointers (RFC 6901).
use Rattle.std.specs.Prelude.{ℕ, List, [], ◌∷◌, ◌++◌, nat_eq, if◌then◌else◌, codes}
use Rattle.std.specs.List.{flat_map}
use Rattle.std.specs.Fmt.{decimal}
use Rattle.dmn_check.specs.declared.place.Step.{Step}
use Rattle.dmn_check.specs.declared.place.Step.TheVariants as step
use Rattle.dmn_check.specs.declared.place.Key.{Key}
use Rattle.dmn_check.specs.declared.place.Key.TheVariants.{Inputs, Decisions, Services, Name, Needs, Expr, List as ListKey, Context, Result, Table, Hit, Outputs, Values, Default, Rules, When, Then, Encapsulated, InputDecisions, InputData}

-- a key as it is written
abbrev pub key_text : Key → List ℕ
key_text Inputs = codes "inputs"
key_text Decisions = codes "decisions"
key_text Services = codes "services"
key_text Name = codes "name"
key_text Needs = codes "needs"
key_text Expr = codes "expr"
key_text ListKey = codes "list"
key_text Context = codes "context"
key_text Result = codes "result"
key_text Table = codes "table"
key_text Hit = codes "hit"
key_text Outputs = codes "outputs"
key_text Values = codes "values"
key_text Default = codes "default"
key_text Rules = codes "rules"
key_text When = codes "when"
key_text Then = codes "then"
key_text Encapsulated = codes "encapsulated"
key_text InputDecisions = codes "inputDecisions"
key_text InputData = codes "inputData"

-- a `~` is written as `~0`, and a `/` as `~1`
abbrev pub escaped_byte : ℕ → List ℕ
escaped_byte b = if nat_eq b 126 then codes "~0" else (if nat_eq b 47 then codes "~1" else b ∷ [])

abbrev pub escaped : List ℕ → List ℕ
escaped = flat_map escaped_byte

abbrev pub step_pointer : Step → List ℕ
step_pointer (step.Key k) = codes "/" ++ escaped (key_text k)
step_pointer (step.Index i) = codes "/" ++ decimal i

-- the JSON Pointer of a place
abbrev pub pointer_of : List Step → List ℕ
pointer_of = flat_map step_pointer
