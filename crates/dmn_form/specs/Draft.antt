-- The form of a model in JSON: which keys and kinds a JSON value must have to be a model as written.
use Rattle.std.specs.Prelude.{ℕ, List, [], ◌∷◌, Bool, true, ◌&&◌, if◌then◌else◌, Option, None, Some, option_map, bytes_eq, codes, nat_le}
use Rattle.std.specs.List.{list_any}
use Rattle.serde_json.specs.Data.{Data, null, boolean, number, string, array, object, Items, no_items, item, depth}
use Rattle.serde_json.specs.Data as json
use Rattle.serde_json.specs.Find.{get_member}
use Rattle.feel_value.specs.Found.{◌>>=◌}
use Rattle.dmn_form.specs.Model.{Name, Boxed, expression, table, list, context, context_with, members_of, entries_of, Decision, Service, Model}

-- ---- a model as written

pub record WrittenColumn : Type 0 where
  pub name : Name
  pub values : List (List ℕ)
  pub fallback : Option (List ℕ)

pub record WrittenRule : Type 0 where
  pub tests : List (List ℕ)
  pub gives : List (List ℕ)

pub record WrittenTable : Type 0 where
  pub hit : List ℕ
  pub inputs : List (List ℕ)
  pub outputs : List WrittenColumn
  pub rules : List WrittenRule

abbrev pub Logic : Type 0
Logic = Boxed (List ℕ) WrittenTable

abbrev pub Written : Type 0
Written = Decision (List ℕ) WrittenTable

abbrev pub Draft : Type 0
Draft = Model (List ℕ) WrittenTable

-- ---- reading the form

abbrev pub each_in : {Y : Type 0} → (Data → Option Y) → Items → Option (List Y)
each_in f no_items = Some []
each_in f (item d ds) = f d >>= λ y. each_in f ds >>= λ ys. Some (y ∷ ys)

abbrev pub text_of : Data → Option (List ℕ)
text_of (string s) = Some s
text_of _ = None

-- an array of what f reads
abbrev pub list_of : {Y : Type 0} → (Data → Option Y) → Data → Option (List Y)
list_of f (array ds) = each_in f ds
list_of f _ = None

abbrev pub texts_of : Data → Option (List (List ℕ))
texts_of = list_of text_of

-- each key of the object is one of these
abbrev pub has_only : List (List ℕ) → json.Members → Bool
has_only keys json.no_members = true
has_only keys (json.member k d ms) = list_any (bytes_eq k) keys && has_only keys ms

-- what f makes of an object's members, where each of its keys is one of these
abbrev pub object_of : {Y : Type 0} → List (List ℕ) → (json.Members → Option Y) → Data → Option Y
object_of keys f (object ms) = if has_only keys ms then f ms else None
object_of keys f _ = None

-- what f reads under a key that must be there
abbrev pub at : {Y : Type 0} → List ℕ → (Data → Option Y) → json.Members → Option Y
at key f ms = get_member key ms >>= f

-- what f reads under a key that may be left out, and otherwise y
abbrev pub or_else : {Y : Type 0} → Y → (Data → Option Y) → Option Data → Option Y
or_else y f None = Some y
or_else y f (Some d) = f d

abbrev pub at_if : {Y : Type 0} → List ℕ → Y → (Data → Option Y) → json.Members → Option Y
at_if key y f ms = or_else y f (get_member key ms)

abbrev pub some_text : Data → Option (Option (List ℕ))
some_text d = option_map Some (text_of d)

abbrev pub column_of : Data → Option WrittenColumn
column_of = object_of (codes "name" ∷ codes "values" ∷ codes "default" ∷ []) (λ ms.
    at (codes "name") text_of ms >>= λ name.
    at_if (codes "values") [] texts_of ms >>= λ values.
    at_if (codes "default") None some_text ms >>= λ fallback.
    Some (record { name = name; values = values; fallback = fallback }))

abbrev pub rule_of : Data → Option WrittenRule
rule_of = object_of (codes "when" ∷ codes "then" ∷ []) (λ ms.
    at (codes "when") texts_of ms >>= λ tests.
    at (codes "then") texts_of ms >>= λ gives.
    Some (record { tests = tests; gives = gives }))

abbrev pub table_of : Data → Option WrittenTable
table_of = object_of (codes "hit" ∷ codes "inputs" ∷ codes "outputs" ∷ codes "rules" ∷ []) (λ ms.
    at (codes "hit") text_of ms >>= λ hit.
    at (codes "inputs") texts_of ms >>= λ inputs.
    at (codes "outputs") (list_of column_of) ms >>= λ outputs.
    at (codes "rules") (list_of rule_of) ms >>= λ rules.
    Some (record { hit = hit; inputs = inputs; outputs = outputs; rules = rules }))

-- A text, or an object with the one key `list`, `context` or `table`, or with `context` and `result`. The keys of an object
-- stand in the order of their bytes, so `context` before `result` and `expr` before `name`.
abbrev mutual
  pub logic_of : Data → Option Logic
  logic_of (string s) = Some (expression s)
  logic_of (object ms) = logic_in ms
  logic_of _ = None

  pub logic_in : json.Members → Option Logic
  logic_in (json.member k d json.no_members) =
      if bytes_eq k (codes "list") then option_map (λ bs. list (members_of bs)) (members_at d)
      else (if bytes_eq k (codes "context") then option_map (λ es. context (entries_of es)) (entries_at d)
      else (if bytes_eq k (codes "table") then option_map table (table_of d) else None))
  logic_in (json.member k d (json.member l r json.no_members)) =
      if bytes_eq k (codes "context") && bytes_eq l (codes "result")
      then (entries_at d >>= λ es. logic_of r >>= λ b. Some (context_with (entries_of es) b)) else None
  logic_in _ = None

  pub members_at : Data → Option (List Logic)
  members_at (array ds) = members_in ds
  members_at _ = None

  pub members_in : Items → Option (List Logic)
  members_in no_items = Some []
  members_in (item d ds) = logic_of d >>= λ b. members_in ds >>= λ bs. Some (b ∷ bs)

  pub entries_at : Data → Option (List (Name × Logic))
  entries_at (array ds) = entries_in ds
  entries_at _ = None

  pub entries_in : Items → Option (List (Name × Logic))
  entries_in no_items = Some []
  entries_in (item d ds) = entry_at d >>= λ e. entries_in ds >>= λ es. Some (e ∷ es)

  pub entry_at : Data → Option (Name × Logic)
  entry_at (object ms) = entry_members ms
  entry_at _ = None

  pub entry_members : json.Members → Option (Name × Logic)
  entry_members (json.member k e (json.member l n json.no_members)) =
      if bytes_eq k (codes "expr") && bytes_eq l (codes "name")
      then (logic_of e >>= λ b. text_of n >>= λ name. Some (name, b)) else None
  entry_members _ = None

abbrev pub decision_of : Data → Option (Decision (List ℕ) WrittenTable)
decision_of = object_of (codes "name" ∷ codes "needs" ∷ codes "expr" ∷ []) (λ ms.
    at (codes "name") text_of ms >>= λ name.
    at (codes "needs") texts_of ms >>= λ needs.
    at (codes "expr") logic_of ms >>= λ logic.
    Some (record { name = name; needs = needs; logic = logic }))

abbrev pub service_of : Data → Option Service
service_of = object_of (codes "name" ∷ codes "outputs" ∷ codes "encapsulated" ∷ codes "inputDecisions" ∷ codes "inputData" ∷ []) (λ ms.
    at (codes "name") text_of ms >>= λ name.
    at (codes "outputs") texts_of ms >>= λ outputs.
    at (codes "encapsulated") texts_of ms >>= λ encapsulated.
    at (codes "inputDecisions") texts_of ms >>= λ input_decisions.
    at (codes "inputData") texts_of ms >>= λ input_data.
    Some (record { name = name; outputs = outputs; encapsulated = encapsulated; input_decisions = input_decisions; input_data = input_data }))

abbrev pub model_form : Data → Option Draft
model_form = object_of (codes "inputs" ∷ codes "decisions" ∷ codes "services" ∷ []) (λ ms.
    at (codes "inputs") texts_of ms >>= λ inputs.
    at (codes "decisions") (list_of decision_of) ms >>= λ decisions.
    at (codes "services") (list_of service_of) ms >>= λ services.
    Some (record { inputs = inputs; decisions = decisions; services = services }))

abbrev pub most_nesting : ℕ
most_nesting = 127

-- the model as written, where the value has the form and does not nest too deep
abbrev pub draft_of : Data → Option Draft
draft_of d = if nat_le (depth d) most_nesting then model_form d else None
