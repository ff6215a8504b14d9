-- Internal: no public contract cites these words. The text of an explanation, piece by piece.
use Rattle.std.specs.Prelude.{ℕ, List, [], ◌∷◌, ◌++◌, Bool, true, false, codes, Option, None, Some}
use Rattle.json.specs.Print.{quoted}
use Rattle.serde_json.specs.Data.{array, Items, member, no_members}
use Rattle.serde_json.specs.Written.{comma_if, compact_text, members_text}
use Rattle.feel_value.specs.Datum.{Datum}
use Rattle.feel_value.specs.Json.{json_of}
use Rattle.feel_value.specs.Found.{value_of}
use Rattle.feel_text.specs.Expr.{Expr}
use Rattle.feel_text.specs.Meaning.{Bindings}
use Rattle.dmn_table.specs.Table.{Table}
use Rattle.dmn_form.specs.Model.{Boxed}
use Rattle.dmn_logic.specs.Boxed.{boxed}
use Rattle.dmn_explain.specs.Placed.{value_told}
use Rattle.dmn_explain.specs.How.{how, misses_told, numbers_told, listed_told, told_as}
use Rattle.dmn_explain.specs.declared.key.Key.{Key}
use Rattle.dmn_explain.specs.declared.key.Key.TheVariants as key

abbrev pub name_of : Key → List ℕ
name_of key.Column = codes "column"
name_of key.Decided = codes "decided"
name_of key.Defaults = codes "defaults"
name_of key.Entries = codes "entries"
name_of key.Fault = codes "fault"
name_of key.Given = codes "given"
name_of key.Hits = codes "hits"
name_of key.Inputs = codes "inputs"
name_of key.Members = codes "members"
name_of key.Misses = codes "misses"
name_of key.Name = codes "name"
name_of key.Places = codes "places"
name_of key.Policy = codes "policy"
name_of key.Result = codes "result"
name_of key.Rule = codes "rule"
name_of key.Table = codes "table"
name_of key.Value = codes "value"

-- a key with its colon, behind a comma where a member stands before
abbrev pub key_text : Bool → List ℕ → List ℕ
key_text later k = comma_if later ++ (quoted k ++ 58 ∷ [])

-- the member of a value, or of the limit that was broken
abbrev pub valued_text : Bool → List ℕ → Option Datum → List ℕ
valued_text later k (Some d) = key_text later k ++ compact_text (json_of d)
valued_text later k None = key_text later (codes "fault") ++ quoted (codes "limit")

-- an object's beginning, up to its name
abbrev pub name_text : List ℕ → List ℕ
name_text n = 123 ∷ (key_text false (codes "name") ++ quoted n)

-- behind a member, the numbers of the rules that make the result, where these are known
abbrev pub decided_text : Option (List ℕ) → List ℕ
decided_text None = []
decided_text (Some ns) = key_text true (codes "decided") ++ compact_text (array (numbers_told ns))

-- behind a member, the rules that missed, where they are asked for
abbrev pub misses_text : Bool → List (ℕ × ℕ) → List ℕ
misses_text false xs = []
misses_text true xs = key_text true (codes "misses") ++ compact_text (array (misses_told xs))

-- behind a member, the places of a hit's values, where the hit policy goes by them
abbrev pub places_text : Bool → List (Option ℕ) → List ℕ
places_text false ps = []
places_text true ps = key_text true (codes "places") ++ compact_text (array (listed_told ps))

-- the member of a context's entries
abbrev pub entries_text : Items → List ℕ
entries_text es = key_text true (codes "entries") ++ compact_text (array es)

-- what ends the object of a context behind its entries: its result, where all of them have values
abbrev pub result_text : Bool → Bool → Boxed Expr Table → Bindings → List ℕ
result_text w true b m = members_text true (member (codes "result") (told_as (value_of (boxed b m)) (how w b m)) no_members)
result_text w false b m = 125 ∷ []

-- the member of a parameter, with its value or null
abbrev pub input_text : Bool → List ℕ → Option Datum → List ℕ
input_text later k o = key_text later k ++ compact_text (value_told o)
