-- What the code's reading of the form stands for.
use Rattle.std.specs.Prelude.{ℕ, List, [], map, String, Vec, string_bytes, Option, option_map, None, Bool, false, codes}
use Rattle.std.specs.declared.alloc.Global.{Global}
use Rattle.serde_json.specs.Data.{Data, object}
use Rattle.serde_json.specs.Find.{get}
use Rattle.dmn_form.specs.Draft.{text_of, texts_of, list_of, some_text, or_else, has_only, column_of, rule_of, WrittenColumn, WrittenRule, WrittenTable}
use Rattle.feel_value.specs.Found.{◌>>=◌}
use Rattle.dmn_form.specs.declared.written.WrittenColumn as column
use Rattle.dmn_form.specs.declared.written.WrittenRule as rule
use Rattle.dmn_form.specs.declared.written.WrittenTable as table

abbrev pub texts_view : Vec (String Global) Global → List (List ℕ)
texts_view v = map string_bytes v.items

-- the text under a key of an object
abbrev pub text_at_view : List ℕ → Data → Option (List ℕ)
text_at_view key d = get key d >>= text_of

-- the texts under a key of an object
abbrev pub texts_at_view : List ℕ → Data → Option (List (List ℕ))
texts_at_view key d = get key d >>= texts_of

-- the text under a key of an object, if that is there
abbrev pub text_at_if_view : List ℕ → Data → Option (Option (List ℕ))
text_at_if_view key d = or_else None some_text (get key d)

abbrev pub texts_at_if_view : List ℕ → Data → Option (List (List ℕ))
texts_at_if_view key d = or_else [] texts_of (get key d)

-- an object whose keys are all among these
abbrev pub is_object_with : List (List ℕ) → Data → Bool
is_object_with keys (object ms) = has_only keys ms
is_object_with keys _ = false

abbrev pub column_view : column.WrittenColumn → WrittenColumn
column_view c = record { name = string_bytes c.name; values = texts_view c.values; fallback = option_map string_bytes c.fallback }

abbrev pub columns_view : Vec column.WrittenColumn Global → List WrittenColumn
columns_view v = map column_view v.items

abbrev pub columns_at_view : Data → Option (List WrittenColumn)
columns_at_view d = get (codes "outputs") d >>= list_of column_of

abbrev pub rule_view : rule.WrittenRule → WrittenRule
rule_view r = record { tests = texts_view r.tests; gives = texts_view r.gives }

abbrev pub rules_view : Vec rule.WrittenRule Global → List WrittenRule
rules_view v = map rule_view v.items

abbrev pub rules_at_view : Data → Option (List WrittenRule)
rules_at_view d = get (codes "rules") d >>= list_of rule_of

abbrev pub table_view : table.WrittenTable → WrittenTable
table_view t = record { hit = string_bytes t.hit; inputs = texts_view t.inputs; outputs = columns_view t.outputs; rules = rules_view t.rules }
