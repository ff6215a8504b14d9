-- Internal: no public contract cites these words. What stands under the keys of an object that is a boxed expression.
use Rattle.std.specs.Prelude.{ℕ, List, Option, None, Some, option_map, bytes_eq, codes, if◌then◌else◌}
use Rattle.serde_json.specs.Data.{Data}
use Rattle.dmn_form.specs.Model.{Name, table, list, context, context_with, members_of, entries_of}
use Rattle.dmn_form.specs.Draft.{Logic, text_of, table_of, logic_of, members_at, entries_at}
use Rattle.feel_value.specs.Found.{◌>>=◌}

-- what stands under the one key of an object
abbrev pub logic_under : List ℕ → Data → Option Logic
logic_under k d =
    if bytes_eq k (codes "list") then option_map (λ bs. list (members_of bs)) (members_at d)
    else (if bytes_eq k (codes "context") then option_map (λ es. context (entries_of es)) (entries_at d)
    else (if bytes_eq k (codes "table") then option_map table (table_of d) else None))

-- the context with a result, and what stands under the two keys of an object
abbrev pub context_with_of : Data → Data → Option Logic
context_with_of d r = entries_at d >>= λ es. logic_of r >>= λ b. Some (context_with (entries_of es) b)

-- the entry of a context, and what stands under its two keys
abbrev pub named_logic : Data → Data → Option (Name × Logic)
named_logic e n = logic_of e >>= λ b. text_of n >>= λ name. Some (name, b)
