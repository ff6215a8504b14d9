-- Internal: no public contract cites these words. The rules that hit, and their outputs.
use Rattle.std.specs.Prelude.{◌≡◌, true, List, map, Option, Some, None, if◌then◌else◌}
use Rattle.feel_value.specs.Datum.{Datum, null, list, items_of}
use Rattle.feel_value.specs.Limits.{is_value, nodes, depth}
use Rattle.feel_value.specs.declared.feel.Outcome.{Outcome}
use Rattle.feel_value.specs.declared.feel.Outcome.TheVariants.{Is, Limit}
use Rattle.feel_text.specs.Meaning.{Bindings}
use Rattle.feel_value.specs.Found.{value_of, ◌>>=◌, each}
use Rattle.dmn_table.specs.Hits.{does_hit, kept, values_of, output_of}
pub use Rattle.dmn_table.specs.Parts.{rules_view, have_entries}
use Rattle.dmn_table.specs.Priority.{Hit}
use Rattle.dmn_table.specs.Table.{Column, Rule}

-- the rules that hit, for these values of the input expressions
abbrev pub hits_among : Bindings → List Datum → List Rule → Option (List Rule)
hits_among m values rules = each (does_hit m values) rules >>= λ answers. Some (kept rules answers)

-- the output of a rule; None where a limit was broken
abbrev pub rule_output : List Column → Bindings → Rule → Option Datum
rule_output columns m rule = values_of m rule.gives >>= λ values. value_of (output_of columns values)

-- a value that has no parts
pub record IsScalar (d : Datum) : Type 0 where
  pub lawful : is_value d ≡ true
  pub single : nodes d ≡ 1
  pub flat : depth d ≡ 1

-- the values of a rule, where they make an output; None where a limit was broken
abbrev pub lawful_values : List Column → Bindings → Rule → Option (List Datum)
lawful_values columns m rule = values_of m rule.gives >>= λ values. value_of (output_of columns values) >>= λ output. Some values

-- the value of an outcome that is one
abbrev pub value_or_null : Outcome → Datum
value_or_null (Is d) = d
value_or_null Limit = null

-- the outputs of rules
abbrev pub outputs_of : List Column → Bindings → List Rule → Option (List Datum)
outputs_of columns m rules = each (rule_output columns m) rules

-- the hits, where the list of their outputs is a value
abbrev pub fitting : Option (List Hit) → Option (List Hit)
fitting None = None
fitting (Some hs) = if is_value (list (items_of (map (λ h. h.output) hs))) then Some hs else None
