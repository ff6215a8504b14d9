-- Internal: no public contract cites these words. What the classes of a table's columns are told of, and what they tell.
use Rattle.std.specs.Prelude.{◌≡◌, ℕ, List, map, false, Some}
use Rattle.std.specs.List.{slice_get}
use Rattle.std.specs.Int.{bit_at}
use Rattle.feel_value.specs.Datum.{Datum}
use Rattle.feel_text.specs.Meaning.{Bindings}
use Rattle.feel_text.specs.Tests.{Tests}
use Rattle.dmn_table.specs.declared.table.Rule as rule
use Rattle.dmn_table.specs.Hits.{does_hit}
use Rattle.dmn_table.specs.Parts.{rule_view}

-- of each rule its input entries
abbrev pub input_entries : List rule.Rule → List (List Tests)
input_entries rules = map (λ r. r.tests.items) rules

-- each rule whose bit is not set misses, the first having the lowest bit
abbrev pub MissUnset : Bindings → List Datum → List rule.Rule → ℕ → Type 0
MissUnset m values rules word = (i : ℕ) (r : rule.Rule) → slice_get rules i ≡ Some r → bit_at word i ≡ 0 → does_hit m values (rule_view r) ≡ Some false
