-- Which rules of a table are known to miss.
use Rattle.std.specs.Prelude.{◌≡◌, ℕ, ◌/◌, ◌%◌, nat_eq, List, Bool, true, false, Option, Some, None}
use Rattle.std.specs.Int.{bit_at}
use Rattle.std.specs.List.{slice_get}
use Rattle.feel_value.specs.Datum.{Datum}
use Rattle.feel_text.specs.Meaning.{Bindings}
use Rattle.dmn_table.specs.declared.may_hit.MayHit.{MayHit}
use Rattle.dmn_table.specs.declared.table.Rule as code
use Rattle.dmn_table.specs.Hits.{does_hit}
use Rattle.dmn_table.specs.Parts.{rule_view}
use Rattle.dmn_table.specs.Table.{Rule}

abbrev pub is_unset_in : Option ℕ → ℕ → Bool
is_unset_in None i = false
is_unset_in (Some word) i = nat_eq (bit_at word i) 0

-- whether the rule at a place is left out of those that may hit
abbrev pub is_left_out : MayHit → ℕ → Bool
is_left_out some i = is_unset_in (slice_get some.words.items (i / 64)) (i % 64)

-- whatever the names stand for, the rules that are left out miss
abbrev pub LeavesOutOf : List Rule → List Datum → MayHit → Type 0
LeavesOutOf rules values some = (m : Bindings) (i : ℕ) (r : Rule) → slice_get rules i ≡ Some r → is_left_out some i ≡ true → does_hit m values r ≡ Some false

-- the same of rules as the code has them
abbrev pub LeavesOut : List code.Rule → List Datum → MayHit → Type 0
LeavesOut rules values some = (m : Bindings) (i : ℕ) (r : code.Rule) → slice_get rules i ≡ Some r → is_left_out some i ≡ true → does_hit m values (rule_view r) ≡ Some false
