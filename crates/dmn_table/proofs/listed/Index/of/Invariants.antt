use Rattle.std.proofs.Common.{◌≡◌, ℕ, ℤ, ◌+◌, List, drop}
use Rattle.std.specs.Option.{unwrap_or}
use Rattle.std.specs.Ordering.{int_cmp}
use Rattle.std.specs.BTreeMap.{get, get_by_text}
use Rattle.feel_value.specs.Datum.{number, text}
use Rattle.dmn_table.specs.Priority.{place}
use Rattle.dmn_table.proofs.listed.Index.of.Given as goal

abbrev pub invariant-loop-place : goal.invariant-loop-place
invariant-loop-place l =
    ((z : ℤ) → place l.values (number z) ≡ unwrap_or (get int_cmp l.index.numbers z) (l.place + place (drop l.place l.values) (number z)))
    × ((s : List ℕ) → place l.values (text s) ≡ unwrap_or (get_by_text l.index.texts s) (l.place + place (drop l.place l.values) (text s)))
