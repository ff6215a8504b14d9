use Rattle.std.proofs.Common.{◌≡◌, ℕ, length, Some}
use Rattle.std.specs.List.{slice_get}
use Rattle.dmn_analysis.specs.Kinds.{AsksOf, column_tests, kinds_of}
use Rattle.dmn_analysis.specs.declared.asked.Asked.{Asked}
use Rattle.dmn_analysis.proofs.kinds.kinds_asked.Given as goal

abbrev pub invariant-loop-place : goal.invariant-loop-place
invariant-loop-place l =
    (length l.asked.items ≡ l.place)
    × ((place : ℕ) (a : Asked) → slice_get l.asked.items place ≡ Some a → AsksOf l.words_only (kinds_of (column_tests l.table.rules place)) a)
