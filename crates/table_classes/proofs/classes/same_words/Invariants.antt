use Rattle.std.proofs.Common.{◌≡◌, ℕ, Some}
use Rattle.std.specs.List.{slice_get}
use Rattle.table_classes.proofs.classes.same_words.Given as goal

abbrev pub invariant-loop : goal.invariant-loop
invariant-loop l = (k other : ℕ) → slice_get l.words.items k ≡ Some other → other ≡ l.word
