use Rattle.std.proofs.Common.{◌≡◌, ◌<◌, ℕ, List, [], Some, length}
use Rattle.std.specs.List.{slice_get, All}
use Rattle.dmn_analysis.specs.Sharing.{HaveMore, IsPair, IsPairOf}
use Rattle.dmn_analysis.specs.declared.pairs.Shared.{Shared}
use Rattle.dmn_analysis.proofs.pairing.add_pairs.Given as goal

abbrev pub invariant-loop-second : goal.invariant-loop-second
invariant-loop-second l =
    ((all : List Shared) (s : Shared) → slice_get all l.shared ≡ Some s → s.rules.items ≡ l.rules → All (IsPairOf all) l.initial.pairs.items → All (IsPairOf all) l.pairs.items)
    × ((l.pairs.items ≡ [] → (l.initial.pairs.items ≡ []) × (l.second ≡ 1))
    × (HaveMore l.initial.pairs.items l.pairs.items
    × (length l.pairs.items < 100000 → (i j a b : ℕ) → i < j → j < l.second → slice_get l.rules i ≡ Some a → slice_get l.rules j ≡ Some b → IsPair l.pairs.items a b)))
