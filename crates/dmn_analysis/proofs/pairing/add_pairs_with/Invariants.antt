use Rattle.std.proofs.Common.{◌≡◌, ◌<◌, ℕ, List, [], Some, length}
use Rattle.std.specs.List.{slice_get, All}
use Rattle.dmn_analysis.specs.Sharing.{HaveMore, IsPair, IsPairOf}
use Rattle.dmn_analysis.specs.declared.pairs.Shared.{Shared}
use Rattle.dmn_analysis.proofs.pairing.add_pairs_with.Given as goal

abbrev pub invariant-loop-first : goal.invariant-loop-first
invariant-loop-first l =
    ((all : List Shared) (s : Shared) → slice_get all l.shared ≡ Some s → s.rules.items ≡ l.rules → All (IsPairOf all) l.initial.pairs.items → All (IsPairOf all) l.pairs.items)
    × ((l.pairs.items ≡ [] → l.first ≡ 0)
    × (HaveMore l.initial.pairs.items l.pairs.items × ((i a b : ℕ) → i < l.first → slice_get l.rules i ≡ Some a → slice_get l.rules l.second ≡ Some b → IsPair l.pairs.items a b)))
