use Rattle.std.proofs.Common.{◌≡◌, ◌<◌, ℕ, [], Some, length}
use Rattle.std.specs.List.{slice_get, All}
use Rattle.dmn_analysis.specs.Sharing.{IsPair, IsPairOf}
use Rattle.dmn_analysis.specs.declared.pairs.Shared.{Shared}
use Rattle.dmn_analysis.proofs.pairing.pairs_of.Given as goal

abbrev pub invariant-loop-place : goal.invariant-loop-place
invariant-loop-place l =
    All (IsPairOf l.all) l.pairs.items
    × ((l.pairs.items ≡ [] → (k : ℕ) (s : Shared) → k < l.place → slice_get l.all k ≡ Some s → length s.rules.items < 2)
    × (length l.pairs.items < 100000 → (k i j a b : ℕ) (s : Shared) → k < l.place → slice_get l.all k ≡ Some s → i < j → slice_get s.rules.items i ≡ Some a → slice_get s.rules.items j ≡ Some b → IsPair l.pairs.items a b))
