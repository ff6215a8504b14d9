-- Internal: how large the numbers are that are known of the first members of a list.
use Rattle.std.specs.Prelude.{ℕ, Option, None, Some, ⊤}
use Rattle.dmn_ranges.specs.Numbers.{AreNear}
use Rattle.dmn_ranges.specs.declared.folded.Folded.{Folded}

abbrev pub IsNearIf : ℕ → Option Folded → Type 0
IsNearIf n None = ⊤
IsNearIf n (Some g) = AreNear n g.numbers
