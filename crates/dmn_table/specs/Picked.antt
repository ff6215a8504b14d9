-- Internal: no public contract cites these words. The numbers beside values that were picked.
use Rattle.std.specs.Prelude.{ℤ, ℕ, List, [], map, Option, None, Some}
use Rattle.std.specs.Ordering.{int_eq}
use Rattle.dmn_table.specs.Hits.{kept}

-- the numbers beside those values that are the picked one; none where there are no values
abbrev pub numbers_with : (List ℤ → ℤ) → List ℕ → Option (List ℤ) → List ℕ
numbers_with pick numbers None = []
numbers_with pick numbers (Some zs) = kept numbers (map (int_eq (pick zs)) zs)
