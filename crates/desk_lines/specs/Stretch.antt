-- Internal: what a reader that reads ahead has left.
use Rattle.std.specs.Prelude.{ℕ, List, drop, length, Option, None, Some, option_map}
use Rattle.std.specs.Io.KnownBytes.{prepend_known, IsAtEnd}
use Rattle.desk_lines.specs.declared.stands.Stands.{Stands}
use Rattle.desk_lines.specs.declared.stands.Stands.TheVariants.{Reads, AtEnd, Failed}

-- the bytes of the last piece that were not read, what is left of the input behind them, and how the reader stands
pub record Stretch : Type 0 where
  pub waiting : List ℕ
  pub left : Option (List ℕ)
  pub stands : Stands

-- what reads will give
abbrev pub remaining_of : Stretch → Option (List ℕ)
remaining_of stretch = prepend_known stretch.waiting stretch.left

-- the same of a device that is read by itself until something is read ahead
abbrev pub left_of : Option (List ℕ) → Option Stretch → Option (List ℕ)
left_of own None = own
left_of own (Some stretch) = remaining_of stretch

-- the input behind so many bytes
abbrev pub left_after : Option (List ℕ) → List ℕ → Option (List ℕ)
left_after input came = option_map (λ xs. drop (length came) xs) input

-- where the end came, nothing is left
abbrev pub IsEnded : Stands → Option (List ℕ) → Type 0
IsEnded Reads left = Unit {0}
IsEnded AtEnd left = IsAtEnd left
IsEnded Failed left = Unit {0}
