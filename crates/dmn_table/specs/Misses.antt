-- Internal: no public contract cites these words. The first entry of a rule that is not met, entry by entry.
use Rattle.std.specs.Prelude.{ℕ, ◌+◌, List, ◌∷◌, Bool, not, Option, Some}
use Rattle.std.specs.List.{position_from}
use Rattle.feel_value.specs.Found.{◌>>=◌}
use Rattle.dmn_table.specs.Listed.{first_of}

-- the first miss, where this one was found before the column, and these are the answers from the column on
abbrev pub missed_from : ℕ → Option ℕ → Option (List Bool) → Option (Option ℕ)
missed_from column miss answers = answers >>= λ ys. Some (first_of miss (position_from (λ yes. not yes) column ys))

-- the same, where the column has this answer, and these are the answers behind it
abbrev pub missed_by : ℕ → Option ℕ → Option Bool → Option (List Bool) → Option (Option ℕ)
missed_by column miss answer rest = missed_from column miss (answer >>= λ y. rest >>= λ ys. Some (y ∷ ys))

-- the same, once that answer is known; None where the entry breaks a limit
abbrev pub once_answered : ℕ → Option (Option ℕ) → Option (List Bool) → Option (Option ℕ)
once_answered column found rest = found >>= λ miss. missed_from (column + 1) miss rest
