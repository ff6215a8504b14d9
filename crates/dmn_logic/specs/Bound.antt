-- Internal: no public contract cites these words. The bindings that the entries of a context leave.
use Rattle.std.specs.Prelude.{ℕ, List, ◌++◌, Option, option_map}
use Rattle.feel_value.specs.Datum.{Datum}
use Rattle.feel_text.specs.Meaning.{Bindings}

-- the bindings with these behind them
abbrev pub bound_behind : Bindings → Option (List (List ℕ × Datum)) → Option Bindings
bound_behind m o = option_map (λ ds. m ++ ds) o
