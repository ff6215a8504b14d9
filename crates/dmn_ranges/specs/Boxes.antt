-- Internal: what is told of boxed expressions.
use Rattle.std.specs.Prelude.{◌≡◌, List, ◌++◌, Bool, true, Option, None, Some}
use Rattle.feel_value.specs.Datum.{Datum}
use Rattle.feel_text.specs.Expr.{Expr}
use Rattle.feel_text.specs.Meaning.{Bindings}
use Rattle.dmn_table.specs.Table.{Table}
use Rattle.dmn_form.specs.Model.{Boxed, Entries, Name}
use Rattle.dmn_logic.specs.Boxed.{boxed, entry_values}
use Rattle.dmn_ranges.specs.Ranges.{Scope, Fits, covers}
use Rattle.dmn_ranges.specs.declared.outcomes.Outcomes.{Outcomes}

-- whatever values of their ranges the names have, the outcome is among what is told
abbrev pub TellsBox : Scope → Boxed Expr Table → Outcomes → Type 0
TellsBox xs b o = (m : Bindings) → Fits xs m → covers o (boxed b m) ≡ true

-- what is told of the names with the entries behind them, and whether one can break a limit
abbrev pub EntriesTold : Bool → Scope → Bindings → Option (List (Name × Datum)) → Type 0
EntriesTold limit ys m None = limit ≡ true
EntriesTold limit ys m (Some ds) = Fits ys (m ++ ds)

abbrev pub TellsEntries : Scope → Entries Expr Table → Bool → Scope → Type 0
TellsEntries xs es limit ys = (m : Bindings) → Fits xs m → EntriesTold limit ys m (entry_values es m)
