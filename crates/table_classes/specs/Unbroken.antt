-- Input entries that break no limit, whatever the values.
use Rattle.std.specs.Prelude.{List, All, ◌≢◌}
use Rattle.feel_value.specs.Datum.{Datum}
use Rattle.feel_text.specs.Meaning.{Bindings}
use Rattle.feel_text.specs.Satisfied.{satisfied, Broken}
use Rattle.feel_text.specs.Tests.{Tests}

-- these unary tests break no limit, whatever the value and whatever the names stand for
abbrev pub KeepLimits : List Tests → Type 0
KeepLimits entries = All (λ tests. (value : Datum) (m : Bindings) → satisfied tests value m ≢ Broken) entries
