-- Which values may meet tests, told by their kind, the ends of a span, and marks of texts.
use Rattle.std.specs.Prelude.{◌≡◌, ℕ, int_le, nat_eq, Bool, true, false, ◌&&◌}
use Rattle.std.specs.Int.{bit_at}
use Rattle.feel_value.specs.Comparison.{equal}
use Rattle.feel_value.specs.Datum.{Datum, number, text}
use Rattle.feel_value.specs.Limits.{is_value}
use Rattle.feel_value.specs.Logic.{is_yes}
use Rattle.feel_value.specs.View.{datum_of}
use Rattle.feel_value.specs.declared.value.Value.{Value}
use Rattle.feel_text.specs.Classes.{mark_of}
use Rattle.feel_text.specs.Meaning.{Bindings}
use Rattle.feel_text.specs.Satisfied.{held_of, satisfied}
use Rattle.feel_text.specs.Tests.{Tests}
use Rattle.feel_text.specs.declared.held.Held.TheVariants.{No}
use Rattle.feel_text.specs.declared.sieve.Sieve.{Sieve}
use Rattle.feel_text.specs.declared.sieve.Sieve.TheVariants as sieve

-- whether a sieve lets the value through
abbrev pub lets_through : Sieve → Datum → Bool
lets_through (sieve.Numbers low high) (number z) = int_le low z && int_le z high
lets_through (sieve.Numbers low high) d = false
lets_through (sieve.Texts marks) (text s) = nat_eq (bit_at marks (mark_of s)) 1
lets_through (sieve.Texts marks) d = false
lets_through sieve.All d = true
lets_through sieve.Unknown d = true

-- it stops some values
abbrev pub is_narrow : Sieve → Bool
is_narrow (sieve.Numbers low high) = true
is_narrow (sieve.Texts marks) = true
is_narrow s = false

-- what the sieve stops doesn't meet the tests, whatever the names stand for
abbrev pub IsSieveOf : Tests → Sieve → Type 0
IsSieveOf ts s = (v : Datum) (m : Bindings) → is_value v ≡ true → lets_through s v ≡ false → held_of (satisfied ts v m) ≡ No

-- Internal from here on.

-- what equals the value is let through where texts with these marks are
abbrev pub IsMarked : ℕ → Value → Type 0
IsMarked marks d = (v : Datum) → lets_through (sieve.Texts marks) v ≡ false → is_yes (equal v (datum_of d)) ≡ false
