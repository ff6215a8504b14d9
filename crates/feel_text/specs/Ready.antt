-- Internal but for `Meets`: what tests ask of a value, where that is known when they are read.
use Rattle.std.specs.Prelude.{◌≡◌, int_le, Bool, true, false, not, ◌&&◌, Option, Some, None, IfSome}
use Rattle.feel_value.specs.Datum.{Datum, number}
use Rattle.feel_value.specs.Limits.{is_value}
use Rattle.feel_value.specs.Logic.{decided}
use Rattle.feel_value.specs.View.{items_view}
use Rattle.feel_text.specs.Meaning.{Bindings}
use Rattle.feel_text.specs.Satisfied.{Answer, Told, held_of, is_member, satisfied}
use Rattle.feel_text.specs.Tests.{Tests}
use Rattle.feel_text.specs.declared.ready.Span.{Span}
use Rattle.feel_text.specs.declared.ready.Ready.{Ready}
use Rattle.feel_text.specs.declared.ready.Ready.TheVariants.{Any, Numbers, Among, Besides, General}

-- the value is a number from the low end to the high one, both included
abbrev pub lies_within : Span → Datum → Bool
lies_within s (number z) = int_le s.low z && int_le z s.high
lies_within s d = false

-- whether the value meets the tests, where that is known
abbrev pub told : Ready → Datum → Option Bool
told Any v = Some true
told (Numbers s) v = Some (lies_within s v)
told (Among ds) v = Some (is_member v (items_view ds.items))
told (Besides ds) v = Some (not (is_member v (items_view ds.items)))
told General v = None

-- It is answered that the value meets the tests just where this is true.
abbrev pub Meets : Answer → Bool → Type 0
Meets a b = held_of a ≡ held_of (Told (decided b))

-- What is told holds whatever the value and whatever the names stand for.
abbrev pub AreReady : Ready → Tests → Type 0
AreReady r ts = (v : Datum) (m : Bindings) → is_value v ≡ true → IfSome (told r v) (Meets (satisfied ts v m))
