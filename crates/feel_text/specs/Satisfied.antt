-- Whether a value satisfies unary tests: a truth value, or that a limit is broken.
use Rattle.std.specs.Prelude.{Bool, true, false, ◌||◌, List, [], ◌∷◌}
use Rattle.feel_value.specs.Datum.{Datum, list, null, boolean, number, text, context, Items, no_items, item}
use Rattle.feel_value.specs.Logic.{is_yes, and_of, or_of, not_of, decided}
use Rattle.feel_value.specs.Comparison.{equal, less}
use Rattle.feel_value.specs.declared.logic.Truth.{Truth}
use Rattle.feel_value.specs.declared.logic.Truth.TheVariants.{Yes, No, Unknown}
use Rattle.feel_text.specs.Tests.{Bound, Below, AtMost, Above, AtLeast, Test, Compares, Interval, Equals, Tests, Any, OneOf, NoneOf}
use Rattle.feel_value.specs.declared.feel.Outcome.{Outcome}
use Rattle.feel_value.specs.declared.feel.Outcome.TheVariants.{Is, Limit}
use Rattle.feel_text.specs.declared.held.Held as code
use Rattle.feel_text.specs.declared.held.Held.TheVariants as held
use Rattle.feel_text.specs.Meaning.{Bindings, den}

-- what tests answer of a value: a truth value, or that a limit is broken
pub data Answer : Type 0 where
  Told : (t : Truth) → Answer
  Broken : Answer

abbrev pub answer : Outcome → (Datum → Truth) → Answer
answer (Is d) f = Told (f d)
answer Limit f = Broken

abbrev pub joined : (Truth → Truth → Truth) → Answer → Answer → Answer
joined f (Told s) (Told t) = Told (f s t)
joined f (Told s) Broken = Broken
joined f Broken a = Broken

abbrev pub stands_to : Bound → Datum → Datum → Truth
stands_to Below v d = less v d
stands_to AtMost v d = not_of (less d v)
stands_to Above v d = less d v
stands_to AtLeast v d = not_of (less v d)

abbrev pub low_bound : Bool → Bound
low_bound true = AtLeast
low_bound false = Above

abbrev pub high_bound : Bool → Bound
high_bound true = AtMost
high_bound false = Below

-- some member of the list is equal to the input
abbrev pub is_member : Datum → Items → Bool
is_member v no_items = false
is_member v (item d ds) = is_yes (equal v d) || is_member v ds

-- the value is a list with a member that the input is equal to
abbrev pub is_listed : Datum → Datum → Bool
is_listed v (list ds) = is_member v ds
is_listed v null = false
is_listed v (boolean b) = false
is_listed v (number z) = false
is_listed v (text s) = false
is_listed v (context es) = false

-- the input is the value, or the value is a list with a member that it is
abbrev pub is_in : Datum → Datum → Bool
is_in v d = is_yes (equal v d) || is_listed v d

abbrev pub tested : Test → Datum → Bindings → Answer
tested (Compares bound e) v m = answer (den e m) (stands_to bound v)
tested (Interval closed_low low high closed_high) v m =
    joined and_of (answer (den low m) (stands_to (low_bound closed_low) v)) (answer (den high m) (stands_to (high_bound closed_high) v))
tested (Equals e) v m = answer (den e m) (λ d. decided (is_in v d))

-- the `or` of all; all are evaluated
abbrev pub tested_any : List Test → Datum → Bindings → Answer
tested_any [] v m = Told No
tested_any (t ∷ ts) v m = joined or_of (tested t v m) (tested_any ts v m)

abbrev pub opposite_answer : Answer → Answer
opposite_answer (Told t) = Told (not_of t)
opposite_answer Broken = Broken

abbrev pub satisfied : Tests → Datum → Bindings → Answer
satisfied Any v m = Told Yes
satisfied (OneOf ts) v m = tested_any ts v m
satisfied (NoneOf ts) v m = opposite_answer (tested_any ts v m)

-- What is answered of the tests: only Yes holds.
abbrev pub held_of : Answer → code.Held
held_of (Told Yes) = held.Yes
held_of (Told No) = held.No
held_of (Told Unknown) = held.No
held_of Broken = held.Limit
