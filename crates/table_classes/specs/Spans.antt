-- Internal: classes of numbers that rise, and bits of words.
use Rattle.std.specs.Prelude.{◌≡◌, ◌<◌, ◌≤◌, ℕ, ℤ, List, Bool, true, false, int_lt, ◌&&◌, length, slice_index_or}
use Rattle.std.specs.Int.{bit_at}
use Rattle.feel_value.specs.Datum.{Datum}
use Rattle.feel_text.specs.Classes.{is_in_class}
use Rattle.feel_text.specs.Sieves.{is_narrow, lets_through}
use Rattle.feel_text.specs.declared.class.Class.{Class}
use Rattle.feel_text.specs.declared.class.Class.TheVariants as class
use Rattle.feel_text.specs.declared.sieve.Sieve.{Sieve}

-- whether it is no class of numbers of which some are not below this one
abbrev pub is_below : ℤ → Class → Bool
is_below low (class.Numbers first last) = int_lt last low
is_below low c = true

-- whether it is no class of numbers of which some are not above this one
abbrev pub is_above : ℤ → Class → Bool
is_above high (class.Numbers first last) = int_lt high first
is_above high c = true

-- whether both are of numbers, and the first ends and begins below the second
abbrev pub precedes : Class → Class → Bool
precedes (class.Numbers a b) (class.Numbers c d) = int_lt a c && int_lt b d
precedes c d = false

abbrev pub is_of_numbers : Class → Bool
is_of_numbers (class.Numbers first last) = true
is_of_numbers c = false

abbrev pub class_at : List Class → ℕ → Class
class_at classes k = slice_index_or classes k class.Null

-- so many classes rise, and those after them are of no numbers
pub record AreSpans (classes : List Class) (count : ℕ) : Type 0 where
  pub rise : (j k : ℕ) → j < k → k < count → precedes (class_at classes j) (class_at classes k) ≡ true
  pub rest : (k : ℕ) → count ≤ k → is_of_numbers (class_at classes k) ≡ false

-- there is a word at the place, in which the bit is not set
pub record IsUnsetAt (words : List ℕ) (place i : ℕ) : Type 0 where
  pub within : place < length words
  pub unset : bit_at (slice_index_or words place 0) i ≡ 0

-- the sieve lets no value of the class through
pub record Stops (sieve : Sieve) (class : Class) : Type 0 where
  pub narrow : is_narrow sieve ≡ true
  pub stops : (v : Datum) → is_in_class class v ≡ true → lets_through sieve v ≡ false
