-- Internal but for `is_in_class`, `mark_of`, `marked` and `same_truth`: classes of values.
use Rattle.std.specs.Prelude.{◌≡◌, ℕ, ◌+◌, ◌*◌, ◌%◌, List, [], ◌∷◌, length, take, int_le, nat_eq, Bool, true, false, ◌&&◌}
use Rattle.feel_value.specs.Datum.{Datum, null, boolean, number, text}
use Rattle.feel_value.specs.Comparison.{equal}
use Rattle.feel_value.specs.Logic.{is_yes}
use Rattle.feel_value.specs.View.{datum_of}
use Rattle.feel_value.specs.declared.value.Value.{Value}
use Rattle.feel_text.specs.declared.class.Class.{Class}
use Rattle.feel_text.specs.declared.class.Class.TheVariants as class

-- the mark of bytes behind others that have this mark
abbrev pub marked : ℕ → List ℕ → ℕ
marked mark [] = mark
marked mark (b ∷ bs) = marked ((mark * 31 + b) % 64) bs

-- the mark of a text: of its length and its first 64 bytes
abbrev pub mark_of : List ℕ → ℕ
mark_of s = marked (length s % 64) (take 64 s)

abbrev pub same_truth : Bool → Bool → Bool
same_truth true true = true
same_truth false false = true
same_truth a b = false

-- whether a value is of the class
abbrev pub is_in_class : Class → Datum → Bool
is_in_class (class.Numbers low high) (number z) = int_le low z && int_le z high
is_in_class (class.Texts mark) (text s) = nat_eq (mark_of s) mark
is_in_class (class.Truth a) (boolean b) = same_truth a b
is_in_class class.Null null = true
is_in_class c d = false

-- no value of the class is equal to this one
abbrev pub IsApart : Class → Value → Type 0
IsApart c d = (v : Datum) → is_in_class c v ≡ true → is_yes (equal v (datum_of d)) ≡ false
