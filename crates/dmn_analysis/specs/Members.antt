-- Internal: no public contract cites these words. Lists of constants: whether the values of a class are members of one.
use Rattle.std.specs.Prelude.{◌≡◌, ℕ, Bool, true, false, ◌&&◌, Some}
use Rattle.feel_value.specs.Comparison.{equal}
use Rattle.feel_value.specs.Datum.{Datum, null, boolean, number, text, list, context, Items, no_items, item}
use Rattle.feel_value.specs.Limits.{in_range, items_nodes}
use Rattle.feel_value.specs.Logic.{is_yes}
use Rattle.feel_value.specs.declared.feel.Outcome.TheVariants.{Is}
use Rattle.feel_text.specs.Expr.{Expr, Exprs}
use Rattle.feel_text.specs.Meaning.{Bindings, den, dens}
use Rattle.feel_text.specs.Satisfied.{is_member}
use Rattle.dmn_analysis.specs.Classes.{is_of}
use Rattle.dmn_analysis.specs.declared.class.Class.{Class}
use Rattle.dmn_analysis.specs.declared.class.Class.TheVariants as class

-- null, a truth value, a number in range or a text
abbrev pub is_plain : Datum → Bool
is_plain null = true
is_plain (boolean b) = true
is_plain (number z) = in_range z
is_plain (text s) = true
is_plain (list ds) = false
is_plain (context es) = false

abbrev pub are_plain : Items → Bool
are_plain no_items = true
are_plain (item d ds) = is_plain d && are_plain ds

-- whether its values are lists and contexts
abbrev pub has_parts : Class → Bool
has_parts (class.One d) = false
has_parts (class.Numbers low high) = false
has_parts (class.Words texts) = false
has_parts (class.OtherTexts texts) = false
has_parts (class.Between texts from to) = false
has_parts class.Parted = true

-- whatever the names stand for, each value of the class is what the expression is, which is plain, or none is
pub record IsKnownMember (class : Class) (e : Expr) (same : Bool) : Type 0 where
  pub value : Datum
  pub means : (m : Bindings) → den e m ≡ Is value
  pub plain : is_plain value ≡ true
  pub each : (v : Datum) → is_of class v ≡ true → is_yes (equal v value) ≡ same

-- each is one of what so many expressions are, or none is
pub record AreKnownMembers (class : Class) (es : Exprs) (count : ℕ) (found : Bool) : Type 0 where
  pub values : Items
  pub means : (m : Bindings) → dens es m ≡ Some values
  pub plain : are_plain values ≡ true
  pub count_is : items_nodes values ≡ count
  pub each : (v : Datum) → is_of class v ≡ true → is_member v values ≡ found
