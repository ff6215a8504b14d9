-- Which values are equal, and which is less.
use Rattle.std.specs.Prelude.{ℕ, List, Bool, true, false, ◌&&◌, ◌||◌, bytes_eq, int_lt, chars}
use Rattle.std.specs.Ordering.{nat_cmp, int_cmp, is_lt, is_eq}
use Rattle.std.specs.Cmp.Lexicographic.{slice_cmp}
use Rattle.feel_value.specs.Datum.{Datum, null, boolean, number, text, list, context, Items, no_items, item, Entries, no_entries, entry}
use Rattle.feel_value.specs.Limits.{has_name}
use Rattle.feel_value.specs.Logic.{decided, is_yes}
use Rattle.feel_value.specs.declared.logic.Truth.{Truth}
use Rattle.feel_value.specs.declared.logic.Truth.TheVariants.{Yes, No, Unknown}

abbrev pub bool_eq : Bool → Bool → Bool
bool_eq true true = true
bool_eq true false = false
bool_eq false true = false
bool_eq false false = true

-- whether each name of the first is a name of the second
abbrev pub names_within : Entries → Entries → Bool
names_within no_entries fs = true
names_within (entry n d es) fs = has_name n fs && names_within es fs

-- whether an entry has this name and a value that passes the test
abbrev pub has_entry : (Datum → Bool) → List ℕ → Entries → Bool
has_entry test name no_entries = false
has_entry test name (entry n d es) = (bytes_eq name n && test d) || has_entry test name es

-- Null is equal to null alone. Two booleans, numbers or texts are equal or not. Two lists are equal where they have one
-- length and each pair of members is equal; two contexts where they have the same names and at each name equal values, in
-- whatever order. Whether any other two values are equal is unknown.
abbrev mutual
  pub equal : Datum → Datum → Truth
  equal null null = Yes
  equal null e = No
  equal d null = No
  equal (boolean b) (boolean c) = decided (bool_eq b c)
  equal (number x) (number y) = decided (is_eq (int_cmp x y))
  equal (text s) (text t) = decided (bytes_eq s t)
  equal (list ds) (list es) = decided (items_equal ds es)
  equal (context ds) (context es) = decided (values_equal ds es && names_within es ds)
  equal d e = Unknown

  pub items_equal : Items → Items → Bool
  items_equal no_items no_items = true
  items_equal no_items (item e es) = false
  items_equal (item d ds) no_items = false
  items_equal (item d ds) (item e es) = is_yes (equal d e) && items_equal ds es

  -- whether each entry of the first has its name and an equal value in the second
  pub values_equal : Entries → Entries → Bool
  values_equal no_entries es = true
  values_equal (entry n d ds) es = has_entry (λ e. is_yes (equal d e)) n es && values_equal ds es

-- Numbers stand by size, texts by code points. Whether one of any other two values is less is unknown.
abbrev pub less : Datum → Datum → Truth
less (number x) (number y) = decided (int_lt x y)
less (text s) (text t) = decided (is_lt (slice_cmp nat_cmp (chars s) (chars t)))
less d e = Unknown
