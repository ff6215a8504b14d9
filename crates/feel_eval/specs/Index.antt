-- Internal but for `bindings_of`: where the last binding of a name stands, and what it hides.
use Rattle.std.specs.Prelude.{◌≡◌, ℕ, ◌<◌, List, map, take, length, slice_index_or, Option}
use Rattle.std.specs.declared.alloc.Global.{Global}
use Rattle.std.specs.BTreeMap.{BTreeMap, get_by}
use Rattle.std.specs.Ordering.{nat_cmp}
use Rattle.std.specs.Cmp.Lexicographic.{slice_cmp}
use Rattle.std.specs.Cow.{cow_str_bytes}
use Rattle.std.specs.declared.borrow.CowStr.{CowStr}
use Rattle.feel_value.specs.Datum.{Datum}
use Rattle.feel_text.specs.Meaning.{Bindings}
use Rattle.feel_text.specs.Places.{last_place}
use Rattle.feel_eval.specs.declared.indexed.Binding.{Binding}

-- bindings of any form, each by its name and its value
abbrev pub named_by : {B : Type 0} → (B → List ℕ) → (B → Datum) → List B → Bindings
named_by name value = map (λ b. (name b, value b))

-- The place of the last binding of each name is known, and each binding has the place of the one that it hides.
pub record IsIndexed {B : Type 0} (name : B → List ℕ) (value : B → Datum) (hides : B → Option ℕ) (bindings : List B) (place : List ℕ → Option ℕ) : Type 0 where
  pub last : (q : List ℕ) → place q ≡ last_place q (named_by name value bindings)
  pub hidden : (i : ℕ) (b : B) → i < length bindings
      → hides (slice_index_or bindings i b) ≡ last_place (name (slice_index_or bindings i b)) (take i (named_by name value bindings))

abbrev pub name_of : Binding → List ℕ
name_of b = cow_str_bytes b.name

abbrev pub value_of : Binding → Datum
value_of b = b.value

abbrev pub hidden_of : Binding → Option ℕ
hidden_of b = b.hidden

abbrev pub bindings_of : List Binding → Bindings
bindings_of = map (λ b. (cow_str_bytes b.name, b.value))

-- what the map has at the name
abbrev pub place_in : BTreeMap (CowStr Global) ℕ → List ℕ → Option ℕ
place_in places name = get_by (λ k. slice_cmp nat_cmp name (cow_str_bytes k)) places
