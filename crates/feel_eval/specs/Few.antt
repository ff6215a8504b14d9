-- Internal but for `few_of` and `named_of`: the first bindings, which have no index.
use Rattle.std.specs.Prelude.{◌≡◌, ◌<◌, ◌≤◌, ℕ, List, [], map, length}
use Rattle.std.specs.Cow.{cow_str_bytes}
use Rattle.feel_value.specs.Datum.{Datum}
use Rattle.feel_text.specs.Meaning.{Bindings}
use Rattle.feel_eval.specs.declared.added.NamedValue.{NamedValue}

abbrev pub named_of : NamedValue → List ℕ × Datum
named_of b = (cow_str_bytes b.name, b.value)

abbrev pub few_of : List NamedValue → Bindings
few_of = map named_of

-- There are at most 32, and others only behind these.
pub record IsFilled (few : List NamedValue) (more : Bindings) : Type 0 where
  pub size : length few ≤ 32
  pub none : length few < 32 → more ≡ []
