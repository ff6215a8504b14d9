-- Internal, cited by no public contract: names in a list, with their order.
use Rattle.std.specs.Prelude.{◌≡◌, ℕ, List, map, Bool, String, Option, None, Some, if◌then◌else◌}
use Rattle.std.specs.BTreeMap.{BTreeMap, get_by_text}
use Rattle.std.specs.declared.alloc.Global.{Global}
use Rattle.std.specs.Borrow.{Bor}
use Rattle.feel_text.specs.NameOrder.{IsInOrder}
use Rattle.dmn_form.specs.Model.{Name}
use Rattle.dmn_names.specs.Places.{place_among}
use Rattle.dmn_names.specs.declared.index.Order.{Order}
use Rattle.dmn_names.specs.declared.index.Order.TheVariants.{OfAll, OfFirst}

abbrev pub names_in : List (Bor (List ℕ)) → List Name
names_in = map (λ n. n.now)

-- the first place of each of these names, and no other name
abbrev pub AreFirstPlaces : List Name → BTreeMap (String Global) ℕ → Type 0
AreFirstPlaces names places = (n : Name) → get_by_text places n ≡ place_among names n

-- what the places are found by
abbrev pub IsIndexed : List Name → Order → Type 0
IsIndexed names (OfAll order) = IsInOrder names order.items
IsIndexed names (OfFirst places) = AreFirstPlaces names places

abbrev pub first_of : Option ℕ → Option ℕ → Option ℕ
first_of None o = o
first_of (Some i) o = Some i

-- this place, where it is one for the name
abbrev pub place_if : Bool → ℕ → Option ℕ
place_if b i = if b then Some i else None
