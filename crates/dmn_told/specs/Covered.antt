-- Internal: ranges that have each value within the domains.
use Rattle.std.specs.Prelude.{◌≡◌, List, [], ◌∷◌, true, string_bytes}
use Rattle.feel_value.specs.Datum.{Datum}
use Rattle.feel_value.specs.Limits.{is_value}
use Rattle.dmn_form.specs.Model.{Name}
use Rattle.dmn_ranges.specs.Ranges.{extent_of, lies_within}
use Rattle.dmn_ranges.specs.declared.range.ParameterRange.{ParameterRange}
use Rattle.dmn_told.specs.Parts.{parts}
use Rattle.dmn_told.specs.Told.{IsMet, IsMetAlong}
use Rattle.dmn_told.specs.declared.domains.Domain.{Domain}

abbrev pub IsCovered : List Domain → Name → ParameterRange → Type 0
IsCovered ds n r = (v : Datum) → is_value v ≡ true → IsMet ds n v → lies_within (extent_of r) v ≡ true

-- what is told of a value is told with one domain more
abbrev pub Narrows : Domain → Name → ParameterRange → ParameterRange → Type 0
Narrows d n old new = (v : Datum) → is_value v ≡ true → IsMetAlong (parts (string_bytes d.name)) n d.tests v → lies_within (extent_of old) v ≡ true → lies_within (extent_of new) v ≡ true

abbrev pub AreCovered : List Domain → List Name → List ParameterRange → Type 0
AreCovered ds [] [] = Unit {0}
AreCovered ds [] (r ∷ rs) = ⊥
AreCovered ds (n ∷ ns) [] = ⊥
AreCovered ds (n ∷ ns) (r ∷ rs) = IsCovered ds n r × AreCovered ds ns rs
