-- Ranges of names, one after another.
use Rattle.std.proofs.Common.{List, [], ◌∷◌, ◌++◌}
use Rattle.feel_value.specs.Datum.{Datum}
use Rattle.dmn_form.specs.Model.{Name}
use Rattle.dmn_ranges.specs.Ranges.{AreWithin}
use Rattle.dmn_ranges.specs.declared.range.ParameterRange.{ParameterRange}
use Rattle.dmn_told.specs.Told.{AreMet}
use Rattle.dmn_told.specs.Covered.{IsCovered, AreCovered}
use Rattle.dmn_told.specs.declared.domains.Domain.{Domain}

pub covered_more : (ds : List Domain) (ns : List Name) (rs : List ParameterRange) (n : Name) (r : ParameterRange) → AreCovered ds ns rs → IsCovered ds n r → AreCovered ds (ns ++ n ∷ []) (rs ++ r ∷ [])
covered_more ds [] [] n r h g = (g, tt)
covered_more ds [] (x ∷ rs) n r h g = absurd h
covered_more ds (m ∷ ns) [] n r h g = absurd h
covered_more ds (m ∷ ns) (x ∷ rs) n r h g = (h.0, covered_more ds ns rs n r h.1 g)

-- values that meet the domains lie within these ranges
pub covered_within : (ds : List Domain) (ns : List Name) (rs : List ParameterRange) (vs : List Datum) → AreCovered ds ns rs → AreMet ds ns vs → AreWithin rs vs
covered_within ds [] [] [] h met = tt
covered_within ds [] [] (v ∷ vs) h met = absurd met
covered_within ds [] (r ∷ rs) vs h met = absurd h
covered_within ds (n ∷ ns) [] vs h met = absurd h
covered_within ds (n ∷ ns) (r ∷ rs) [] h met = absurd met
covered_within ds (n ∷ ns) (r ∷ rs) (v ∷ vs) h met = (h.0 v met.0 met.1, covered_within ds ns rs vs h.1 met.2)
