-- The order of hits by the lists of output values.
use Rattle.std.specs.Prelude.{ℕ, ◌+◌, List, [], ◌∷◌, map, length, Bool, false, ◌&&◌, ◌||◌, nat_eq, nat_lt, if◌then◌else◌, Option, None, Some}
use Rattle.std.specs.List.{position_or_len}
use Rattle.feel_value.specs.Datum.{Datum}
use Rattle.feel_value.specs.Logic.{is_yes}
use Rattle.feel_value.specs.Comparison.{equal}
use Rattle.dmn_table.specs.Table.{Column}

-- a rule that hit: the place of each of its values in its column's list of output values, and its output
pub record Hit : Type 0 where
  pub places : List ℕ
  pub output : Datum

-- the position of the first listed value that equals v; a value that isn't listed comes after all
abbrev pub place : List Datum → Datum → ℕ
place listed v = position_or_len (λ w. is_yes (equal w v)) listed

-- the same counted from 1 on; None where no listed value equals v
abbrev pub listed_place : List Datum → Datum → Option ℕ
listed_place listed v = if nat_lt (place listed v) (length listed) then Some (place listed v + 1) else None

-- of each value its place, from 1 on, in its column's list of output values
abbrev pub listed_places : List (List Datum) → List Datum → List (Option ℕ)
listed_places [] values = []
listed_places (listed ∷ lists) [] = []
listed_places (listed ∷ lists) (v ∷ values) = listed_place listed v ∷ listed_places lists values

-- the places of a rule's values; a column with no list of output values has one place for all
abbrev pub places_of : List Column → List Datum → List ℕ
places_of [] values = []
places_of (c ∷ cs) [] = []
places_of (c ∷ cs) (v ∷ values) = place c.values v ∷ places_of cs values

-- the output values of each column
abbrev pub listed_values : List Column → List (List Datum)
listed_values cs = map (λ c. c.values) cs

-- whether the first has the higher priority: in the first column where the places differ, its place is the lower
abbrev pub is_higher : List ℕ → List ℕ → Bool
is_higher (p ∷ ps) (q ∷ qs) = nat_lt p q || (nat_eq p q && is_higher ps qs)
is_higher ps qs = false

-- the hit, before the first that has no higher priority
abbrev pub put_before : Hit → List Hit → List Hit
put_before h [] = h ∷ []
put_before h (k ∷ ks) = if is_higher k.places h.places then k ∷ put_before h ks else h ∷ k ∷ ks

-- in decreasing priority, ties in rule order
abbrev pub in_priority : List Hit → List Hit
in_priority [] = []
in_priority (h ∷ hs) = put_before h (in_priority hs)
