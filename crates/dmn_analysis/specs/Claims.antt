-- What is claimed of a decision table.
use Rattle.std.specs.Prelude.{◌≡◌, ◌≢◌, ◌<◌, ◌≤◌, ◌⊎◌, ⊤, IsTrue, ℕ, List, [], length, map, true, false, Some}
use Rattle.std.specs.Arc.{arc_str_bytes}
use Rattle.std.specs.List.{slice_get, All}
use Rattle.std.specs.declared.alloc.Global.{Global}
use Rattle.std.specs.declared.sync.ArcStr.{ArcStr}
use Rattle.feel_value.specs.Datum.{Datum}
use Rattle.feel_value.specs.Limits.{is_value}
use Rattle.feel_text.specs.Meaning.{Bindings}
use Rattle.feel_text.specs.Satisfied.{Broken, satisfied}
use Rattle.dmn_table.specs.declared.hit_policy.HitPolicy.{HitPolicy}
use Rattle.dmn_table.specs.declared.hit_policy.HitPolicy.TheVariants.{First, Priority}
use Rattle.dmn_table.specs.Hits.{does_hit, hit_of}
use Rattle.dmn_table.specs.Priority.{Hit, is_higher}
use Rattle.dmn_table.specs.Table.{Column, Rule, Table}
use Rattle.dmn_analysis.specs.Asked.{is_asked}
use Rattle.dmn_analysis.specs.declared.asked.Asked.{Asked}
use Rattle.dmn_analysis.specs.declared.asked.Texts.{Texts}
use Rattle.dmn_analysis.specs.declared.asked.Texts.TheVariants as texts
use Rattle.dmn_analysis.specs.Cells.{AreIn}
use Rattle.dmn_analysis.specs.declared.cell.Cell.{Cell}
use Rattle.dmn_analysis.specs.declared.cell.Words.{Words}
use Rattle.dmn_analysis.specs.declared.found.Gap.{Gap}
use Rattle.dmn_analysis.specs.declared.found.Gaps.{Gaps}
use Rattle.dmn_analysis.specs.declared.found.Overlaps.{Overlaps}
use Rattle.dmn_analysis.specs.Nameless.{is_nameless}

-- values of so many input columns, one each
pub record AreInputs (count : ℕ) (values : List Datum) : Type 0 where
  pub one_each : length values ≡ count
  pub lawful : All (λ v. is_value v ≡ true) values

-- each is one that is asked about in its column
abbrev pub AreAsked : List Asked → List Datum → Type 0
AreAsked asked values = (k : ℕ) (a : Asked) (v : Datum) → slice_get asked k ≡ Some a → slice_get values k ≡ Some v → is_asked a v ≡ true

-- every value is asked about in each column
abbrev pub AskEverything : List Asked → Type 0
AskEverything asked = All (λ a. (v : Datum) → is_asked a v ≡ true) asked

-- some rule hits
pub record HasHit (m : Bindings) (values : List Datum) (rules : List Rule) : Type 0 where
  pub place : ℕ
  pub rule : Rule
  pub there : slice_get rules place ≡ Some rule
  pub hits : does_hit m values rule ≡ Some true

-- Whatever the values that are asked about, and whatever the names stand for, some rule hits.
abbrev pub AlwaysHit : ℕ → List Rule → List Asked → Type 0
AlwaysHit count rules asked = (m : Bindings) (values : List Datum) → AreInputs count values → AreAsked asked values → HasHit m values rules

-- no tests in which no name stands break a limit
abbrev pub KeepLimits : List Rule → Type 0
KeepLimits rules = All (λ r. All (λ ts. is_nameless ts ≡ true → (m : Bindings) (v : Datum) → satisfied ts v m ≢ Broken) r.tests) rules

-- some rule always hits, and no tests in which no name stands break a limit
pub record IsComplete (t : Table) (asked : List Asked) : Type 0 where
  pub hit : AlwaysHit (length t.inputs) t.rules asked
  pub kept : KeepLimits t.rules

-- none of these rules hits for these values, one a column of so many, where no name stands for anything
pub record IsGapIn (count : ℕ) (rules : List Rule) (values : List Datum) : Type 0 where
  pub one_each : length values ≡ count
  pub misses : All (λ r. does_hit [] values r ≡ Some false) rules

abbrev pub IsGap : Table → List Datum → Type 0
IsGap t values = IsGapIn (length t.inputs) t.rules values

-- Whatever the values that are asked about, and whatever the names stand for, no two of the rules hit.
abbrev pub NeverTwo : ℕ → List Rule → List Asked → Type 0
NeverTwo count rules asked =
    (m : Bindings) (values : List Datum) → AreInputs count values → AreAsked asked values → (i j : ℕ) (r s : Rule) → i < j → slice_get rules i ≡ Some r → slice_get rules j ≡ Some s
    → does_hit m values r ≡ Some true → does_hit m values s ≡ Some true → ⊥

abbrev pub IsUniqueAmong : Table → List Asked → Type 0
IsUniqueAmong t asked = NeverTwo (length t.inputs) t.rules asked

-- the same of all values: an empty list leaves none out
abbrev pub IsUnique : Table → Type 0
IsUnique t = IsUniqueAmong t []

-- the rule hits for these values, where no name stands for anything
pub record Hits (rules : List Rule) (i : ℕ) (values : List Datum) : Type 0 where
  pub rule : Rule
  pub there : slice_get rules i ≡ Some rule
  pub hits : does_hit [] values rule ≡ Some true

-- two rules that hit for these values, one a column of so many
pub record AreOverlappingIn (count : ℕ) (rules : List Rule) (i j : ℕ) (values : List Datum) : Type 0 where
  pub one_each : length values ≡ count
  pub in_order : i < j
  pub first : Hits rules i values
  pub second : Hits rules j values

abbrev pub AreOverlapping : Table → ℕ → ℕ → List Datum → Type 0
AreOverlapping t i j values = AreOverlappingIn (length t.inputs) t.rules i j values

-- Whatever the values that are asked about, and whatever the names stand for, the rule doesn't hit.
abbrev pub NeverHits : ℕ → List Rule → List Asked → ℕ → Type 0
NeverHits count rules asked i = (m : Bindings) (values : List Datum) → AreInputs count values → AreAsked asked values → (r : Rule) → slice_get rules i ≡ Some r → does_hit m values r ≢ Some true

abbrev pub IsNeverMetAmong : Table → List Asked → ℕ → Type 0
IsNeverMetAmong t asked i = NeverHits (length t.inputs) t.rules asked i

-- the same of all values
abbrev pub IsNeverMet : Table → ℕ → Type 0
IsNeverMet t i = IsNeverMetAmong t [] i

-- Whatever the names stand for, where both rules hit, the first one's output has the higher priority; or the other one's hasn't, and
-- the first stands before it.
abbrev pub IsAhead : List Column → List Rule → ℕ → ℕ → Type 0
IsAhead columns rules j i =
    (m : Bindings) (r s : Rule) (h k : Hit) → slice_get rules j ≡ Some r → slice_get rules i ≡ Some s → hit_of columns m r ≡ Some h → hit_of columns m s ≡ Some k
    → (is_higher h.places k.places ≡ true) ⊎ ((j < i) × (is_higher k.places h.places ≡ false))

-- Where both rules hit, the first goes before the other: under `F` as they stand, under `P` by the priority of their outputs. Under the
-- other policies none does.
abbrev pub GoesBeforeUnder : HitPolicy → List Column → List Rule → ℕ → ℕ → Type 0
GoesBeforeUnder First columns rules j i = j < i
GoesBeforeUnder Priority columns rules j i = IsAhead columns rules j i
GoesBeforeUnder p columns rules j i = ⊥

abbrev pub GoesBefore : Table → ℕ → ℕ → Type 0
GoesBefore t j i = GoesBeforeUnder t.policy t.outputs t.rules j i

-- a rule that goes before this one hits
pub record HasHitBefore (m : Bindings) (values : List Datum) (t : Table) (i : ℕ) : Type 0 where
  pub place : ℕ
  pub before : GoesBefore t place i
  pub rule : Rule
  pub there : slice_get t.rules place ≡ Some rule
  pub hits : does_hit m values rule ≡ Some true

-- Whatever the values that are asked about, and whatever the names stand for, where the rule hits, so does one that goes before it.
abbrev pub IsMaskedAmong : Table → List Asked → ℕ → Type 0
IsMaskedAmong t asked i = (m : Bindings) (values : List Datum) → AreInputs (length t.inputs) values → AreAsked asked values → (r : Rule) → slice_get t.rules i ≡ Some r → does_hit m values r ≡ Some true → HasHitBefore m values t i

-- the same of all values
abbrev pub IsMasked : Table → ℕ → Type 0
IsMasked t i = IsMaskedAmong t [] i

-- for none of the values of these cells a rule hits, whatever the names stand for
abbrev pub IsBareOf : List Words → List Rule → List Cell → Type 0
IsBareOf words rules cells = (m : Bindings) (values : List Datum) (r : ℕ) (rule : Rule) → length values ≡ length cells → AreIn words cells values → slice_get rules r ≡ Some rule → does_hit m values rule ≢ Some true

-- a gap as it is told: no rule hits for any values of its cells, nor for those that it comes with
pub record TellsGap (t : Table) (words : List Words) (gap : Gap) : Type 0 where
  pub none : IsBareOf words t.rules gap.cells.items
  pub witness : IsGap t gap.values.items

-- the values are in the cells of a gap
pub record IsInGap (words : List Words) (gaps : List Gap) (values : List Datum) : Type 0 where
  pub place : ℕ
  pub gap : Gap
  pub there : slice_get gaps place ≡ Some gap
  pub inside : AreIn words gap.cells.items values

-- What is told of a table's gaps among what is asked about. Where all are told, each values for which no rule hits are in one of
-- them; so where there is none, the table is complete.
pub record TellsGaps (t : Table) (asked : List Asked) (gaps : Gaps) : Type 0 where
  pub each : All (TellsGap t gaps.words.items) gaps.found.items
  pub all : IsTrue gaps.is_all → gaps.more ≡ 0 → (m : Bindings) (values : List Datum) → AreInputs (length t.inputs) values → AreAsked asked values → HasHit m values t.rules ⊎ IsInGap gaps.words.items gaps.found.items values
  pub complete : IsTrue gaps.is_all → gaps.more ≡ 0 → gaps.found.items ≡ [] → IsComplete t asked

-- What is told of a table's overlaps among what is asked about.
pub record TellsOverlaps (t : Table) (asked : List Asked) (overlaps : Overlaps) : Type 0 where
  pub each : All (λ o. AreOverlapping t o.first o.second o.values.items) overlaps.found.items
  pub unique : IsTrue overlaps.is_all → overlaps.found.items ≡ [] → IsUniqueAmong t asked

-- ---- what is decided

-- the texts that are asked about in a column of these words are all, those in UTF-8, none, or the words
abbrev pub AreTextsKnown : List (ArcStr Global) → Texts → Type 0
AreTextsKnown words texts.None = ⊤
AreTextsKnown words texts.Utf8 = ⊤
AreTextsKnown words texts.All = ⊤
AreTextsKnown words (texts.These ts) = map arc_str_bytes ts.items ≡ map arc_str_bytes words

-- that of each of so many columns
pub record AreKnown (count : ℕ) (words : List Words) (asked : List Asked) : Type 0 where
  pub each_asked : count ≤ length asked
  pub known : (k : ℕ) (ws : Words) (a : Asked) → slice_get words k ≡ Some ws → slice_get asked k ≡ Some a → AreTextsKnown ws.texts.items a.texts

-- Where no overlap is told, it is told that there is none.
abbrev pub DecidesOverlaps : Overlaps → Type 0
DecidesOverlaps overlaps = overlaps.found.items ≡ [] → IsTrue overlaps.is_all

-- Each gap is told, or counted; and where there is any, one is told. So it is told that the table is complete, or a gap.
pub record DecidesGaps (gaps : Gaps) : Type 0 where
  pub all : IsTrue gaps.is_all
  pub one : gaps.found.items ≡ [] → gaps.more ≡ 0
