-- What the analysis of a table is asked about; and, internal, what it rules out.
use Rattle.std.specs.Prelude.{◌≡◌, ◌<◌, ℕ, List, [], ◌∷◌, ◌++◌, Bool, true, false, ◌&&◌, Option, None, Some}
use Rattle.std.specs.List.{slice_get}
use Rattle.feel_value.specs.Datum.{Datum}
use Rattle.feel_text.specs.Meaning.{Bindings}
use Rattle.dmn_table.specs.Hits.{does_hit}
use Rattle.dmn_table.specs.Table.{Rule}
use Rattle.dmn_analysis.specs.Asked.{is_asked}
use Rattle.dmn_analysis.specs.Claims.{HasHit}
use Rattle.dmn_analysis.specs.declared.asked.Asked.{Asked}
use Rattle.dmn_analysis.specs.declared.asked.Numbers.{Numbers}
use Rattle.dmn_analysis.specs.declared.asked.Numbers.TheVariants as numbers
use Rattle.dmn_ranges.specs.Ranges.{lies_in, text_of}
use Rattle.dmn_ranges.specs.declared.interval.Interval.{Interval}
use Rattle.dmn_ranges.specs.declared.outcomes.Outcomes.{Outcomes}
use Rattle.dmn_ranges.specs.declared.tally.Tally.{Tally}
use Rattle.dmn_ranges.specs.declared.texts.Word.{Word}

-- ---- what is asked

abbrev pub text_in : Option Word → List (List ℕ)
text_in None = []
text_in (Some w) = text_of w ∷ []

abbrev pub texts_in : List (Option Word) → List (List ℕ)
texts_in [] = []
texts_in (w ∷ ws) = text_in w ++ texts_in ws

abbrev pub numbers_asked : Option Interval → Numbers
numbers_asked None = numbers.None
numbers_asked (Some i) = numbers.Between i.low i.high

-- each value of a column is asked about there
abbrev pub AskColumns : List Outcomes → List Asked → Type 0
AskColumns os asked = (k : ℕ) (o : Outcomes) (a : Asked) → slice_get os k ≡ Some o → slice_get asked k ≡ Some a → (v : Datum) → lies_in o.range v ≡ true → is_asked a v ≡ true

-- ---- what is ruled out

-- each value lies in what is told of its column
abbrev pub AllIn : List Outcomes → List Datum → Type 0
AllIn [] [] = Unit {0}
AllIn [] (v ∷ vs) = ⊥
AllIn (o ∷ os) [] = ⊥
AllIn (o ∷ os) (v ∷ vs) = (lies_in o.range v ≡ true) × AllIn os vs

-- whatever values of their columns the inputs have, some rule hits
abbrev pub SomeHits : List Rule → List Outcomes → Type 0
SomeHits rules os = (m : Bindings) (vs : List Datum) → AllIn os vs → HasHit m vs rules

-- no two of the rules hit
abbrev pub NoTwoHit : Bindings → List Datum → List Rule → Type 0
NoTwoHit m vs rules = (i j : ℕ) (r s : Rule) → i < j → slice_get rules i ≡ Some r → slice_get rules j ≡ Some s → does_hit m vs r ≡ Some true → does_hit m vs s ≡ Some true → ⊥

abbrev pub OneHits : List Rule → List Outcomes → Type 0
OneHits rules os = (m : Bindings) (vs : List Datum) → AllIn os vs → NoTwoHit m vs rules

-- that no rule hits, and that several do, only where this is said
abbrev pub without : Tally → Bool → Bool → Tally
without t none several = record t { may_be_none = t.may_be_none && none; may_be_several = t.may_be_several && several }

-- the same tally, without what never is
pub record Narrows (rules : List Rule) (os : List Outcomes) (whole found : Tally) : Type 0 where
  pub none : Bool
  pub several : Bool
  pub is : found ≡ without whole none several
  pub some : none ≡ false → SomeHits rules os
  pub one : several ≡ false → OneHits rules os
