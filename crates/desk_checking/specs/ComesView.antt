-- Internal, cited by no public contract: what the code has of what comes to tables.
use Rattle.std.specs.Prelude.{◌≡◌, ◌<◌, ℕ, zero, suc, ◌+◌, List, [], ◌∷◌, ◌++◌, length, map, true, Option, None, Some, IfSome, Vec}
use Rattle.std.specs.List.{All, filter_map, slice_get}
use Rattle.std.specs.declared.alloc.Global.{Global}
use Rattle.feel_value.specs.Datum.{Datum}
use Rattle.feel_text.specs.Expr.{Expr}
use Rattle.dmn_table.specs.Table.{Table}
use Rattle.dmn_form.specs.Model.{Boxed, Decision, Name}
use Rattle.dmn_logic.specs.declared.logic.Logic.{Logic}
use Rattle.dmn_service.specs.Places.{name_at}
use Rattle.dmn_service.specs.Plan.{decision_of}
use Rattle.dmn_service.specs.declared.plan.Item.{Item}
use Rattle.dmn_analysis.specs.Asked.{is_asked, is_in_utf8}
use Rattle.dmn_analysis.specs.declared.asked.Asked.{Asked}
use Rattle.dmn_ranges.specs.Ranges.{lies_in}
use Rattle.dmn_ranges.specs.declared.outcomes.Outcomes.{Outcomes}
use Rattle.dmn_told.specs.Coming.{IsComing}
use Rattle.dmn_told.specs.declared.domains.Domain.{Domain}
use Rattle.desk_checking.specs.TablesTold.{Looked}
use Rattle.desk_checking.specs.Tables.{Placed, decision_place, tables_in}
use Rattle.desk_checking.specs.declared.decision_inputs.DecisionInputs.{DecisionInputs}
use Rattle.desk_checking.specs.declared.walk.TableNumber.{TableNumber}

-- ---- which table it is

-- the tables of the decision of this index from this number on
abbrev pub numbers_from : ℕ → ℕ → ℕ → List (ℕ × ℕ)
numbers_from decision number zero = []
numbers_from decision number (suc n) = (decision, number) ∷ numbers_from decision (number + 1) n

-- those of decisions with this logic, from this index on
abbrev pub logic_numbers : ℕ → List (Boxed Expr Table) → List (ℕ × ℕ)
logic_numbers i [] = []
logic_numbers i (b ∷ bs) = numbers_from i 0 (length (tables_in (decision_place i) b)) ++ logic_numbers (i + 1) bs

abbrev pub number_view : TableNumber → ℕ × ℕ
number_view n = (n.decision, n.number)

abbrev pub number_views : List TableNumber → List (ℕ × ℕ)
number_views ns = map number_view ns

abbrev pub number_of : Looked → ℕ × ℕ
number_of l = (l.decision, l.number)

-- it is the table of this number in the logic of this index
pub record IsTableAt (logics : List (Boxed Expr Table)) (p : Placed) (n : ℕ × ℕ) : Type 0 where
  pub logic : Boxed Expr Table
  pub there : slice_get logics n.0 ≡ Some logic
  pub table : slice_get (tables_in (decision_place n.0) logic) n.1 ≡ Some p

-- ---- what comes to it

-- of each column that is asked about something is told, and each such value whose texts are in UTF-8 is asked about
abbrev pub AskUtf8Columns : List Outcomes → List Asked → Type 0
AskUtf8Columns os asked =
    (k : ℕ) (a : Asked) → slice_get asked k ≡ Some a → (o : Outcomes) × (slice_get os k ≡ Some o) × ((v : Datum) → is_in_utf8 v ≡ true → lies_in o.range v ≡ true → is_asked a v ≡ true)

-- each value whose texts are in UTF-8 that was asked about in a column still is
abbrev pub AreWiderAsked : List Asked → List Asked → Type 0
AreWiderAsked old new =
    (k : ℕ) (a : Asked) → slice_get new k ≡ Some a → (b : Asked) × (slice_get old k ≡ Some b) × ((v : Datum) → is_in_utf8 v ≡ true → is_asked b v ≡ true → is_asked a v ≡ true)

-- what is told of the table of this number in the decision of this index is asked about
pub record AsksTable (c : DecisionInputs) (decision number : ℕ) (asked : List Asked) : Type 0 where
  pub place : ℕ
  pub at : slice_get c.places.items decision ≡ Some place
  pub tables : Vec (Vec Outcomes Global) Global
  pub told : slice_get c.coming.tables.items place ≡ Some (Some tables)
  pub columns : Vec Outcomes Global
  pub there : slice_get tables.items number ≡ Some columns
  pub asks : AskUtf8Columns columns.items asked

abbrev pub AsksTableIf : Option DecisionInputs → ℕ → ℕ → List Asked → Type 0
AsksTableIf None decision number asked = ⊥
AsksTableIf (Some c) decision number asked = AsksTable c decision number asked

-- what comes to it, where that is known, is what is told of it
abbrev pub IsAsked : Option DecisionInputs → Looked → Type 0
IsAsked c l = IfSome l.comes (AsksTableIf c l.decision l.number)

pub record IsFrom (c : Option DecisionInputs) (logics : List (Boxed Expr Table)) (l : Looked) : Type 0 where
  pub logic : Boxed Expr Table
  pub there : slice_get logics l.decision ≡ Some logic
  pub table : slice_get (tables_in (decision_place l.decision) logic) l.number ≡ Some l.placed
  pub comes : IsAsked c l

-- ---- the places of decisions

abbrev pub place_if : Option Logic → ℕ → List ℕ
place_if None q = []
place_if (Some l) q = q ∷ []

-- the names of the decisions that some of these items are
abbrev pub decision_names : List Item → List Item → List Name
decision_names items xs = map (λ (d : Decision Expr Table). d.name) (filter_map (decision_of items) xs)

-- these are the places of the decisions, one after another
pub record ArePlaces (items : List Item) (places : List ℕ) : Type 0 where
  pub within : All (λ q. q < length items) places
  pub named : map (name_at items) places ≡ decision_names items items

-- what comes to the tables of the model of a text, in requests to these services within these domains
pub record IsComingBy (text : List ℕ) (ds : List Domain) (services : List Name) (c : DecisionInputs) : Type 0 where
  pub coming : IsComing text ds services c.coming
  pub places : ArePlaces c.coming.items.now c.places.items
