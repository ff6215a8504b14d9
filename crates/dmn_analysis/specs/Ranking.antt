-- Internal: no public contract cites these words. The places of rules' outputs in the lists of output values.
use Rattle.std.specs.Prelude.{◌≡◌, ◌⊎◌, IsTrue, ℕ, List, Some, true, false}
use Rattle.std.specs.List.{slice_get}
use Rattle.feel_value.specs.Datum.{Datum}
use Rattle.feel_value.specs.Found.{value_of}
use Rattle.feel_text.specs.Expr.{Expr}
use Rattle.feel_text.specs.Meaning.{Bindings, den}
use Rattle.dmn_table.specs.Hits.{values_of}
use Rattle.dmn_table.specs.Priority.{is_higher, place, places_of}
use Rattle.dmn_table.specs.Table.{Column, Rule}
use Rattle.dmn_analysis.specs.declared.ranking.Rank.{Rank}

-- whatever the names stand for, the value of the expression has this place in the list
abbrev pub HasPlace : List Datum → Expr → ℕ → Type 0
HasPlace listed expr n = (m : Bindings) (v : Datum) → value_of (den expr m) ≡ Some v → place listed v ≡ n

-- the same of an expression for each column
abbrev pub HavePlaces : List Column → List Expr → List ℕ → Type 0
HavePlaces columns gives places = (m : Bindings) (values : List Datum) → values_of m gives ≡ Some values → places_of columns values ≡ places

abbrev pub IsRank : List Column → Rule → Rank → Type 0
IsRank columns rule rank = IsTrue rank.is_known → HavePlaces columns rule.gives rank.places.items

-- each is the rank of the rule of its number
abbrev pub AreRanks : List Column → List Rule → List Rank → Type 0
AreRanks columns rules ranks = (i : ℕ) (rule : Rule) (rank : Rank) → slice_get rules i ≡ Some rule → slice_get ranks i ≡ Some rank → IsRank columns rule rank

-- by these ranks the first goes before the other, which it stands before or not
pub record RanksBefore (one other : Rank) (stands_before : Type 0) : Type 0 where
  pub known : IsTrue one.is_known
  pub other_known : IsTrue other.is_known
  pub ahead : (is_higher one.places.items other.places.items ≡ true) ⊎ (stands_before × (is_higher other.places.items one.places.items ≡ false))
