-- What it means that a rule can decide.
use Rattle.std.specs.Prelude.{◌≡◌, ◌<◌, ◌⊎◌, ℕ, List, [], ◌∷◌, length, Bool, true, false, Some, option_map}
use Rattle.std.specs.List.{slice_get, All}
use Rattle.feel_value.specs.Datum.{Datum}
use Rattle.feel_value.specs.Found.{each}
use Rattle.feel_text.specs.Meaning.{Bindings}
use Rattle.dmn_table.specs.declared.hit_policy.HitPolicy.{HitPolicy}
use Rattle.dmn_table.specs.declared.hit_policy.HitPolicy.TheVariants.{First, Priority}
use Rattle.dmn_table.specs.Deciding.{deciding}
use Rattle.dmn_table.specs.Hits.{does_hit, hit_of}
use Rattle.dmn_table.specs.Priority.{Hit, is_higher}
use Rattle.dmn_table.specs.Table.{Column, Rule, Table}
use Rattle.dmn_analysis.specs.Asked.{is_in_utf8}
use Rattle.dmn_analysis.specs.Claims.{AreInputs}

-- Under these bindings the first rule's output has the higher priority; or the other one's hasn't, and the first
-- comes before it in the table.
pub record GivesHigher (columns : List Column) (m : Bindings) (comes_before : Type 0) (r s : Rule) : Type 0 where
  pub hit : Hit
  pub other : Hit
  pub given : hit_of columns m r ≡ Some hit
  pub other_given : hit_of columns m s ≡ Some other
  pub ahead : (is_higher hit.places other.places ≡ true) ⊎ (comes_before × (is_higher other.places hit.places ≡ false))

-- Of two rules that hit, the first goes before the other: under `F` by their order, under `P` by the priority of what
-- they give, and then by their order. Under the other policies none does.
abbrev pub HitsBefore : HitPolicy → List Column → Bindings → ℕ → ℕ → Rule → Rule → Type 0
HitsBefore First columns m j i r s = j < i
HitsBefore Priority columns m j i r s = GivesHigher columns m (j < i) r s
HitsBefore p columns m j i r s = ⊥

-- no rule that hits for these values goes before this one
abbrev pub IsFirst : Table → Bindings → List Datum → ℕ → Rule → Type 0
IsFirst t m values i s = (j : ℕ) (r : Rule) → slice_get t.rules j ≡ Some r → does_hit m values r ≡ Some true → HitsBefore t.policy t.outputs m j i r s → ⊥

-- the rule hits for these values, one a column, whose texts are in UTF-8
pub record Hits (t : Table) (m : Bindings) (values : List Datum) (i : ℕ) : Type 0 where
  pub inputs : AreInputs (length t.inputs) values
  pub utf8 : All (λ v. is_in_utf8 v ≡ true) values
  pub rule : Rule
  pub there : slice_get t.rules i ≡ Some rule
  pub hits : does_hit m values rule ≡ Some true

-- where the names stand for something, the rule hits for some values, and goes before each other that does
pub record CanDecide (t : Table) (i : ℕ) : Type 0 where
  pub names : Bindings
  pub values : List Datum
  pub hits : Hits t names values i
  pub first : IsFirst t names values i hits.rule

abbrev pub EachCanDecide : Table → Type 0
EachCanDecide t = (i : ℕ) → i < length t.rules → CanDecide t i

-- ---- internal

-- whether under a policy no rule goes before another
abbrev pub has_no_order : HitPolicy → Bool
has_no_order First = false
has_no_order Priority = false
has_no_order p = true

-- of two rules that hit under these bindings, with these numbers, the one of this number decides under `P`
pub record IsPicked (columns : List Column) (m : Bindings) (a b : ℕ) (r s : Rule) (n : ℕ) : Type 0 where
  pub rest : List ℕ
  pub picked : Some (n ∷ rest) ≡ option_map (deciding Priority (a ∷ b ∷ [])) (each (hit_of columns m) (r ∷ s ∷ []))
