-- The first entry of a rule that is not met, entry by entry; and that a rule hits where it has none.
use Rattle.std.proofs.Common.{◌≡◌, ℕ, zero, suc, ◌+◌, ◌<◌, ◌≤◌, List, [], ◌∷◌, length, get_or, drop, refl, sym, ap, ◌∙◌, Bool, true, false, not, Option, None, Some, option_map}
use Rattle.std.specs.Option.{is_none}
use Rattle.std.specs.List.{list_all, position_from, slice_get, zip}
use Rattle.std.proofs.lemmas.List.{at_drop_more, drop_all}
use Rattle.std.proofs.lemmas.Option.{get_or_from_slice_get, slice_get_within}
use Rattle.feel_value.specs.Datum.{Datum}
use Rattle.feel_value.specs.Found.{each, ◌>>=◌}
use Rattle.feel_text.specs.Meaning.{Bindings}
use Rattle.feel_text.specs.Satisfied.{satisfied}
use Rattle.feel_text.specs.Tests.{Tests}
use Rattle.dmn_table.specs.Hits.{does_hit, first_miss, is_satisfied}
use Rattle.dmn_table.specs.Misses.{missed_from}
use Rattle.dmn_table.specs.Table.{Rule}

module _ (m : Bindings) (tests : List Tests) (values : List Datum) where
  -- the answers of the entries from this column on
  abbrev pub answers_from : ℕ → Option (List Bool)
  answers_from i = each (λ p. is_satisfied (satisfied p.0 p.1 m)) (zip (drop i tests) (drop i values))

  -- that of the column itself, and those behind it
  pub answers_more : (i : ℕ) (t : Tests) (v : Datum) → t ≡ get_or tests i t → i < length tests → slice_get values i ≡ Some v
      → answers_from i ≡ (is_satisfied (satisfied t v m) >>= λ y. answers_from (i + 1) >>= λ ys. Some (y ∷ ys))
  answers_more i t v here more there =
      at_drop_more (λ (ts : List Tests). each (λ p. is_satisfied (satisfied p.0 p.1 m)) (zip ts (drop i values))) tests i t more
      ∙ ap (λ (s : Tests). each (λ p. is_satisfied (satisfied p.0 p.1 m)) (zip (s ∷ drop (i + 1) tests) (drop i values))) (sym here)
      ∙ at_drop_more (λ (ds : List Datum). each (λ p. is_satisfied (satisfied p.0 p.1 m)) (zip (t ∷ drop (i + 1) tests) ds)) values i v (slice_get_within values i v there)
      ∙ ap (λ (d : Datum). each (λ p. is_satisfied (satisfied p.0 p.1 m)) (zip (t ∷ drop (i + 1) tests) (d ∷ drop (i + 1) values))) (get_or_from_slice_get values i v v there)

  -- none behind the last entry, or the last value
  pub answers_end : (i : ℕ) → length tests ≤ i → answers_from i ≡ Some []
  answers_end i end = ap (λ (ts : List Tests). each (λ p. is_satisfied (satisfied p.0 p.1 m)) (zip ts (drop i values))) (drop_all i tests end)

  pub values_end : (i : ℕ) → slice_get values i ≡ None → answers_from i ≡ Some []
  values_end i none = ap (λ (ds : List Datum). each (λ p. is_satisfied (satisfied p.0 p.1 m)) (zip (drop i tests) ds)) (dropped values i none) ∙ no_answers (drop i tests)
    where
      dropped : (ds : List Datum) (i : ℕ) → slice_get ds i ≡ None → drop i ds ≡ []
      dropped [] zero e = refl
      dropped [] (suc i) e = refl
      dropped (d ∷ ds) zero e = cc
      dropped (d ∷ ds) (suc i) e = dropped ds i e

      no_answers : (ts : List Tests) → each (λ p. is_satisfied (satisfied p.0 p.1 m)) (zip ts []) ≡ Some []
      no_answers [] = refl
      no_answers (t ∷ ts) = refl

-- where no answers are left, the miss is the one that was found
pub at_end : (i : ℕ) (miss : Option ℕ) → missed_from i miss (Some []) ≡ Some miss
at_end i None = refl
at_end i (Some c) = refl

-- ---- a rule hits where it has no miss

none_missed : (i : ℕ) (ys : List Bool) → is_none (position_from (λ yes. not yes) i ys) ≡ list_all (λ yes. yes) ys
none_missed i [] = refl
none_missed i (true ∷ ys) = none_missed (i + 1) ys
none_missed i (false ∷ ys) = refl

pub hits_without_miss : (m : Bindings) (values : List Datum) (r : Rule) → option_map is_none (first_miss m values r) ≡ does_hit m values r
hits_without_miss m values r = go (each (λ p. is_satisfied (satisfied p.0 p.1 m)) (zip r.tests values))
  where
    go : (o : Option (List Bool)) → option_map is_none (o >>= λ ys. Some (position_from (λ yes. not yes) 1 ys)) ≡ (o >>= λ ys. Some (list_all (λ yes. yes) ys))
    go None = refl
    go (Some ys) = ap Some (none_missed 1 ys)
