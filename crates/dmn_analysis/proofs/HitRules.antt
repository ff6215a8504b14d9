-- Rules hit where all of their entries are met, and only there.
use Rattle.std.proofs.Common.{◌≡◌, ◌∙◌, sym, ap, ap₂, refl, ℕ, zero, suc, List, [], ◌∷◌, map, Bool, true, false, Option, None, Some}
use Rattle.std.specs.List.{zip, list_all, slice_get, All}
use Rattle.std.proofs.lemmas.Option.{same_Some}
use Rattle.feel_value.specs.Datum.{Datum}
use Rattle.feel_value.specs.Found.{each, ◌>>=◌}
use Rattle.feel_value.specs.declared.logic.Truth.TheVariants.{Yes, No, Unknown}
use Rattle.feel_text.specs.Meaning.{Bindings}
use Rattle.feel_text.specs.Satisfied.{Answer, Told, Broken, satisfied}
use Rattle.feel_text.specs.Tests.{Tests}
use Rattle.dmn_table.specs.Hits.{is_satisfied}
use Rattle.dmn_analysis.specs.Asked.{is_asked}
use Rattle.dmn_analysis.specs.Claims.{AreAsked}
use Rattle.dmn_analysis.specs.declared.asked.Asked.{Asked}
use Rattle.dmn_analysis.proofs.Places.{All-at}

-- the answers of tests, each asked of its value
abbrev answers : Bindings → List (Tests × Datum) → Option (List Bool)
answers m = each (λ p. is_satisfied (satisfied p.0 p.1 m))

abbrev all_yes : Option (List Bool) → Option Bool
all_yes o = o >>= λ ys. Some (list_all (λ yes. yes) ys)

-- ---- all entries met

first_met : (o : Option Bool) (p : Option (List Bool)) → o ≡ Some true → all_yes p ≡ Some true → all_yes (o >>= λ y. p >>= λ ys. Some (y ∷ ys)) ≡ Some true
first_met (Some true) (Some ys) e f = f
first_met (Some true) None e f = cc
first_met (Some false) p e f = cc
first_met None p e f = cc

pub met_hits : (m : Bindings) (tests : List Tests) (values : List Datum) → ((k : ℕ) (t : Tests) (v : Datum) → slice_get tests k ≡ Some t → slice_get values k ≡ Some v → satisfied t v m ≡ Told Yes)
    → all_yes (answers m (zip tests values)) ≡ Some true
met_hits m [] values h = refl
met_hits m (t ∷ ts) [] h = refl
met_hits m (t ∷ ts) (v ∷ vs) h =
    first_met (is_satisfied (satisfied t v m)) (answers m (zip ts vs)) (ap is_satisfied (h 0 t v refl refl))
    (met_hits m ts vs (λ k u w here has. h (suc k) u w here has))

-- ---- an entry of a rule that hits

is_met : (a : Answer) → is_satisfied a ≡ Some true → a ≡ Told Yes
is_met (Told Yes) e = refl
is_met (Told No) e = cc
is_met (Told Unknown) e = cc
is_met Broken e = cc

both_met : (o : Option Bool) (p : Option (List Bool)) → all_yes (o >>= λ y. p >>= λ ys. Some (y ∷ ys)) ≡ Some true → (o ≡ Some true) × (all_yes p ≡ Some true)
both_met (Some true) (Some ys) e = (refl, e)
both_met (Some true) None e = cc
both_met (Some false) (Some ys) e = cc
both_met (Some false) None e = cc
both_met None p e = cc

pub hits_met : (m : Bindings) (tests : List Tests) (values : List Datum) (k : ℕ) (t : Tests) (v : Datum) → all_yes (answers m (zip tests values)) ≡ Some true → slice_get tests k ≡ Some t → slice_get values k ≡ Some v
    → satisfied t v m ≡ Told Yes
hits_met m [] values k t v h here has = cc
hits_met m (s ∷ ss) [] k t v h here has = cc
hits_met m (s ∷ ss) (w ∷ ws) zero t v h here has =
    ap₂ (λ s w. satisfied s w m) (sym (same_Some s t here)) (sym (same_Some w v has)) ∙ is_met (satisfied s w m) (both_met (is_satisfied (satisfied s w m)) (answers m (zip ss ws)) h).0
hits_met m (s ∷ ss) (w ∷ ws) (suc k) t v h here has = hits_met m ss ws k t v (both_met (is_satisfied (satisfied s w m)) (answers m (zip ss ws)) h).1 here has

-- ---- elements by their places

-- the element that a mapped one comes from
pub mapped : {X Y : Type 0} (f : X → Y) (xs : List X) (i : ℕ) (y : Y) → slice_get (map f xs) i ≡ Some y → (x : X) × (slice_get xs i ≡ Some x) × (f x ≡ y)
mapped f [] i y h = cc
mapped f (x ∷ xs) zero y h = (x, refl, same_Some (f x) y h)
mapped f (x ∷ xs) (suc i) y h = mapped f xs i y h

-- everything is asked about
pub everything : (asked : List Asked) (values : List Datum) → All (λ a. (v : Datum) → is_asked a v ≡ true) asked → AreAsked asked values
everything asked values all = λ k a v here has. All-at (λ a. (v : Datum) → is_asked a v ≡ true) asked k a all here v
