-- The outputs as one value.
use Rattle.std.proofs.Common.{◌≡◌, ◌≢◌, ◌∙◌, sym, ap, refl, ℕ, List, [], ◌∷◌, map, length, get_or, Option, None, Some, arith}
use Rattle.std.proofs.lemmas.List.{length-map}
use Rattle.std.specs.List.{zip}
use Rattle.feel_value.specs.Datum.{Datum, context, entries_of}
use Rattle.feel_value.specs.Outcome.{held}
use Rattle.feel_value.specs.declared.feel.Outcome.TheVariants.{Is}
use Rattle.feel_value.specs.Found.{outcome_from, each}
use Rattle.dmn_table.specs.Hits.{one_or_context}
use Rattle.dmn_form.specs.Model.{Name}
use Rattle.dmn_service.specs.Run.{Found, outputs_at}

one_output : (name : ℕ → Name) (q : ℕ) (o : Option Datum) → outcome_from Is o ≡ outcome_from (one_or_context (name q ∷ [])) (each (λ (_ : ℕ). o) (q ∷ []))
one_output name q None = refl
one_output name q (Some d) = refl

-- the only output is the outcome itself
pub only_output : (name : ℕ → Name) (found : Found) (qs : List ℕ) (q : ℕ) → q ≡ get_or qs 0 q → length qs ≡ 1 → outcome_from Is (found q) ≡ outputs_at name found qs
only_output name found [] q e h = let none : ⊥ = omega (arith, h) in absurd none
only_output name found (p ∷ []) q e h = ap (λ (k : ℕ). outcome_from Is (found k)) e ∙ one_output name p (found p)
only_output name found (p ∷ r ∷ qs) q e h = let none : ⊥ = omega (arith, h) in absurd none

-- several, or none, are a context
several : (names : List Name) (values : List Datum) → length names ≢ 1 → held (context (entries_of (zip names values))) ≡ one_or_context names values
several [] values h = refl
several (n ∷ []) values h = absurd (h refl)
several (n ∷ m ∷ names) values h = refl

pub many_outputs : (name : ℕ → Name) (found : Found) (qs : List ℕ) (values : List Datum) → length qs ≢ 1 → Some values ≡ each found qs
    → held (context (entries_of (zip (map name qs) values))) ≡ outputs_at name found qs
many_outputs name found qs values h e =
    several (map name qs) values (λ one. h (sym (length-map qs name) ∙ one)) ∙ ap (outcome_from (one_or_context (map name qs))) e
