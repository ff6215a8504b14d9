-- What is found of hits is found of their outputs alone.
use Rattle.std.proofs.Common.{◌≡◌, List, [], ◌∷◌, map, length, refl, sym, ap, ap₂, ◌∙◌, Option, None, Some, option_map, ℕ, pos}
use Rattle.std.proofs.lemmas.List.{length-map}
use Rattle.feel_value.specs.Datum.{Datum, number}
use Rattle.feel_value.specs.Outcome.{held}
use Rattle.feel_value.specs.declared.feel.Outcome.{Outcome}
use Rattle.feel_text.specs.Meaning.{Bindings}
use Rattle.feel_value.specs.Found.{each, ◌>>=◌, value_of, outcome_from}
use Rattle.dmn_table.specs.Hits.{hit_of, values_of, output_of}
use Rattle.dmn_table.specs.Priority.{Hit, places_of}
use Rattle.dmn_table.specs.RuleOutputs.{rule_output, outputs_of}
use Rattle.dmn_table.specs.Table.{Column, Rule}

abbrev pub output_in : Hit → Datum
output_in h = h.output

output_of_hit : (cs : List Column) (m : Bindings) (r : Rule) → option_map output_in (hit_of cs m r) ≡ rule_output cs m r
output_of_hit cs m r = from_values (values_of m r.gives)
  where
    from_output : (ps : List ℕ) (o : Option Datum) → option_map output_in (o >>= λ output. Some (record { places = ps; output = output })) ≡ o
    from_output ps None = refl
    from_output ps (Some d) = refl

    from_values : (o : Option (List Datum))
        → option_map output_in (o >>= λ ds. value_of (output_of cs ds) >>= λ output. Some (record { places = places_of cs ds; output = output })) ≡ (o >>= λ ds. value_of (output_of cs ds))
    from_values None = refl
    from_values (Some ds) = from_output (places_of cs ds) (value_of (output_of cs ds))

pub outputs_of_hits : (cs : List Column) (m : Bindings) (rs : List Rule) → option_map (map output_in) (each (hit_of cs m) rs) ≡ outputs_of cs m rs
outputs_of_hits cs m [] = refl
outputs_of_hits cs m (r ∷ rs) =
    go (hit_of cs m r) (each (hit_of cs m) rs) ∙ ap₂ (λ o p. o >>= λ d. p >>= λ ds. Some (d ∷ ds)) (output_of_hit cs m r) (outputs_of_hits cs m rs)
  where
    go : (o : Option Hit) (p : Option (List Hit)) → option_map (map output_in) (o >>= λ h. p >>= λ hs. Some (h ∷ hs)) ≡ (option_map output_in o >>= λ d. option_map (map output_in) p >>= λ ds. Some (d ∷ ds))
    go None p = refl
    go (Some h) None = refl
    go (Some h) (Some hs) = refl

pub by_outputs : (F : List Datum → Outcome) (cs : List Column) (m : Bindings) (rs : List Rule)
    → outcome_from F (outputs_of cs m rs) ≡ outcome_from (λ hs. F (map (λ h. h.output) hs)) (each (hit_of cs m) rs)
by_outputs F cs m rs = ap (outcome_from F) (sym (outputs_of_hits cs m rs)) ∙ go (each (hit_of cs m) rs)
  where
    go : (o : Option (List Hit)) → outcome_from F (option_map (map output_in) o) ≡ outcome_from (λ hs. F (map (λ h. h.output) hs)) o
    go None = refl
    go (Some hs) = refl

pub by_count : (cs : List Column) (m : Bindings) (rs : List Rule)
    → outcome_from (λ ds. held (number (pos (length ds)))) (outputs_of cs m rs) ≡ outcome_from (λ (hs : List Hit). held (number (pos (length hs)))) (each (hit_of cs m) rs)
by_count cs m rs = by_outputs (λ ds. held (number (pos (length ds)))) cs m rs ∙ go (each (hit_of cs m) rs)
  where
    go : (o : Option (List Hit)) → outcome_from (λ hs. held (number (pos (length (map output_in hs))))) o ≡ outcome_from (λ (hs : List Hit). held (number (pos (length hs)))) o
    go None = refl
    go (Some hs) = ap (λ n. held (number (pos n))) (length-map hs output_in)
