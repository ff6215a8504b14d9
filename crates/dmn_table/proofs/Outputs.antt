-- Outputs and contexts, as the code holds them and as the definitions do.
use Rattle.std.proofs.Common.{◌≡◌, List, [], ◌∷◌, map, length, refl, ap, false, if◌then◌else◌}
use Rattle.std.specs.Arc.{arc_str_bytes}
use Rattle.std.specs.List.{list_all, zip}
use Rattle.feel_value.specs.Datum.{Datum, null, context, entries_of}
use Rattle.feel_value.specs.Outcome.{held}
use Rattle.feel_value.specs.Logic.{is_yes}
use Rattle.feel_value.specs.Comparison.{equal}
use Rattle.dmn_table.specs.declared.priority.Hit as hit
use Rattle.dmn_table.specs.declared.table.Output.{Output}
use Rattle.dmn_table.specs.Parts.{column_view}
use Rattle.dmn_table.specs.View.{hit_view}
use Rattle.dmn_table.specs.Hits.{output_of}
use Rattle.dmn_table.specs.Result.{first_of, common_one}

pub outputs_same : (hs : List hit.Hit) → map (λ h. h.output) (map hit_view hs) ≡ map (λ h. h.output) hs
outputs_same [] = refl
outputs_same (h ∷ hs) = ap (λ ds. h.output ∷ ds) (outputs_same hs)

pub names_same : (os : List Output) → map (λ c. c.name) (map column_view os) ≡ map (λ o. arc_str_bytes o.name) os
names_same [] = refl
names_same (o ∷ os) = ap (λ ns. arc_str_bytes o.name ∷ ns) (names_same os)

pub not_common : (ds : List Datum) → list_all (λ d. is_yes (equal (first_of ds) d)) ds ≡ false → common_one ds ≡ null
not_common ds e = ap (λ b. if b then first_of ds else null) e

pub context_of_columns : (os : List Output) (ds : List Datum) → (length os ≡ 1 → ⊥) → output_of (map column_view os) ds ≡ held (context (entries_of (zip (map (λ o. arc_str_bytes o.name) os) ds)))
context_of_columns [] ds h = refl
context_of_columns (o ∷ []) ds h = absurd (h refl)
context_of_columns (o ∷ p ∷ os) ds h = ap (λ ns. held (context (entries_of (zip (arc_str_bytes o.name ∷ arc_str_bytes p.name ∷ ns) ds)))) (names_same os)

pub context_of_values : (os : List Output) (ds : List Datum) → (length ds ≡ 1 → ⊥) → output_of (map column_view os) ds ≡ held (context (entries_of (zip (map (λ o. arc_str_bytes o.name) os) ds)))
context_of_values [] ds h = refl
context_of_values (o ∷ []) [] h = refl
context_of_values (o ∷ []) (d ∷ []) h = absurd (h refl)
context_of_values (o ∷ []) (d ∷ e ∷ ds) h = refl
context_of_values (o ∷ p ∷ os) ds h = ap (λ ns. held (context (entries_of (zip (arc_str_bytes o.name ∷ arc_str_bytes p.name ∷ ns) ds)))) (names_same os)
