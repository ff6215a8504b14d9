-- The values of a rule that make an output, and the hit that they make.
use Rattle.std.proofs.Common.{◌≡◌, ℕ, ◌≤◌, List, length, Bool, true, false, if◌then◌else◌, Option, None, Some, refl, sym, ap, ◌∙◌}
use Rattle.std.specs.Option.{is_some}
use Rattle.std.proofs.lemmas.List.{drop_all}
use Rattle.std.proofs.lemmas.Option.{same_Some}
use denote.Ref.{Bor}
use Rattle.feel_value.specs.Datum.{Datum}
use Rattle.feel_value.specs.Found.{◌>>=◌, value_of, each}
use Rattle.feel_value.specs.declared.feel.Outcome.{Outcome}
use Rattle.feel_value.specs.declared.feel.Outcome.TheVariants.{Is, Limit}
use Rattle.feel_text.specs.Meaning.{Bindings}
use Rattle.dmn_table.specs.declared.table.Rule as rule
use Rattle.dmn_table.specs.Hits.{hit_of, output_of, values_of}
use Rattle.dmn_table.specs.Priority.{Hit, places_of}
use Rattle.dmn_table.specs.RuleOutputs.{lawful_values, rule_output, rules_view, value_or_null}
use Rattle.dmn_table.specs.Table.{Column, Rule}
use Rattle.dmn_table.proofs.FirstInPriority.{from_best, hits_from}

abbrev hit_with : List Column → List Datum → Datum → Hit
hit_with cs ds d = record { places = places_of cs ds; output = d }

module _ (cs : List Column) (m : Bindings) (r : Rule) where
  -- there is an output where the values are lawful
  pub there : (ds : List Datum) (b : Bool) → (if b then Some ds else None) ≡ lawful_values cs m r → b ≡ is_some (rule_output cs m r)
  there ds b e = some_if b ∙ ap is_some e ∙ go (values_of m r.gives)
    where
      some_if : (a : Bool) → a ≡ is_some (if a then Some ds else None)
      some_if true = refl
      some_if false = refl

      same : (es : List Datum) (o : Option Datum) → is_some (o >>= λ output. Some es) ≡ is_some o
      same es None = refl
      same es (Some d) = refl

      go : (o : Option (List Datum)) → is_some (o >>= λ values. value_of (output_of cs values) >>= λ output. Some values) ≡ is_some (o >>= λ values. value_of (output_of cs values))
      go None = refl
      go (Some es) = same es (value_of (output_of cs es))

  -- values that are kept make an output, and a hit with it
  pub lawful_hit : (ds : List Datum) → Some ds ≡ lawful_values cs m r
      → (Some (hit_with cs ds (value_or_null (output_of cs ds))) ≡ hit_of cs m r) × (output_of cs ds ≡ Is (value_or_null (output_of cs ds)))
  lawful_hit ds e = go (values_of m r.gives) e
    where
      from_output : (es : List Datum) (o : Outcome) → output_of cs es ≡ o → Some ds ≡ (value_of o >>= λ output. Some es)
          → (Some (hit_with cs ds (value_or_null (output_of cs ds))) ≡ (value_of o >>= λ output. Some (hit_with cs es output)))
          × (output_of cs ds ≡ Is (value_or_null (output_of cs ds)))
      from_output es (Is d) f g =
          let same : ds ≡ es = same_Some ds es g in
          let given : output_of cs ds ≡ Is d = ap (output_of cs) same ∙ f in (
            ap (λ xs. Some (hit_with cs xs (value_or_null (output_of cs ds)))) same ∙ ap (λ o. Some (hit_with cs es (value_or_null o))) given,
            given ∙ ap (λ o. Is (value_or_null o)) (sym given),
          )
      from_output es Limit f g = cc

      go : (o : Option (List Datum)) → Some ds ≡ (o >>= λ values. value_of (output_of cs values) >>= λ output. Some values)
          → (Some (hit_with cs ds (value_or_null (output_of cs ds))) ≡ (o >>= λ values. value_of (output_of cs values) >>= λ output. Some (hit_with cs values output)))
          × (output_of cs ds ≡ Is (value_or_null (output_of cs ds)))
      go None f = cc
      go (Some es) f = from_output es (output_of cs es) refl f

-- at the end the best so far is the result
pub best_at_end : (cs : List Column) (m : Bindings) (rs : List (Bor rule.Rule)) (i : ℕ) (g : Hit) → length rs ≤ i → from_best g (hits_from cs m rs i) ≡ Is g.output
best_at_end cs m rs i g h = ap (λ xs. from_best g (each (hit_of cs m) (rules_view xs))) (drop_all i rs h)
