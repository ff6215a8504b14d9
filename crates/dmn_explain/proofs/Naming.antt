-- The outputs of hits that have no parts, by the places of the columns' names.
use Rattle.std.proofs.Common.{◌≡◌, ◌<◌, List, map, length, Bool, true, false, ap, sym, ◌∙◌, refl, Some, option_map, if◌then◌else◌, arith}
use Rattle.std.specs.Arc.{arc_str_bytes}
use Rattle.std.specs.List.{zip}
use Rattle.std.specs.Option.{is_some}
use Rattle.std.specs.declared.alloc.Global.{Global}
use Rattle.std.specs.declared.string.String.{String}
use Rattle.std.proofs.lemmas.List.{length-map}
use Rattle.serde_json.specs.Data.{object}
use Rattle.serde_json.specs.declared.value.Value.{Value}
use Rattle.feel_value.specs.Datum.{Datum, context, entries_of}
use Rattle.feel_value.specs.Distinct.{are_distinct}
use Rattle.feel_value.specs.Found.{value_of}
use Rattle.feel_value.specs.Json.{json_of}
use Rattle.feel_value.specs.Limits.{is_value}
use Rattle.feel_value.specs.Outcome.{held}
use Rattle.feel_value.specs.declared.feel.Outcome.TheVariants.{Is, Limit}
use Rattle.dmn_table.specs.Parts.{column_view, names_of}
use Rattle.dmn_table.specs.declared.table.Output.{Output}
use Rattle.dmn_table.proofs.Outputs.{context_of_columns}
use Rattle.dmn_table.proofs.Scalars.{scalars_made}
use Rattle.dmn_explain.specs.ByName.{ArePlaces}
use Rattle.dmn_explain.specs.NamedOutputs.{TellsOutputs}

-- what is held is in JSON what it is
held_json : (d : Datum) → is_some (value_of (held d)) ≡ true → option_map json_of (value_of (held d)) ≡ Some (json_of d)
held_json d h = go (is_value d) h
  where
    go : (b : Bool) → is_some (value_of (if b then Is d else Limit)) ≡ true → option_map json_of (value_of (if b then Is d else Limit)) ≡ Some (json_of d)
    go true e = refl
    go false e = cc

-- several columns, whose names stand once
pub tells_outputs : (os : List Output) (places : List (String Global × Value)) → (length os ≡ 1 → ⊥) → length os < 10000 → are_distinct (names_of os) ≡ true → ArePlaces (names_of os) places
    → TellsOutputs (map column_view os) places
tells_outputs os places several few distinct are = λ ds same scalars.
    let counted : length ds ≡ length os = same ∙ length-map os column_view in
    let shape = context_of_columns os ds several in
    ap (λ o. option_map json_of (value_of o)) shape
    ∙ held_json (context (entries_of (zip (names_of os) ds))) (ap (λ o. is_some (value_of o)) (sym shape) ∙ scalars_made os ds distinct scalars (omega (arith, counted, few)))
    ∙ ap (λ ms. Some (object ms)) (sym (are ds (counted ∙ sym (length-map os (λ o. arc_str_bytes o.name)))))
