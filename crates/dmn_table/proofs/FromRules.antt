-- The result of a table, from the rules that hit.
use Rattle.std.proofs.Common.{◌≡◌, List, [], ◌∷◌, length, refl, ap, ◌∙◌, Option, None, Some}
use denote.Ref.{Bor}
use Rattle.feel_value.specs.Datum.{Datum}
use Rattle.feel_value.specs.declared.feel.Outcome.{Outcome}
use Rattle.feel_text.specs.Meaning.{Bindings}
use Rattle.dmn_table.specs.declared.table.Rule as rule
use Rattle.feel_value.specs.Found.{◌>>=◌, each, outcome_from}
use Rattle.dmn_table.specs.Hits.{hits, hit_of, values_of}
use Rattle.dmn_table.specs.Priority.{Hit}
use Rattle.dmn_table.specs.Result.{table_result, result_from, policy_result}
use Rattle.dmn_table.specs.RuleOutputs.{hits_among, rules_view}
use Rattle.dmn_table.specs.Table.{Rule, Table}

-- the outcome of a table by the rules that hit
abbrev by_rules : Table → Bindings → Option (List Rule) → Outcome
by_rules t m o = outcome_from (result_from t m) (o >>= λ rules. each (hit_of t.outputs m) rules)

-- where rules hit, the input expressions have values
pub values_behind : (t : Table) (m : Bindings) (rules : List Rule) → Some rules ≡ hits t m → (values : List Datum) × (Some rules ≡ hits_among m values t.rules)
values_behind t m rules e = go (values_of m t.inputs) e
  where
    go : (o : Option (List Datum)) → Some rules ≡ (o >>= λ values. hits_among m values t.rules) → (values : List Datum) × (Some rules ≡ hits_among m values t.rules)
    go None f = cc
    go (Some values) f = (values, f)

pub by_policy : (t : Table) (m : Bindings) (rules : List Rule) → (rules ≡ [] → ⊥) → Some rules ≡ hits t m
    → outcome_from (policy_result t.policy) (each (hit_of t.outputs m) rules) ≡ table_result t m
by_policy t m rules some f = some_hits rules some ∙ ap (by_rules t m) f
  where
    first_hit : (o : Option Hit) (p : Option (List Hit)) → outcome_from (policy_result t.policy) (o >>= λ h. p >>= λ hs. Some (h ∷ hs)) ≡ outcome_from (result_from t m) (o >>= λ h. p >>= λ hs. Some (h ∷ hs))
    first_hit None p = refl
    first_hit (Some h) None = refl
    first_hit (Some h) (Some hs) = refl

    some_hits : (rs : List Rule) → (rs ≡ [] → ⊥) → outcome_from (policy_result t.policy) (each (hit_of t.outputs m) rs) ≡ by_rules t m (Some rs)
    some_hits [] s = absurd (s refl)
    some_hits (r ∷ rs) s = first_hit (hit_of t.outputs m r) (each (hit_of t.outputs m) rs)

-- where no rule is behind the references, there is none
pub none_behind : (rs : List (Bor rule.Rule)) → rules_view rs ≡ [] → length rs ≡ 0
none_behind [] e = refl
none_behind (r ∷ rs) e = cc
