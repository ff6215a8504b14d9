-- What the outputs of rules come to, by whether there are all and what holds of them.
use Rattle.std.proofs.Common.{◌≡◌, ℕ, ◌<◌, ◌≤◌, List, [], ◌∷◌, length, refl, ap, ◌∙◌, arith, Bool, true, false, ◌&&◌, if◌then◌else◌, Option, None, Some, option_map, pos}
use Rattle.std.proofs.lemmas.List.{length-map}
use Rattle.std.proofs.lemmas.Option.{same_Some}
use Rattle.std.specs.List.{list_all}
use Rattle.std.specs.Option.{is_some}
use denote.Ref.{Bor}
use Rattle.feel_value.specs.Datum.{Datum, null, number}
use Rattle.feel_value.specs.Comparison.{equal}
use Rattle.feel_value.specs.Logic.{is_yes}
use Rattle.feel_value.specs.Outcome.{held}
use Rattle.feel_value.specs.declared.feel.Outcome.TheVariants.{Is}
use Rattle.feel_value.proofs.Laws.{equal_itself}
use Rattle.feel_text.specs.Meaning.{Bindings}
use Rattle.dmn_table.specs.declared.table.Rule.{Rule}
use Rattle.feel_value.specs.Found.{◌>>=◌, outcome_from}
use Rattle.dmn_table.specs.Deciding.{are_equal}
use Rattle.dmn_table.specs.Parts.{rule_view}
use Rattle.dmn_table.specs.Result.{first_of, only_one, common_one}
use Rattle.dmn_table.specs.RuleOutputs.{rules_view, rule_output, outputs_of}
use Rattle.dmn_table.specs.Table.{Column}
use Rattle.dmn_table.proofs.Each.{each_length}

module _ (cs : List Column) (m : Bindings) where
  -- they are as many as the rules
  pub counted : (rs : List (Bor Rule)) → is_some (outputs_of cs m (rules_view rs)) ≡ true
      → outcome_from (λ ds. held (number (pos (length ds)))) (outputs_of cs m (rules_view rs)) ≡ held (number (pos (length rs)))
  counted rs h = go (outputs_of cs m (rules_view rs)) refl h
    where
      go : (o : Option (List Datum)) → outputs_of cs m (rules_view rs) ≡ o → is_some o ≡ true → outcome_from (λ ds. held (number (pos (length ds)))) o ≡ held (number (pos (length rs)))
      go None e h = cc
      go (Some ds) e h = ap (λ n. held (number (pos n))) (each_length (rule_output cs m) (rules_view rs) ds e ∙ length-map rs (λ r. rule_view r.now))

  -- what is made of their number
  pub by_count : (rs : List (Bor Rule)) (f : ℕ → List ℕ) → is_some (outputs_of cs m (rules_view rs)) ≡ true → option_map (λ (ds : List Datum). f (length ds)) (outputs_of cs m (rules_view rs)) ≡ Some (f (length rs))
  by_count rs f h = go (outputs_of cs m (rules_view rs)) refl h
    where
      go : (o : Option (List Datum)) → outputs_of cs m (rules_view rs) ≡ o → is_some o ≡ true → option_map (λ (ds : List Datum). f (length ds)) o ≡ Some (f (length rs))
      go None e h = cc
      go (Some ds) e h = ap (λ n. Some (f n)) (each_length (rule_output cs m) (rules_view rs) ds e ∙ length-map rs (λ r. rule_view r.now))

  -- the first of at most one is the only one
  pub first_alone : (rs : List (Bor Rule)) → length rs ≤ 1
      → outcome_from (λ ds. Is (first_of ds)) (outputs_of cs m (rules_view rs)) ≡ outcome_from (λ ds. Is (only_one ds)) (outputs_of cs m (rules_view rs))
  first_alone [] h = refl
  first_alone (r ∷ []) h = go (rule_output cs m (rule_view r.now))
    where
      go : (o : Option Datum) → outcome_from (λ ds. Is (first_of ds)) (o >>= λ d. Some (d ∷ [])) ≡ outcome_from (λ ds. Is (only_one ds)) (o >>= λ d. Some (d ∷ []))
      go None = refl
      go (Some d) = refl
  first_alone (r ∷ s ∷ rs) h = absurd (omega arith)

  -- of two or more there is no only one
  pub several : (rs : List (Bor Rule)) → 1 < length rs → is_some (outputs_of cs m (rules_view rs)) ≡ true → outcome_from (λ ds. Is (only_one ds)) (outputs_of cs m (rules_view rs)) ≡ Is null
  several [] l h = absurd (omega arith)
  several (r ∷ []) l h = absurd (omega arith)
  several (r ∷ s ∷ rs) l h = go (rule_output cs m (rule_view r.now)) (rule_output cs m (rule_view s.now)) (outputs_of cs m (rules_view rs)) h
    where
      go : (o p : Option Datum) (q : Option (List Datum)) → is_some (o >>= λ d. (p >>= λ e. q >>= λ ds. Some (e ∷ ds)) >>= λ es. Some (d ∷ es)) ≡ true
          → outcome_from (λ ds. Is (only_one ds)) (o >>= λ d. (p >>= λ e. q >>= λ ds. Some (e ∷ ds)) >>= λ es. Some (d ∷ es)) ≡ Is null
      go None p q h = cc
      go (Some d) None q h = cc
      go (Some d) (Some e) None h = cc
      go (Some d) (Some e) (Some ds) h = refl

  -- the first is the common one where it equals the others
  pub common : (rs rest : List (Bor Rule)) (r : Bor Rule) (d : Datum) (b : Bool) → rs ≡ r ∷ rest → rule_output cs m (rule_view r.now) ≡ Some d
      → option_map (list_all (λ e. is_yes (equal d e))) (outputs_of cs m (rules_view rest)) ≡ Some b
      → outcome_from (λ ds. Is (common_one ds)) (outputs_of cs m (rules_view rs)) ≡ Is (if b then d else null)
  common rs rest r d b split e h =
      ap (λ xs. outcome_from (λ ds. Is (common_one ds)) (outputs_of cs m (rules_view xs))) split
      ∙ ap (λ o. outcome_from (λ ds. Is (common_one ds)) (o >>= λ x. outputs_of cs m (rules_view rest) >>= λ xs. Some (x ∷ xs))) e
      ∙ go (outputs_of cs m (rules_view rest)) h
    where
      go : (o : Option (List Datum)) → option_map (list_all (λ e. is_yes (equal d e))) o ≡ Some b → outcome_from (λ ds. Is (common_one ds)) (o >>= λ ds. Some (d ∷ ds)) ≡ Is (if b then d else null)
      go None h = cc
      go (Some ds) h =
          ap (λ c. Is (if c && list_all (λ e. is_yes (equal d e)) ds then d else null)) (ap is_yes (equal_itself d))
          ∙ ap (λ c. Is (if c then d else null)) (same_Some _ _ h)

  -- all of these numbers where the first equals the others, otherwise none
  pub all_or_none : (rs rest : List (Bor Rule)) (r : Bor Rule) (d : Datum) (b : Bool) (ns : List ℕ) → rs ≡ r ∷ rest → rule_output cs m (rule_view r.now) ≡ Some d
      → option_map (list_all (λ e. is_yes (equal d e))) (outputs_of cs m (rules_view rest)) ≡ Some b
      → option_map (λ (ds : List Datum). if are_equal ds then ns else []) (outputs_of cs m (rules_view rs)) ≡ Some (if b then ns else [])
  all_or_none rs rest r d b ns split e h =
      ap (λ xs. option_map (λ (ds : List Datum). if are_equal ds then ns else []) (outputs_of cs m (rules_view xs))) split
      ∙ ap (λ o. option_map (λ (ds : List Datum). if are_equal ds then ns else []) (o >>= λ x. outputs_of cs m (rules_view rest) >>= λ xs. Some (x ∷ xs))) e
      ∙ go (outputs_of cs m (rules_view rest)) h
    where
      go : (o : Option (List Datum)) → option_map (list_all (λ e. is_yes (equal d e))) o ≡ Some b
          → option_map (λ (ds : List Datum). if are_equal ds then ns else []) (o >>= λ ds. Some (d ∷ ds)) ≡ Some (if b then ns else [])
      go None h = cc
      go (Some ds) h =
          ap (λ c. Some (if c && list_all (λ e. is_yes (equal d e)) ds then ns else [])) (ap is_yes (equal_itself d))
          ∙ ap (λ c. Some (if c then ns else [])) (same_Some _ _ h)

-- where there are no outputs, nothing is found
pub none_found : {X Y : Type 0} (o : Option X) (f : X → Y) → is_some o ≡ false → option_map f o ≡ None
none_found None f h = refl
none_found (Some x) f h = cc
