-- One turn of a loop over the outputs of rules.
use Rattle.std.proofs.Common.{◌≡◌, ℕ, ◌+◌, ◌<◌, List, [], ◌∷◌, ◌++◌, length, get_or, drop, refl, sym, ap, ◌∙◌, Bool, ◌&&◌, false, if◌then◌else◌, Option, None, Some, option_map, ℤ}
use Rattle.std.specs.Option.{is_some}
use denote.Ref.{Bor}
use Rattle.feel_value.specs.Datum.{Datum, list, item, items_of}
use Rattle.feel_value.specs.Limits.{is_value}
use Rattle.feel_value.specs.declared.feel.Outcome.TheVariants.{Is, Limit}
use Rattle.feel_value.proofs.Room.{behind, too_much}
use Rattle.feel_text.specs.Meaning.{Bindings}
use Rattle.dmn_table.specs.declared.table.Rule.{Rule}
use Rattle.feel_value.specs.Found.{◌>>=◌, outcome_from}
use Rattle.dmn_table.specs.Parts.{rule_view}
use Rattle.dmn_table.specs.Result.{list_of, number_in, numbers_of}
use Rattle.dmn_table.specs.RuleOutputs.{rules_view, rule_output, outputs_of}
use Rattle.dmn_table.specs.Table.{Column}
use Rattle.dmn_table.proofs.Each.{after, after_more, rest_from}

-- the outputs from the rule at i on
abbrev pub outputs_from : List Column → Bindings → List (Bor Rule) → ℕ → Option (List Datum)
outputs_from cs m rs i = outputs_of cs m (rules_view (drop i rs))

appended : (ms ds : List Datum) → items_of (ms ++ ds) ≡ behind ms (items_of ds)
appended [] ds = refl
appended (m ∷ ms) ds = ap (item m) (appended ms ds)

-- members that are too many for a value are so with more behind them
pub more_than_fit : (ms ds : List Datum) → is_value (list (items_of ms)) ≡ false → is_value (list (items_of (ms ++ ds))) ≡ false
more_than_fit ms ds h = ap (λ xs. is_value (list xs)) (appended ms ds) ∙ too_much ms (items_of ds) h

-- they leave no list, whatever comes behind them
too_many : (ms : List Datum) (o : Option (List Datum)) → is_value (list (items_of ms)) ≡ false → outcome_from list_of (after ms o) ≡ Limit
too_many ms None h = refl
too_many ms (Some ds) h = ap (λ b. if b then Is (list (items_of (ms ++ ds))) else Limit) (more_than_fit ms ds h)

module _ (cs : List Column) (m : Bindings) (rs : List (Bor Rule)) where
  module _ (i : ℕ) (r : Bor Rule) (here : r ≡ get_or rs i r) (more : i < length rs) where
    next_output : (o : Option Datum) → rule_output cs m (rule_view r.now) ≡ o → outputs_from cs m rs i ≡ (o >>= λ d. outputs_from cs m rs (i + 1) >>= λ ds. Some (d ∷ ds))
    next_output o e = rest_from (λ (a : Bor Rule). rule_output cs m (rule_view a.now)) (λ xs. outputs_of cs m (rules_view xs)) (λ a bs. refl) rs i r o here more e

    -- there are outputs for all where there is one for the rule at hand and there are for the rest
    pub one_there : (b : Bool) → b ≡ is_some (rule_output cs m (rule_view r.now)) → is_some (outputs_from cs m rs i) ≡ (b && is_some (outputs_from cs m rs (i + 1)))
    one_there b e = ap is_some (next_output (rule_output cs m (rule_view r.now)) refl) ∙ go (rule_output cs m (rule_view r.now)) (outputs_from cs m rs (i + 1)) ∙ ap (λ c. c && is_some (outputs_from cs m rs (i + 1))) (sym e)
      where
        go : (o : Option Datum) (p : Option (List Datum)) → is_some (o >>= λ d. p >>= λ ds. Some (d ∷ ds)) ≡ (is_some o && is_some p)
        go None p = refl
        go (Some d) None = refl
        go (Some d) (Some ds) = refl

    -- ---- the list of them

    one_taken : (ms : List Datum) (d : Datum) → rule_output cs m (rule_view r.now) ≡ Some d → after ms (outputs_from cs m rs i) ≡ after (ms ++ d ∷ []) (outputs_from cs m rs (i + 1))
    one_taken ms d e = ap (after ms) (next_output (Some d) e) ∙ after_more ms d (outputs_from cs m rs (i + 1))

    pub one_refused : (ms : List Datum) (d : Datum) → rule_output cs m (rule_view r.now) ≡ Some d → is_value (list (items_of (ms ++ d ∷ []))) ≡ false → outcome_from list_of (after ms (outputs_from cs m rs i)) ≡ Limit
    one_refused ms d e h = ap (outcome_from list_of) (one_taken ms d e) ∙ too_many (ms ++ d ∷ []) (outputs_from cs m rs (i + 1)) h

    -- ---- the numbers

    pub one_number : (zs : List ℤ) (d : Datum) (z : ℤ) → rule_output cs m (rule_view r.now) ≡ Some d → number_in d ≡ Some z
        → option_map (λ ds. after zs (numbers_of ds)) (outputs_from cs m rs i) ≡ option_map (λ ds. after (zs ++ z ∷ []) (numbers_of ds)) (outputs_from cs m rs (i + 1))
    one_number zs d z e n = ap (option_map (λ ds. after zs (numbers_of ds))) (next_output (Some d) e) ∙ go (outputs_from cs m rs (i + 1))
      where
        go : (o : Option (List Datum)) → option_map (λ ds. after zs (numbers_of ds)) (o >>= λ ds. Some (d ∷ ds)) ≡ option_map (λ ds. after (zs ++ z ∷ []) (numbers_of ds)) o
        go None = refl
        go (Some ds) = ap Some (ap (λ p. after zs (p >>= λ y. numbers_of ds >>= λ ys. Some (y ∷ ys))) n ∙ after_more zs z (numbers_of ds))

    pub no_number : (zs : List ℤ) (d : Datum) → rule_output cs m (rule_view r.now) ≡ Some d → number_in d ≡ None
        → option_map (λ ds. after zs (numbers_of ds)) (outputs_from cs m rs i) ≡ (if is_some (outputs_from cs m rs (i + 1)) then Some None else None)
    no_number zs d e n = ap (option_map (λ ds. after zs (numbers_of ds))) (next_output (Some d) e) ∙ go (outputs_from cs m rs (i + 1))
      where
        go : (o : Option (List Datum)) → option_map (λ ds. after zs (numbers_of ds)) (o >>= λ ds. Some (d ∷ ds)) ≡ (if is_some o then Some None else None)
        go None = refl
        go (Some ds) = ap Some (ap (λ p. after zs (p >>= λ y. numbers_of ds >>= λ ys. Some (y ∷ ys))) n)
