-- Internal: no public contract cites these words. The rules of a table that are asked one column after another.
use Rattle.std.specs.Prelude.{ℕ, List, [], ◌∷◌, drop, map, All, Bool, true, ◌&&◌, Option, Some, if◌then◌else◌}
use Rattle.std.specs.List.{list_all, zip}
use Rattle.feel_value.specs.Datum.{Datum}
use Rattle.feel_value.specs.Found.{each, ◌>>=◌}
use Rattle.feel_text.specs.Meaning.{Bindings}
use Rattle.feel_text.specs.Satisfied.{satisfied}
use Rattle.feel_text.specs.Expr.{Expr}
use Rattle.dmn_table.specs.Hits.{is_satisfied, values_of}
use Rattle.dmn_table.specs.Parts.{rule_view}
use Rattle.dmn_table.specs.RuleOutputs.{hits_among}
use Rattle.dmn_table.specs.Table.{Rule}
use Rattle.table_classes.specs.Unbroken.{KeepLimits}
use Rattle.dmn_table.specs.declared.columns.Asked.{Asked}
use Rattle.dmn_table.specs.declared.table.Rule as rule

-- a rule, and whether each of its entries that was asked is met
abbrev pub asked_view : List Asked → List (rule.Rule × Bool)
asked_view asked = map (λ a. (a.rule.now, a.is_hit)) asked

abbrev pub unasked : List rule.Rule → List (rule.Rule × Bool)
unasked rules = map (λ r. (r, true)) rules

-- whether the rule hits, by the values of the columns from one on, of which no entry was asked
abbrev pub hits_from : Bindings → List Datum → ℕ → rule.Rule × Bool → Option Bool
hits_from m values column a =
    each (λ p. is_satisfied (satisfied p.0 p.1 m)) (zip (drop column a.0.tests.items) values) >>= λ answers. Some (a.1 && list_all (λ yes. yes) answers)

-- the same once an entry was asked, whose answer this is; None where it breaks a limit
abbrev pub once_asked : Bindings → List Datum → ℕ → rule.Rule → Option Bool → Option Bool
once_asked m values column r answer = answer >>= λ hit. hits_from m values column (r, hit)

-- the rules that hit
abbrev pub left_hits : Bindings → List Datum → ℕ → List (rule.Rule × Bool) → Option (List Rule)
left_hits m values column [] = Some []
left_hits m values column (a ∷ others) =
    hits_from m values column a >>= λ hit. left_hits m values column others >>= λ rules. Some (if hit then rule_view a.0 ∷ rules else rules)

-- those of which each entry that was asked is met
abbrev pub hitting : List (rule.Rule × Bool) → List Rule
hitting [] = []
hitting (a ∷ others) = if a.1 then rule_view a.0 ∷ hitting others else hitting others

-- no entry of these rules breaks a limit
abbrev pub KeepTheirLimits : List (rule.Rule × Bool) → Type 0
KeepTheirLimits asked = All (λ a. KeepLimits a.0.tests.items) asked

-- the rules that hit, by the input expressions
abbrev pub hits_by : Bindings → List Expr → List Rule → Option (List Rule)
hits_by m inputs rules = values_of m inputs >>= λ values. hits_among m values rules
