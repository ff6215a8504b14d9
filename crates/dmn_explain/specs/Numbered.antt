-- Internal: no public contract cites these words. Rules with their numbers, as the code holds them.
use Rattle.std.specs.Prelude.{ℕ, List, [], ◌∷◌, ◌++◌, map, Bool, true, false, Option, None, Some, option_map, if◌then◌else◌}
use Rattle.std.specs.Option.{is_none}
use Rattle.feel_value.specs.Datum.{Datum}
use Rattle.feel_value.specs.Found.{each}
use Rattle.feel_text.specs.Meaning.{Bindings}
use Rattle.dmn_table.specs.Hits.{first_miss, kept}
use Rattle.dmn_table.specs.Parts.{rule_view}
use Rattle.dmn_table.specs.Table.{Rule}
use Rattle.dmn_explain.specs.declared.asking.Asked.{Asked}
use Rattle.dmn_explain.specs.declared.asking.Hit.{Hit}
use Rattle.dmn_explain.specs.declared.asking.Miss.{Miss}
use Rattle.dmn_explain.specs.How.{missed, numbered}

abbrev pub hit_view : Hit → ℕ × Rule
hit_view h = (h.number, rule_view h.rule.now)

abbrev pub miss_view : Miss → ℕ × ℕ
miss_view x = (x.number, x.column)

-- the rules that hit and those that missed
abbrev pub Found : Type 0
Found = List (ℕ × Rule) × List (ℕ × ℕ)

abbrev pub asked_view : Asked → Found
asked_view a = (map hit_view a.hits.items, map miss_view a.misses.items)

-- the misses of these, where they are asked for
abbrev pub missed_if : Bool → ℕ → List (Option ℕ) → List (ℕ × ℕ)
missed_if w n columns = if w then missed n columns else []

-- what is found of these rules, numbered from n on
abbrev pub found_from : Bool → ℕ → Bindings → List Datum → List Rule → Option Found
found_from w n m values rules = option_map (λ columns. (kept (numbered n rules) (map is_none columns), missed_if w n columns)) (each (first_miss m values) rules)

-- with one rule more, of this number, that missed by this column, or hit
abbrev pub one_more : Bool → ℕ → Rule → Option ℕ → Found → Found
one_more w n r None found = (found.0 ++ (n, r) ∷ [], found.1)
one_more true n r (Some c) found = (found.0, found.1 ++ (n, c) ∷ [])
one_more false n r (Some c) found = found
