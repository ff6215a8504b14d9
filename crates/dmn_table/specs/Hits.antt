-- Which rules of a table hit, and with what output.
use Rattle.std.specs.Prelude.{ℕ, List, [], ◌∷◌, Bool, true, false, not, map, Option, None, Some}
use Rattle.std.specs.List.{list_all, position_from, zip}
use Rattle.feel_value.specs.Datum.{Datum, context, entries_of}
use Rattle.feel_value.specs.Logic.{is_yes}
use Rattle.feel_value.specs.Outcome.{held}
use Rattle.feel_value.specs.declared.feel.Outcome.{Outcome}
use Rattle.feel_value.specs.declared.feel.Outcome.TheVariants.{Is}
use Rattle.feel_text.specs.Expr.{Expr}
use Rattle.feel_text.specs.Meaning.{den, Bindings}
use Rattle.feel_text.specs.Satisfied.{satisfied, Answer, Told, Broken}
use Rattle.feel_value.specs.Found.{value_of, ◌>>=◌, each}
use Rattle.dmn_table.specs.Table.{Column, Rule, Table}
use Rattle.dmn_table.specs.Priority.{places_of, Hit}

-- the values of expressions
abbrev pub values_of : Bindings → List Expr → Option (List Datum)
values_of m es = each (λ e. value_of (den e m)) es

-- whether the answer is Yes; None where a limit was broken
abbrev pub is_satisfied : Answer → Option Bool
is_satisfied (Told t) = Some (is_yes t)
is_satisfied Broken = None

-- a rule hits where each of its entries is satisfied by the value of its column
abbrev pub does_hit : Bindings → List Datum → Rule → Option Bool
does_hit m values rule =
    each (λ p. is_satisfied (satisfied p.0 p.1 m)) (zip rule.tests values) >>= λ answers. Some (list_all (λ yes. yes) answers)

-- the first column, from 1 on, whose entry is not satisfied by its value; none where the rule hits
abbrev pub first_miss : Bindings → List Datum → Rule → Option (Option ℕ)
first_miss m values rule =
    each (λ p. is_satisfied (satisfied p.0 p.1 m)) (zip rule.tests values) >>= λ answers. Some (position_from (λ yes. not yes) 1 answers)

-- the elements whose answer is true
abbrev pub kept : {X : Type 0} → List X → List Bool → List X
kept [] answers = []
kept (x ∷ xs) [] = []
kept (x ∷ xs) (true ∷ answers) = x ∷ kept xs answers
kept (x ∷ xs) (false ∷ answers) = kept xs answers

-- The rules that hit, in their order. All input expressions and all entries of all rules are evaluated.
abbrev pub hits : Table → Bindings → Option (List Rule)
hits t m =
    values_of m t.inputs >>= λ values.
    each (does_hit m values) t.rules >>= λ answers.
    Some (kept t.rules answers)

-- named values as one value: the only one itself, otherwise a context
abbrev pub one_or_context : List (List ℕ) → List Datum → Outcome
one_or_context (n ∷ []) (v ∷ []) = Is v
one_or_context names values = held (context (entries_of (zip names values)))

abbrev pub output_of : List Column → List Datum → Outcome
output_of columns values = one_or_context (map (λ c. c.name) columns) values

-- a rule that hit, with its output and the places of the values of its output entries
abbrev pub hit_of : List Column → Bindings → Rule → Option Hit
hit_of columns m rule =
    values_of m rule.gives >>= λ values.
    value_of (output_of columns values) >>= λ output.
    Some (record { places = places_of columns values; output = output })
