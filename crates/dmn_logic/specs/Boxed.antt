-- The outcome of a boxed expression.
use Rattle.std.specs.Prelude.{ℕ, List, [], ◌∷◌, ◌++◌, Option, Some}
use Rattle.feel_value.specs.Datum as datum
use Rattle.feel_value.specs.Datum.{Datum, items_of, entries_of}
use Rattle.feel_value.specs.Outcome.{held}
use Rattle.feel_value.specs.declared.feel.Outcome.{Outcome}
use Rattle.feel_text.specs.Expr.{Expr}
use Rattle.feel_text.specs.Meaning.{den, Bindings}
use Rattle.feel_value.specs.Found.{value_of, ◌>>=◌, outcome_from}
use Rattle.dmn_table.specs.Table.{Table}
use Rattle.dmn_table.specs.Result.{table_result}
use Rattle.dmn_form.specs.Model.{Boxed, expression, table, list, context, context_with, Members, no_members, member, Entries, no_entries, entry}

-- A list is evaluated member by member. The entries of a context are evaluated in order, each with the earlier ones bound behind
-- the outer names, so that they hide those. The value of a context is that of its result, which sees all entries, or else the
-- context of all entries. A value that is formed is held against the limits.
abbrev mutual
  pub boxed : Boxed Expr Table → Bindings → Outcome
  boxed (expression e) m = den e m
  boxed (table t) m = table_result t m
  boxed (list bs) m = outcome_from (λ ds. held (datum.list (items_of ds))) (member_values bs m)
  boxed (context es) m = outcome_from (λ ds. held (datum.context (entries_of ds))) (entry_values es m)
  boxed (context_with es b) m = outcome_from (λ ds. boxed b (m ++ ds)) (entry_values es m)

  -- the values of the members; None where one breaks a limit
  pub member_values : Members Expr Table → Bindings → Option (List Datum)
  member_values no_members m = Some []
  member_values (member b bs) m = value_of (boxed b m) >>= λ d. member_values bs m >>= λ ds. Some (d ∷ ds)

  -- the entries with their values; None where one breaks a limit
  pub entry_values : Entries Expr Table → Bindings → Option (List (List ℕ × Datum))
  entry_values no_entries m = Some []
  entry_values (entry n b es) m = value_of (boxed b m) >>= λ d. entry_values es (m ++ (n, d) ∷ []) >>= λ ds. Some ((n, d) ∷ ds)
