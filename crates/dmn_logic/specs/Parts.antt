-- The texts and tables that stand in boxed expressions as they are written, in their order.
use Rattle.std.specs.Prelude.{ℕ, List, [], ◌∷◌, ◌++◌}
use Rattle.dmn_form.specs.Model.{expression, table, list, context, context_with, Members, no_members, member, Entries, no_entries, entry}
use Rattle.dmn_form.specs.Draft.{WrittenTable, Logic}

-- the FEEL texts outside of tables
abbrev mutual
  pub texts_in : Logic → List (List ℕ)
  texts_in (expression s) = s ∷ []
  texts_in (table t) = []
  texts_in (list bs) = member_texts bs
  texts_in (context es) = entry_texts es
  texts_in (context_with es b) = entry_texts es ++ texts_in b

  pub member_texts : Members (List ℕ) WrittenTable → List (List ℕ)
  member_texts no_members = []
  member_texts (member b bs) = texts_in b ++ member_texts bs

  pub entry_texts : Entries (List ℕ) WrittenTable → List (List ℕ)
  entry_texts no_entries = []
  entry_texts (entry n b es) = texts_in b ++ entry_texts es

-- the tables
abbrev mutual
  pub tables_in : Logic → List WrittenTable
  tables_in (expression s) = []
  tables_in (table t) = t ∷ []
  tables_in (list bs) = member_tables bs
  tables_in (context es) = entry_tables es
  tables_in (context_with es b) = entry_tables es ++ tables_in b

  pub member_tables : Members (List ℕ) WrittenTable → List WrittenTable
  member_tables no_members = []
  member_tables (member b bs) = tables_in b ++ member_tables bs

  pub entry_tables : Entries (List ℕ) WrittenTable → List WrittenTable
  entry_tables no_entries = []
  entry_tables (entry n b es) = tables_in b ++ entry_tables es
