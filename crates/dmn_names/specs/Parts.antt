-- The lists of names within the parts of a model as written.
use Rattle.std.specs.Prelude.{ℕ, List, [], ◌∷◌, ◌++◌, map}
use Rattle.std.specs.List.{flat_map}
use Rattle.dmn_form.specs.Model.{Name, expression, table, list, context, context_with, Members, no_members, member, Entries, no_entries, entry, Service}
use Rattle.dmn_form.specs.Draft.{WrittenTable, Logic, Written, Draft}

abbrev pub output_names : WrittenTable → List Name
output_names t = map (λ c. c.name) t.outputs

abbrev pub entry_names : Entries (List ℕ) WrittenTable → List Name
entry_names no_entries = []
entry_names (entry n b es) = n ∷ entry_names es

-- the names of the entries of each context, and of the outputs of each table
abbrev mutual
  pub lists_in : Logic → List (List Name)
  lists_in (expression s) = []
  lists_in (table t) = output_names t ∷ []
  lists_in (list bs) = member_lists bs
  lists_in (context es) = entry_names es ∷ entry_lists es
  lists_in (context_with es b) = entry_names es ∷ (entry_lists es ++ lists_in b)

  pub member_lists : Members (List ℕ) WrittenTable → List (List Name)
  member_lists no_members = []
  member_lists (member b bs) = lists_in b ++ member_lists bs

  pub entry_lists : Entries (List ℕ) WrittenTable → List (List Name)
  entry_lists no_entries = []
  entry_lists (entry n b es) = lists_in b ++ entry_lists es

-- the needs of a decision, and the lists of names in its logic
abbrev pub decision_lists : Written → List (List Name)
decision_lists d = d.needs ∷ lists_in d.logic

abbrev pub service_lists : Service → List (List Name)
service_lists s = s.outputs ∷ s.encapsulated ∷ s.input_decisions ∷ s.input_data ∷ []

abbrev pub decision_names : Draft → List Name
decision_names m = map (λ d. d.name) m.decisions

abbrev pub service_names : Draft → List Name
service_names m = map (λ s. s.name) m.services

-- the names that stand for values: the inputs, and then the decisions
abbrev pub value_names : Draft → List Name
value_names m = m.inputs ++ decision_names m

-- the lists of names within the decisions and within the services
abbrev pub part_lists : Draft → List (List Name)
part_lists m = flat_map decision_lists m.decisions ++ flat_map service_lists m.services

-- The lists of names, in each of which a name may stand once: the inputs and decisions together, the services, the needs of
-- a decision, the entries of a context, the outputs of a table, each list of a service. Every name stands in one of them.
abbrev pub name_lists : Draft → List (List Name)
name_lists m = value_names m ∷ service_names m ∷ part_lists m
