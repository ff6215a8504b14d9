-- What is wrong with the logic of decisions as it is written: a text without a reading, and a table that is refused.
use Rattle.std.specs.Prelude.{ℕ, List, map, length, Bool, ◌||◌, option_to_list}
use Rattle.std.specs.List.{list_any}
use Rattle.std.specs.Option.{is_none, is_some}
use Rattle.feel_text.specs.Readings.{expr_of, tests_of, literal_of}
use Rattle.dmn_table.specs.Faults.{table_fault}
use Rattle.dmn_form.specs.Draft.{WrittenColumn, WrittenRule, WrittenTable, Logic, Written}
use Rattle.dmn_logic.specs.Parts.{texts_in, tables_in}

-- ---- texts without a reading

-- one of the texts is no expression
abbrev pub has_no_expression : List (List ℕ) → Bool
has_no_expression texts = list_any (λ s. is_none (expr_of s)) texts

-- a listed output value is a literal, a default an expression
abbrev pub is_unread_column : WrittenColumn → Bool
is_unread_column c = list_any (λ s. is_none (literal_of s)) c.values || has_no_expression (option_to_list c.fallback)

-- an input entry is unary tests, an output entry an expression
abbrev pub is_unread_rule : WrittenRule → Bool
is_unread_rule r = list_any (λ s. is_none (tests_of s)) r.tests || has_no_expression r.gives

abbrev pub is_unread_table : WrittenTable → Bool
is_unread_table t = has_no_expression t.inputs || (list_any is_unread_column t.outputs || list_any is_unread_rule t.rules)

abbrev pub is_unread : Logic → Bool
is_unread b = has_no_expression (texts_in b) || list_any is_unread_table (tables_in b)

-- some text of some decision has no reading of its kind
abbrev pub has_unread_text : List Written → Bool
has_unread_text ds = list_any (λ d. is_unread d.logic) ds

-- ---- tables that are refused

abbrev pub is_refused : WrittenTable → Bool
is_refused t = is_some (table_fault t.hit (length t.inputs) (map (λ c. c.name) t.outputs) (map (λ r. (length r.tests, length r.gives)) t.rules))

-- some table of some decision is refused
abbrev pub has_refused_table : List Written → Bool
has_refused_table ds = list_any (λ d. list_any is_refused (tables_in d.logic)) ds
