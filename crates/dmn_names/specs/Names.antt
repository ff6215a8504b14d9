-- Which names of a model as written are lawful, distinct and known.
use Rattle.std.specs.Prelude.{List, Bool, not}
use Rattle.std.specs.List.{list_any}
use Rattle.feel_value.specs.Distinct.{is_among, are_distinct}
use Rattle.feel_text.specs.Lexical.{is_name}
use Rattle.dmn_form.specs.Model.{Name}
use Rattle.dmn_form.specs.Draft.{Draft}
use Rattle.dmn_names.specs.Parts.{value_names, name_lists}

-- one of these texts is no name
abbrev pub have_bad : List Name → Bool
have_bad ns = list_any (λ n. not (is_name n)) ns

-- one of these names stands twice
abbrev pub have_twice : List Name → Bool
have_twice ns = not (are_distinct ns)

-- a text in the place of a name is no name
abbrev pub has_bad_name : Draft → Bool
has_bad_name m = list_any have_bad (name_lists m)

-- a name stands twice in one list
abbrev pub has_name_twice : Draft → Bool
has_name_twice m = list_any have_twice (name_lists m)

-- a needed name is neither input nor decision
abbrev pub has_unknown_name : Draft → Bool
has_unknown_name m = list_any (λ d. list_any (λ n. not (is_among (value_names m) n)) d.needs) m.decisions
