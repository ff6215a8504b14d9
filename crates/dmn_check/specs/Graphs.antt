-- Where the requirements of a model are not looked into: a name stands twice, a needed name is unknown, or the model is too large.
use Rattle.std.specs.Prelude.{Bool, ◌||◌}
use Rattle.dmn_form.specs.Draft.{Draft}
use Rattle.dmn_names.specs.Names.{has_name_twice, has_unknown_name}
use Rattle.dmn_names.specs.Size.{is_large}

abbrev pub has_no_graph : Draft → Bool
has_no_graph m = is_large m || (has_name_twice m || has_unknown_name m)
