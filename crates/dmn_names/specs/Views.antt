-- Internal, cited by no public contract: the lists of names within members and entries as the code has them.
use Rattle.std.specs.Prelude.{List, map, ◌∷◌, String}
use Rattle.std.specs.declared.alloc.Global.{Global}
use Rattle.dmn_form.specs.Model.{Name, members_of, entries_of}
use Rattle.dmn_form.specs.LogicView.{logic_view, entry_view}
use Rattle.dmn_form.specs.declared.written.WrittenLogic.{WrittenLogic}
use Rattle.dmn_names.specs.Parts.{entry_names, member_lists, entry_lists}

abbrev pub member_lists_view : List WrittenLogic → List (List Name)
member_lists_view ls = member_lists (members_of (map logic_view ls))

abbrev pub entry_lists_view : List (String Global × WrittenLogic) → List (List Name)
entry_lists_view es = entry_lists (entries_of (map entry_view es))

-- the names of the entries, and the lists within them
abbrev pub context_lists_view : List (String Global × WrittenLogic) → List (List Name)
context_lists_view es = entry_names (entries_of (map entry_view es)) ∷ entry_lists_view es
