-- The boxed expression, as written, that the code's logic stands for.
use Rattle.std.specs.Prelude.{ℕ, List, map, String, Vec, string_bytes}
use Rattle.std.specs.declared.alloc.Global.{Global}
use Rattle.dmn_form.specs.Model.{expression, table, list, context, context_with, members_of, entries_of}
use Rattle.dmn_form.specs.Draft.{Logic}
use Rattle.dmn_form.specs.FormView.{table_view}
use Rattle.dmn_form.specs.declared.written.WrittenLogic.{WrittenLogic, fold-WrittenLogic}
use Rattle.dmn_form.specs.declared.written.WrittenLogic.TheOpen.{WrittenLogic-F}

abbrev pub named_view : String Global × Logic → List ℕ × Logic
named_view e = (string_bytes e.0, e.1)

-- one level, with each part inside already seen
abbrev pub logic_step : WrittenLogic-F Logic → Logic
logic_step (WrittenLogic-F.Expression s) = expression (string_bytes s)
logic_step (WrittenLogic-F.Table t) = table (table_view t)
logic_step (WrittenLogic-F.List v) = list (members_of v.items)
logic_step (WrittenLogic-F.Context v) = context (entries_of (map named_view v.items))
logic_step (WrittenLogic-F.ContextWith v b) = context_with (entries_of (map named_view v.items)) b.value

abbrev pub logic_view : WrittenLogic → Logic
logic_view = fold-WrittenLogic Logic logic_step

abbrev pub members_view : Vec WrittenLogic Global → List Logic
members_view v = map logic_view v.items

abbrev pub entry_view : String Global × WrittenLogic → List ℕ × Logic
entry_view e = (string_bytes e.0, logic_view e.1)

abbrev pub entries_view : Vec (String Global × WrittenLogic) Global → List (List ℕ × Logic)
entries_view v = map entry_view v.items
