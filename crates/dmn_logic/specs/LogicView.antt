-- The boxed expression that the code's logic stands for.
use Rattle.std.specs.Prelude.{List, map}
use Rattle.std.specs.Arc.{arc_str_bytes}
use Rattle.std.specs.declared.alloc.Global.{Global}
use Rattle.std.specs.declared.sync.ArcStr.{ArcStr}
use Rattle.feel_text.specs.Expr.{Expr}
use Rattle.dmn_table.specs.Table.{Table}
use Rattle.dmn_form.specs.Model.{Name, Boxed, expression, table, list, context, context_with, Members, members_of, Entries, entries_of}
use Rattle.dmn_logic.specs.declared.logic.Logic.{Logic, fold-Logic}
use Rattle.dmn_logic.specs.declared.logic.Logic.TheOpen.{Logic-F}

-- a boxed expression over expressions and tables as they are read
abbrev pub Read : Type 0
Read = Boxed Expr Table

abbrev pub named_view : ArcStr Global × Read → Name × Read
named_view e = (arc_str_bytes e.0, e.1)

-- one level, with each part inside already seen
abbrev pub logic_step : Logic-F Read → Read
logic_step (Logic-F.Expression e) = expression e
logic_step (Logic-F.Table t) = table t
logic_step (Logic-F.List v) = list (members_of v.items)
logic_step (Logic-F.Context v) = context (entries_of (map named_view v.items))
logic_step (Logic-F.ContextWith v b) = context_with (entries_of (map named_view v.items)) b.value

abbrev pub logic_view : Logic → Read
logic_view = fold-Logic Read logic_step

abbrev pub entry_view : ArcStr Global × Logic → Name × Read
entry_view e = (arc_str_bytes e.0, logic_view e.1)

abbrev pub members_view : List Logic → Members Expr Table
members_view bs = members_of (map logic_view bs)

abbrev pub entries_view : List (ArcStr Global × Logic) → Entries Expr Table
entries_view es = entries_of (map entry_view es)
