use Rattle.std.proofs.Common.{◌≡◌, ◌++◌, drop, map}
use Rattle.dmn_logic.specs.LogicView.{logic_view}
use Rattle.desk_checking.specs.ComesView.{logic_numbers, number_views}
use Rattle.desk_checking.specs.Tables.{logic_tables}
use Rattle.desk_checking.specs.TablesView.{placed_views}
use Rattle.desk_checking.proofs.walk.tables_of.Given as goal

abbrev pub invariant-loop-index : goal.invariant-loop-index
invariant-loop-index l = record {
  placed : placed_views l.tables.items ++ logic_tables l.index (map (λ x. logic_view x.now) (drop l.index l.logics)) ≡ logic_tables 0 (map (λ x. logic_view x.now) l.logics);
  numbers : number_views l.numbers.items ++ logic_numbers l.index (map (λ x. logic_view x.now) (drop l.index l.logics)) ≡ logic_numbers 0 (map (λ x. logic_view x.now) l.logics);
}
