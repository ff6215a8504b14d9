use Rattle.std.proofs.Common.{◌≡◌, ◌∙◌, ◌++◌, ap, arith, length, map, refl}
use Rattle.std.proofs.lemmas.List.{length-append, length-map}
use Rattle.dmn_logic.specs.LogicView.{logic_view}
use Rattle.desk_checking.specs.ComesView.{logic_numbers, number_views, numbers_from}
use Rattle.desk_checking.specs.Tables.{decision_place, logic_tables, tables_in}
use Rattle.desk_checking.specs.TablesView.{placed_view, placed_views}
use Rattle.desk_checking.proofs.Walks.{turn}
use Rattle.desk_checking.proofs.walk.tables_of.Goals as goal

pub loop-index-preserved : goal.loop-index-preserved
loop-index-preserved c =
    let x = c.index-logics-index.result in
    let index = c.loop-index.index in
    let old = c.loop-index.tables.items in
    let new = c.add_tables.new.tables.items in
    let added = tables_in (decision_place index) (logic_view x.now) in
    let more = c.in_ok-add_tables.ensures ∙ ap (λ p. placed_views old ++ tables_in p (logic_view x.now)) (c.deref.ensures.value ∙ c.in_ok-place.ensures) in
    let count : c.saturating_sub-added.result ≡ length added =
    omega (arith, c.saturating_sub-added.ensures, c.len-before.ensures, c.len.ensures, c.loop-index.tables.ok.0, c.add_tables.new.tables.ok.0, ap length more, length-append (placed_views old) added, length-map old placed_view, length-map new placed_view) in
    record {
      placed = turn (λ k ls. logic_tables k (map (λ l. logic_view l.now) ls)) (λ k l. tables_in (decision_place k) (logic_view l.now)) (λ k l ls. refl) c.args.logics.now index x (placed_views old) (placed_views new) _ c.loop-index.invariant.placed
          c.index-logics-index.is c.loop-index-test.true more;
      numbers = turn (λ k ls. logic_numbers k (map (λ l. logic_view l.now) ls)) (λ k l. numbers_from k 0 (length (tables_in (decision_place k) (logic_view l.now)))) (λ k l ls. refl) c.args.logics.now index x
          (number_views c.loop-index.numbers.items) (number_views c.add_numbers.new.numbers.items) _ c.loop-index.invariant.numbers c.index-logics-index.is c.loop-index-test.true
          (c.in_ok-add_numbers.ensures ∙ ap (λ n. number_views c.loop-index.numbers.items ++ numbers_from index 0 n) count);
    }
