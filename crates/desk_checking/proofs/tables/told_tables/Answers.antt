use Rattle.std.proofs.Common.{◌∙◌, ap, length, map, sym}
use Rattle.dmn_logic.specs.LogicView.{logic_view}
use Rattle.desk_checking.specs.ComesView.{number_views}
use Rattle.desk_checking.specs.TablesView.{placed_views}
use Rattle.desk_checking.proofs.Lookings.{tells_tables}
use Rattle.desk_checking.proofs.TableNumbers.{as_many}
use Rattle.desk_checking.proofs.tables.told_tables.Goals as goal

pub told_of-requires : goal.told_of-requires
told_of-requires c =
    let tables = c.in_ok-tables.tables in
    ap length c.deref-2.ensures.value ∙ as_many tables.placed.items tables.numbers.items (map (λ l. logic_view l.now) c.args.logics.now) c.in_ok-tables.ensures.placed c.in_ok-tables.ensures.numbers ∙ sym (ap length c.deref.ensures.value)

pub returns : goal.returns
returns c =
    tells_tables c.args.inputs.now (map (λ l. logic_view l.now) c.args.logics.now) (placed_views c.deref.result.now) (number_views c.deref-2.result.now) c.in_ok-telling.telling _ _ (ap placed_views c.deref.ensures.value ∙ c.in_ok-tables.ensures.placed)
    (ap number_views c.deref-2.ensures.value ∙ c.in_ok-tables.ensures.numbers) c.in_ok-telling.ensures c.in_ok-tell_untold.ensures.text c.in_ok-tell_untold.ensures.refused
