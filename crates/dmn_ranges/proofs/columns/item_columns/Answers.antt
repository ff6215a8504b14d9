use Rattle.std.proofs.Common.{◌∙◌, sym, ap, option_map}
use Rattle.dmn_logic.specs.LogicView.{logic_view}
use Rattle.dmn_service.specs.Places.{name_at}
use Rattle.dmn_ranges.specs.Services.{Told, needs_scope, views}
use Rattle.dmn_ranges.proofs.SoundColumns.{no_logic, of_item}
use Rattle.dmn_ranges.proofs.columns.item_columns.Goals as goal

pub returns-in_default : goal.returns-in_default
returns-in_default c = no_logic c.args.items.now (c.args.told.now, views c.args.known.now) c.args.item.now _ (ap (option_map logic_view) c.in_default.is) c.new-columns.ensures.items

pub returns : goal.returns
returns c =
    let items = c.args.items.now in
    let told : Told = (c.args.told.now, views c.args.known.now) in
    let item = c.args.item.now in
    let names = c.in_ok-names.ensures ∙ ap (needs_scope (name_at items) told) c.deref.ensures.value in
    of_item items told item (logic_view c.in-Some.logic) c.in_ok-names.names c.new-columns.result.items c.add_tables.new.columns.items names (ap (option_map logic_view) c.in-Some.is) c.new-columns.ensures.items c.in_ok-add_tables.ensures.tables
