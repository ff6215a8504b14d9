use Rattle.std.proofs.Common.{◌∙◌, ap, sym, subst, get_or, drop, map, length, ◌<◌, List, refl, [], ◌++◌}
use Rattle.std.specs.List.{All}
use Rattle.dmn_service.specs.declared.plan.Item.{Item}
use Rattle.dmn_ranges.specs.Services.{views}
use Rattle.dmn_ranges.specs.declared.columns.ToldTables.{ToldTables}
use Rattle.dmn_ranges.proofs.SoundColumns.{none_yet, one_more, place_more, places_done}
use Rattle.dmn_ranges.proofs.columns.columns_along.Goals as goal

pub loop-place-init : goal.loop-place-init
loop-place-init c = record {
  told = none_yet c.args.items.now (c.args.told.now, views c.args.known.now) _ c.in_ok-columns.ensures.items;
  places = ap (λ (cs : List ToldTables). map (λ (d : ToldTables). d.place) cs ++ c.args.order.now) (sym c.in_ok-columns.ensures.items);
}

pub loop-place-preserved : goal.loop-place-preserved
loop-place-preserved c =
    let old = c.loop-place.columns.items in
    let order = c.args.order.now in
    let i = c.loop-place.place-index in
    let one : ToldTables = record { place = get_or order i 0; tables = c.in_ok-tables.tables } in record {
      told = one_more c.args.items.now (c.args.told.now, views c.args.known.now) old c.push.new.self.items c.index-items-place.result one c.loop-place.invariant.told c.in_ok-push.ensures.items
          (c.requires.order i 0 c.loop-place-test.true) c.index-items-place.is c.in_ok-tables.ensures;
      places = place_more order old c.push.new.self.items one i c.loop-place.invariant.places c.in_ok-push.ensures.items c.loop-place-test.true refl;
    }

pub returns-clause-told : goal.returns-clause-told
returns-clause-told c = c.loop-place.invariant.told

pub returns-clause-places : goal.returns-clause-places
returns-clause-places c = places_done c.args.order.now c.loop-place.columns.items c.loop-place.place-index c.loop-place.invariant.places c.loop-place-test.false

pub item_columns-requires : goal.item_columns-requires
item_columns-requires c =
    let items = c.args.items.now in
    let x = c.index-items-place.result in
    let place = get_or c.args.order.now c.loop-place.place-index 0 in
    subst (λ (y : Item). All (λ q. q < length items) y.needs.items) (sym c.index-items-place.is) (c.requires.needs place x (c.requires.order c.loop-place.place-index 0 c.loop-place-test.true))
