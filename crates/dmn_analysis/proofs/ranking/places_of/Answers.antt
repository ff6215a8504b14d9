use Rattle.std.proofs.Common.{◌∙◌, sym, ap, subst, ◌+◌, ◌<◌, ◌++◌, List, length, map, arith}
use Rattle.std.proofs.lemmas.List.{length-map}
use Rattle.feel_value.specs.Datum.{Datum}
use Rattle.dmn_table.specs.declared.table.Output.{Output}
use Rattle.dmn_table.specs.Parts.{column_view}
use Rattle.dmn_table.specs.Priority.{places_of}
use Rattle.dmn_analysis.specs.Ranking.{HasPlace}
use Rattle.dmn_analysis.proofs.Places.{at_place, map_at}
use Rattle.dmn_analysis.proofs.Ranks.{ArePlacesBelow, all_places, listed_at, one_place_more}
use Rattle.dmn_analysis.proofs.ranking.places_of.Goals as goal

pub loop-column-init : goal.loop-column-init
loop-column-init c = λ m values are. ap (λ ps. ps ++ places_of (map column_view c.args.outputs.now) values) (sym c.in_ok-places.ensures.items)

pub constant_place-requires : goal.constant_place-requires
constant_place-requires c =
    let i = c.loop-column.column in
    let o = c.index-outputs-column.result in
    let within : i < length c.args.outputs.now = omega (arith, c.loop-column-test.true, c.loop-column.auto.column-end) in
    let here = at_place c.args.outputs.now i o within c.index-outputs-column.is in
    let there = at_place c.args.lists.now i c.index-lists-column.result c.if-column-lists.false c.index-lists-column.is in
    let same = listed_at c.args.lists.now c.args.outputs.now i c.index-lists-column.result o c.requires there here in
    ap length (c.deref-values.ensures.value ∙ ap (λ (x : Output). x.values.items) (sym c.index-outputs-column.is) ∙ sym same)

pub loop-column-preserved : goal.loop-column-preserved
loop-column-preserved c =
    let columns = map column_view c.args.outputs.now in
    let gives = c.args.gives.now in
    let i = c.loop-column.column in
    let o = c.index-outputs-column.result in
    let within : i < length c.args.outputs.now = omega (arith, c.loop-column-test.true, c.loop-column.auto.column-end) in
    let here = at_place c.args.outputs.now i o within c.index-outputs-column.is in
    let there = at_place c.args.lists.now i c.index-lists-column.result c.if-column-lists.false c.index-lists-column.is in
    let same = listed_at c.args.lists.now c.args.outputs.now i c.index-lists-column.result o c.requires there here in
    let expr = at_place gives i c.index-gives-column.result c.if-column-gives.false c.index-gives-column.is in
    let has = subst (λ (l : List Datum). HasPlace l c.index-gives-column.result c.in-Some.place) same (rw c.in-Some.is at c.constant_place.ensures) in
    subst (λ ps. ArePlacesBelow columns gives ps (i + 1)) (sym c.in_ok-push.ensures.items)
    (one_place_more columns gives c.loop-column.places.items i (column_view o) c.index-gives-column.result c.in-Some.place c.loop-column.invariant (map_at column_view c.args.outputs.now i o here) expr has)

pub returns : goal.returns
returns c =
    let columns = map column_view c.args.outputs.now in
    all_places columns c.args.gives.now c.loop-column.places.items c.loop-column.column c.loop-column.invariant
    (omega (arith, length-map c.args.outputs.now column_view, c.loop-column-test.false, c.loop-column.auto.column-end))
