use Rattle.std.proofs.Common.{◌≡◌, ◌∙◌, sym, ap, subst, [], ◌<◌, length, get_or, List, Option, None}
use Rattle.std.specs.Prelude.{slice_set}
use Rattle.std.specs.List.{All}
use denote.Ref.{Bor}
use Rattle.dmn_service.specs.declared.plan.Item.{Item}
use Rattle.dmn_ranges.specs.Services.{TellsItem, Told, views}
use Rattle.dmn_ranges.specs.declared.range.ParameterRange.{ParameterRange}
use Rattle.dmn_ranges.proofs.SoundServices.{filled_begin, filled_turn, filled_done, views_length, views_set}
use Rattle.dmn_ranges.proofs.service.fill.Goals as goal

pub loop-place-init : goal.loop-place-init
loop-place-init c = record { filled = filled_begin c.args.items.now c.args.order.now (c.args.told.now.items, views c.args.known.now.items); count = c.requires.count; known = c.requires.known }

pub loop-place-preserved : goal.loop-place-preserved
loop-place-preserved c =
    let items = c.args.items.now in
    let order = c.args.order.now in
    let i = c.loop-place.place-index in
    let q = get_or order i 0 in
    let x = c.index-items-place.result in
    let o = c.in_ok-outcomes.outcomes in
    let before = c.loop-place.invariant in
    let old = c.loop-place.told.items in
    let known = c.loop-place.known.items in
    let told : Told = (old, views known) in
    let next : Told = (c.keep.new.told.items, views c.know.new.known.items) in
    let tells : TellsItem items told x o =
    subst (λ (ks : List (Option (Bor ParameterRange))). TellsItem items (old, views ks) x o) c.deref-in-loop-place.ensures.value (subst (λ ts. TellsItem items (ts, views c.deref-in-loop-place.result.now) x o) c.deref.ensures.value c.in_ok-outcomes.ensures) in
    let kept : next ≡ (slice_set old q o, slice_set (views known) q []) =
    ap (λ ts. (ts, views c.know.new.known.items)) c.keep.ensures.kept
    ∙ ap (λ (ks : List (Option (Bor ParameterRange))). (slice_set old q o, views ks)) c.know.ensures.known
    ∙ ap (λ ks. (slice_set old q o, ks)) (views_set known q None) in
    record {
      filled = filled_turn items order i x o (c.args.told.now.items, views c.args.known.now.items) told next before.filled c.loop-place-test.true (c.requires.order i 0 c.loop-place-test.true) before.count (views_length known ∙ before.known)
          c.index-items-place.is tells kept;
      count = c.keep.ensures.count ∙ before.count;
      known = c.know.ensures.count ∙ before.known;
    }

pub returns-clause-filled : goal.returns-clause-filled
returns-clause-filled c =
    filled_done c.args.items.now c.args.order.now c.loop-place.place-index (c.args.told.now.items, views c.args.known.now.items) (c.loop-place.told.items, views c.loop-place.known.items) c.loop-place.invariant.filled c.loop-place-test.false

pub returns-clause-count : goal.returns-clause-count
returns-clause-count c = c.loop-place.invariant.count ∙ sym c.requires.count

pub item_outcomes-requires : goal.item_outcomes-requires
item_outcomes-requires c =
    let items = c.args.items.now in
    let x = c.index-items-place.result in
    let place = get_or c.args.order.now c.loop-place.place-index 0 in
    subst (λ (y : Item). All (λ q. q < length items) y.needs.items) (sym c.index-items-place.is) (c.requires.needs place x (c.requires.order c.loop-place.place-index 0 c.loop-place-test.true))
