use Rattle.std.proofs.Common.{ap, sym, ◌∙◌, ◌+◌, List, ℕ, get_or, drop, Some, None}
use Rattle.std.proofs.lemmas.List.{drop_all}
use Rattle.serde_json.specs.Data.{Items, no_items}
use Rattle.serde_json.specs.Written.{items_text}
use Rattle.dmn_logic.specs.LogicView.{logic_view}
use Rattle.json_writer.specs.Bounded.{longer}
use Rattle.json_writer.proofs.Longer.{stopped}
use Rattle.dmn_explain.specs.Placed.{decided_here, decided_by_place}
use Rattle.dmn_explain.proofs.Pieces.{row_ended, row_more}
use Rattle.dmn_explain.proofs.Placing.{told_from}
use Rattle.dmn_explain.proofs.decisions.add_all_decided.Goals as goal

pub loop-place-preserved-in_default : goal.loop-place-preserved-in_default
loop-place-preserved-in_default c =
    let i = c.loop-place.place-index in
    let more = c.loop-place-test.true in
    ap (λ (ds : Items). longer c.loop-place.text (items_text c.loop-place.later ds))
    (sym (told_from (decided_here c.args.with_misses c.args.found.now) c.args.items.now c.args.places.now i c.index-items-place.result no_items None more (c.requires i 0 more) c.index-items-place.is c.in_default.is))
    ∙ c.loop-place.invariant

pub loop-place-preserved : goal.loop-place-preserved
loop-place-preserved c =
    let i = c.loop-place.place-index in
    let more = c.loop-place-test.true in
    let x = c.index-items-place.result in
    row_more (longer c.args.text.now (items_text c.args.some_before (decided_by_place c.args.with_misses c.args.found.now c.args.items.now c.args.places.now)))
    c.loop-place.text c.add_comma.new.text c.add_decided.new.text c.loop-place.later _
    (decided_here c.args.with_misses c.args.found.now x (get_or c.args.places.now i 0) (logic_view c.in-Some.logic))
    (decided_by_place c.args.with_misses c.args.found.now c.args.items.now (drop (i + 1) c.args.places.now))
    c.loop-place.invariant
    (told_from (decided_here c.args.with_misses c.args.found.now) c.args.items.now c.args.places.now i x no_items (Some c.in-Some.logic) more (c.requires i 0 more) c.index-items-place.is c.in-Some.is)
    c.in_ok-add_comma.ensures c.in_ok-add_decided.ensures

pub returns : goal.returns
returns c =
    row_ended (longer c.args.text.now (items_text c.args.some_before (decided_by_place c.args.with_misses c.args.found.now c.args.items.now c.args.places.now)))
    c.loop-place.text c.push.new.self c.loop-place.later _ c.loop-place.invariant
    (ap (λ (qs : List ℕ). decided_by_place c.args.with_misses c.args.found.now c.args.items.now qs) (drop_all c.loop-place.place-index c.args.places.now c.loop-place-test.false)) c.in_ok-push.ensures

pub returns-then-is_long : goal.returns-then-is_long
returns-then-is_long c = stopped c.loop-place.text _ _ (sym c.is_long.ensures ∙ c.if-is_long.true) c.loop-place.invariant
