use Rattle.std.proofs.Common.{ap, sym, ◌∙◌, List, ℕ, ◌+◌, get_or, drop, Some, None}
use Rattle.std.proofs.lemmas.List.{drop_all}
use Rattle.serde_json.specs.Data.{array, Items}
use Rattle.serde_json.specs.Written.{compact_text, items_text}
use Rattle.json_writer.specs.Bounded.{longer}
use Rattle.json_writer.proofs.Longer.{stopped_with}
use Rattle.dmn_explain.specs.Placed.{given_here, given_by_place}
use Rattle.dmn_explain.proofs.Pieces.{row_begun, row_more}
use Rattle.dmn_explain.proofs.Placing.{told_from}
use Rattle.dmn_explain.proofs.decisions.add_all_given.Goals as goal

pub loop-place-init : goal.loop-place-init
loop-place-init c = λ rest. row_begun c.args.text.now c.push.new.self (given_by_place c.args.found.now c.args.items.now c.args.places.now rest) c.in_ok-push.ensures

pub loop-place-preserved-in_default : goal.loop-place-preserved-in_default
loop-place-preserved-in_default c =
    let i = c.loop-place.place-index in
    let more = c.loop-place-test.true in
    λ rest. ap (λ (ds : Items). longer c.loop-place.text (items_text c.loop-place.later ds))
    (sym (told_from (λ x q b. given_here c.args.found.now x q) c.args.items.now c.args.places.now i c.index-items-place.result rest None more (c.requires i 0 more) c.index-items-place.is c.in_default.is))
    ∙ c.loop-place.invariant rest

pub loop-place-preserved : goal.loop-place-preserved
loop-place-preserved c =
    let i = c.loop-place.place-index in
    let more = c.loop-place-test.true in
    let x = c.index-items-place.result in
    λ rest. row_more (longer c.args.text.now (compact_text (array (given_by_place c.args.found.now c.args.items.now c.args.places.now rest))))
    c.loop-place.text c.add_comma.new.text c.add_given.new.text c.loop-place.later _ (given_here c.args.found.now x (get_or c.args.places.now i 0))
    (given_by_place c.args.found.now c.args.items.now (drop (i + 1) c.args.places.now) rest)
    (c.loop-place.invariant rest)
    (told_from (λ x q b. given_here c.args.found.now x q) c.args.items.now c.args.places.now i x rest (Some _) more (c.requires i 0 more) c.index-items-place.is c.in-Some.is)
    c.in_ok-add_comma.ensures c.in_ok-add_given.ensures

pub returns : goal.returns
returns c =
    λ rest. ap (λ (ds : Items). longer c.loop-place.text (items_text c.loop-place.later ds))
    (sym (ap (λ (qs : List ℕ). given_by_place c.args.found.now c.args.items.now qs rest) (drop_all c.loop-place.place-index c.args.places.now c.loop-place-test.false)))
    ∙ c.loop-place.invariant rest

pub returns-then-is_long : goal.returns-then-is_long
returns-then-is_long c = λ rest. stopped_with c.loop-place.text _ _ _ (sym c.is_long.ensures ∙ c.if-is_long.true) (c.loop-place.invariant rest)
