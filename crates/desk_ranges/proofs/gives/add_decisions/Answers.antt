use Rattle.std.proofs.Common.{◌≡◌, ◌∙◌, ◌++◌, rules, sym, ap, get_or}
use Rattle.std.proofs.lemmas.List.{append-nil, drop_all}
use Rattle.std.specs.List.{flat_map}
use Rattle.desk_lines.specs.Lines.{ended}
use Rattle.dmn_service.proofs.Kept.{name_here}
use Rattle.dmn_ranges.specs.Services.{told_at}
use Rattle.desk_ranges.specs.Lines.{decision_lines}
use Rattle.desk_ranges.proofs.Looking.{decision_turn}
use Rattle.desk_ranges.proofs.gives.add_decisions.Goals as goal

pub loop-place-preserved : goal.loop-place-preserved
loop-place-preserved c =
    let t = c.args.told.now in
    let order = c.args.order.now in
    let i = c.loop-place.place-index in
    let q = get_or order i 0 in
    let more = c.loop-place-test.true in
    let told : c.told_at-outcomes.result ≡ told_at t.decisions.items q = search rules in
    decision_turn c.args.service.now t _ c.loop-place.text.items c.add_decision.new.text.items order i c.as_str-decision.result.now c.told_at-outcomes.result c.loop-place.invariant more
    (c.as_str-decision.ensures.value ∙ sym (name_here t.items.now q c.index-items-place.result (c.requires i 0 more))) told c.in_ok-add_decision.ensures

pub returns : goal.returns
returns c =
    let text = c.loop-place.text.items in
    let done = drop_all c.loop-place.place-index c.args.order.now c.loop-place-test.false in
    sym (c.loop-place.invariant ∙ ap (λ qs. text ++ flat_map ended (decision_lines c.args.service.now c.args.told.now qs)) done ∙ append-nil text)
