use Rattle.std.proofs.Common.{ℕ, ◌<◌, sym, subst, length, arith}
use Rattle.std.specs.List.{All}
use Rattle.std.proofs.lemmas.List.Elements.{All-nil, All-push}
use Rattle.dmn_analysis.specs.Claims.{IsAhead}
use Rattle.dmn_analysis.proofs.Places.{at_place}
use Rattle.dmn_analysis.proofs.Ranks.{ahead_by_ranks, stands_before}
use Rattle.dmn_analysis.proofs.ranking.rules_ahead.Goals as goal

pub loop-place-init : goal.loop-place-init
loop-place-init c =
    let t = c.args.table.now in
    let P : ℕ → Type 0 = λ j. IsAhead t.outputs t.rules j c.args.rule in
    subst (All P) (sym c.new-first.ensures.items) (All-nil P)

pub loop-place-preserved-then-not-ranks_before : goal.loop-place-preserved-then-not-ranks_before
loop-place-preserved-then-not-ranks_before c = c.loop-place.invariant

pub loop-place-preserved : goal.loop-place-preserved
loop-place-preserved c =
    let t = c.args.table.now in
    let ranks = c.args.ranks.now in
    let P : ℕ → Type 0 = λ j. IsAhead t.outputs t.rules j c.args.rule in
    let within : c.loop-place.place < length ranks = omega (arith, c.loop-place-test.true, c.loop-place.auto.place-end) in
    let there = at_place ranks c.loop-place.place c.index-ranks-place.result within c.index-ranks-place.is in
    let here = at_place ranks c.args.rule c.index-ranks-rule.result c.if-rule-ranks.false c.index-ranks-rule.is in
    let before = stands_before c.index-ranks-place.result c.index-ranks-rule.result c.loop-place.place c.args.rule (c.ranks_before.ensures c.if-not-ranks_before.false) in
    let ahead : P c.loop-place.place = ahead_by_ranks t.outputs t.rules ranks c.loop-place.place c.args.rule c.index-ranks-place.result c.index-ranks-rule.result c.requires there here before in
    subst (All P) (sym c.in_ok-push.ensures.items) (All-push P c.loop-place.first.items c.loop-place.place c.loop-place.invariant ahead)

pub returns : goal.returns
returns c = c.loop-place.invariant
