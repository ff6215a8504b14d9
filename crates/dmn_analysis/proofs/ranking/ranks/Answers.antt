use Rattle.std.proofs.Common.{◌∙◌, sym, ap, subst, ◌<◌, [], ◌∷◌, length, arith}
use Rattle.std.specs.List.{slice_get}
use Rattle.std.proofs.lemmas.List.{length-append}
use Rattle.dmn_table.specs.Parts.{rule_view}
use Rattle.dmn_analysis.specs.Ranking.{IsRank}
use Rattle.dmn_analysis.proofs.Places.{at_place, map_at}
use Rattle.dmn_analysis.proofs.Ranks.{no_ranks, one_rank_more}
use Rattle.dmn_analysis.proofs.ranking.ranks.Goals as goal

pub loop-place-init : goal.loop-place-init
loop-place-init c = (ap length c.in_ok-ranks.ensures.items, no_ranks c.args.table.now.outputs c.args.table.now.rules c.in_ok-ranks.ranks.items c.in_ok-ranks.ensures.items)

pub loop-place-preserved : goal.loop-place-preserved
loop-place-preserved c =
    let t = c.args.table.now in
    let rules = c.rules-rules.result.now in
    let place = c.loop-place.place in
    let rule = c.index-rules-place.result in
    let ranks = c.loop-place.ranks.items in
    let within : place < length rules = omega (arith, c.loop-place-test.true, c.loop-place.auto.place-end) in
    let there = map_at rule_view rules place rule (at_place rules place rule within c.index-rules-place.is) in
    let of = ap (slice_get t.rules) c.loop-place.invariant.0 ∙ ap (λ rs. slice_get rs place) (sym c.rules-rules.ensures.rules) ∙ there in
    let is = subst (λ columns. IsRank columns (rule_view rule) c.in_ok-rank.rank) c.outputs-outputs.ensures c.in_ok-rank.ensures in (
      ap length c.in_ok-push.ensures.items ∙ omega (arith, c.loop-place.invariant.0, length-append ranks (c.in_ok-rank.rank ∷ [])),
      one_rank_more t.outputs t.rules ranks c.push.new.self.items (rule_view rule) c.in_ok-rank.rank c.loop-place.invariant.1 c.in_ok-push.ensures.items of is,
    )

pub returns : goal.returns
returns c = c.loop-place.invariant.1
