use Rattle.std.proofs.Common.{rules, ◌<◌, ◌∙◌, sym, length, get_or, arith, length-set}
use Rattle.std.proofs.lemmas.List.{length-map}
use Rattle.dmn_graph.specs.Needs.{needs_view}
use Rattle.dmn_graph.proofs.Ranking.{ranks_fall, ranks_more, rank_within}
use Rattle.dmn_graph.proofs.rank.ranks_of.Goals as goal

pub index_mut-requires : goal.index_mut-requires
index_mut-requires c =
    let l : c.loop-rank.rank < length c.args.order.now = omega arith in
    let within : get_or c.args.order.now c.loop-rank.rank 0 < length c.loop-rank.ranks.items
    = rank_within (needs_view c.args.needs.now) c.args.order.now c.loop-rank.ranks.items c.loop-rank.rank c.requires (c.loop-rank.invariant.sized ∙ sym (length-map c.args.needs.now (λ v. v.items))) l in
    search rules

pub loop-rank-preserved : goal.loop-rank-preserved
loop-rank-preserved c = record {
  sized = length-set c.loop-rank.ranks.items (get_or c.args.order.now c.loop-rank.rank 0) c.loop-rank.rank ∙ c.loop-rank.invariant.sized;
  ranks = ranks_more (needs_view c.args.needs.now) c.args.order.now c.loop-rank.ranks.items c.loop-rank.rank c.requires
      (c.loop-rank.invariant.sized ∙ sym (length-map c.args.needs.now (λ v. v.items))) (omega arith) c.loop-rank.invariant.ranks;
}

pub returns-clause-ranks : goal.returns-clause-ranks
returns-clause-ranks c k l = c.loop-rank.invariant.ranks k (omega arith)

pub returns-clause-falls : goal.returns-clause-falls
returns-clause-falls c = ranks_fall (needs_view c.args.needs.now) c.args.order.now c.loop-rank.ranks.items c.requires (returns-clause-ranks c)
