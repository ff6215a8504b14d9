use Rattle.dmn_graph.specs.Needs.{needs_view}
use Rattle.dmn_graph.proofs.Ranking.{reach_permuted, reach_in_order}
use Rattle.dmn_graph.proofs.rank.reached_order.Goals as goal

pub returns-clause-found : goal.returns-clause-found
returns-clause-found c =
    let found = rw c.in-Some.is at c.in_ok-found.ensures.found in
    reach_permuted c.args.given.now (needs_view c.args.needs.now) c.args.starts.now c.in-Some.found.items c.sort_by_rank.new.places.items c.in_ok-sort_by_rank.ensures.same found

pub returns-clause-order : goal.returns-clause-order
returns-clause-order c =
    let found = rw c.in-Some.is at c.in_ok-found.ensures.found in
    reach_in_order c.args.given.now (needs_view c.args.needs.now) c.args.starts.now c.args.ranks.now c.sort_by_rank.new.places.items c.requires.ranks
    (reach_permuted c.args.given.now (needs_view c.args.needs.now) c.args.starts.now c.in-Some.found.items c.sort_by_rank.new.places.items c.in_ok-sort_by_rank.ensures.same found)
    c.in_ok-sort_by_rank.ensures.sorted
