use Rattle.std.proofs.Common.{rules, get_or}
use Rattle.std.proofs.lemmas.List.Sorted.{IsNonDecreasingBy-from_sort_by_key}
use Rattle.dmn_graph.proofs.rank.sort_by_rank.Goals as goal

pub returns-clause-sorted : goal.returns-clause-sorted
returns-clause-sorted c = IsNonDecreasingBy-from_sort_by_key (λ q. get_or c.args.ranks.now q 0) _ c.in_ok-sort_by_key.ensures.sorted (λ a r q k. search rules)
