-- The sort is stable and by the places.
use Rattle.std.proofs.Common.{◌≡◌, map, sym, ap, ◌∙◌, rules}
use Rattle.std.specs.Ordering.{is_lt}
use Rattle.std.proofs.lemmas.Cmp.{nat_list_cmp_total}
use Rattle.std.proofs.lemmas.Fn.{always_returns_same}
use Rattle.std.proofs.lemmas.List.Sorted.{ranks_by}
use Rattle.dmn_table.specs.declared.priority.Hit as hit
use Rattle.dmn_table.specs.View.{hit_view}
use Rattle.dmn_table.proofs.PriorityOrder.{first_by_places, in_priority_is_in_order}
use Rattle.dmn_table.proofs.StableOrder.{in_order_from_sort}
use Rattle.dmn_table.proofs.priority.in_priority.Goals as goal

pub returns : goal.returns
returns c =
    let order = ranks_by nat_list_cmp_total (λ (h : hit.Hit). h.places.items) in
    let compares = always_returns_same _ (λ a r. is_lt r ≡ first_by_places a.0.now a.1.0.now) _ (λ a r f k. search rules) in
    ap (map hit_view) (in_order_from_sort first_by_places order c.args.hits.items c.sort_by.new.self.items (c.in_ok-sort_by.ensures.sorted first_by_places order compares) (c.sort_by.ensures.stable first_by_places order compares))
    ∙ sym (in_priority_is_in_order c.args.hits.items c.requires)
