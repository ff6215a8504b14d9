use Rattle.std.proofs.Common.{length}
use Rattle.feel_text.proofs.Ordered.{all_moved}
use Rattle.feel_text.proofs.name_order.sorted_positions.Goals as goal

pub returns : goal.returns
returns g c = all_moved (length c.args.items.now) c.in_ok-sorted.sorted.items c.sort_unstable_by.new.self.items c.sort_unstable_by.ensures.permutation c.in_ok-sorted.ensures
