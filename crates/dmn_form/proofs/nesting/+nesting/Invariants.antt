use Rattle.std.proofs.Common.{◌≡◌, drop, nat_le}
use Rattle.serde_json.specs.Data.{items_depth, members_depth}
use Rattle.serde_json.specs.View.{items_view, members_view}
use Rattle.dmn_form.proofs.nesting.+nesting.Given as goal

abbrev pub invariant-items_nest_within-loop-item : goal.invariant-items_nest_within-loop-item
invariant-items_nest_within-loop-item l = nat_le (items_depth (items_view l.items)) l.levels ≡ nat_le (items_depth (items_view (drop l.item-index l.items))) l.levels

abbrev pub invariant-members_nest_within-loop-member : goal.invariant-members_nest_within-loop-member
invariant-members_nest_within-loop-member l = nat_le (members_depth (members_view l.members.entries)) l.levels ≡ nat_le (members_depth (members_view l.member-iterator)) l.levels
