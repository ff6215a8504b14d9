use Rattle.std.proofs.Common.{◌≡◌, drop}
use Rattle.feel_text.specs.View.{view}
use Rattle.dmn_ranges.specs.Ranges.{members_of}
use Rattle.dmn_ranges.specs.Steps.{member_at}
use Rattle.dmn_ranges.proofs.members.member_at.Given as goal

abbrev pub invariant-loop-member : goal.invariant-loop-member
invariant-loop-member l = member_at (view l.expr) (members_of l.members) ≡ member_at (view l.expr) (members_of (drop l.member-index l.members))
