use Rattle.std.proofs.Common.{Bool, drop, length, ◌||◌}
use Rattle.feel_text.specs.View.{views}
use Rattle.dmn_analysis.specs.Members.{AreKnownMembers}
use Rattle.dmn_analysis.proofs.members.is_one_of.Given as goal

-- with what is known of the members that are left it is known of all
abbrev pub invariant-loop-member : goal.invariant-loop-member
invariant-loop-member l = (found : Bool) → AreKnownMembers l.class (views (drop l.member-index l.members)) (length (drop l.member-index l.members)) found → AreKnownMembers l.class (views l.members) (length l.members) (l.found || found)
