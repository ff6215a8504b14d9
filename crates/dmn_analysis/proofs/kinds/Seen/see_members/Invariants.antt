use Rattle.std.proofs.Common.{◌≡◌, drop}
use Rattle.dmn_analysis.specs.Seeing.{seen_kinds, with_kinds}
use Rattle.dmn_analysis.proofs.Seeings.{member_kinds}
use Rattle.dmn_analysis.proofs.kinds.Seen.see_members.Given as goal

-- with those of the members that are left they are those of all
abbrev pub invariant-loop-member : goal.invariant-loop-member
invariant-loop-member l = with_kinds (seen_kinds l.self) (member_kinds (drop l.member-index l.members)) ≡ with_kinds (seen_kinds l.fn.self) (member_kinds l.members)
