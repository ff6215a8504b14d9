use Rattle.std.proofs.Common.{◌∙◌, ap, false}
use Rattle.dmn_analysis.specs.Seeing.{kinds_in, seen_kinds, with_kinds}
use Rattle.dmn_analysis.proofs.Seeings.{member_done, member_turn}
use Rattle.dmn_analysis.proofs.kinds.Seen.see_members.Goals as goal

pub loop-member-preserved : goal.loop-member-preserved
loop-member-preserved c =
    member_turn c.args.members.now c.loop-member.member-index c.member-item.result (seen_kinds c.loop-member.self) (seen_kinds c.see.new.self) _ c.loop-member.invariant c.member-item.is c.loop-member-test.true
    (c.in_ok-see.ensures ∙ ap (λ e. with_kinds (seen_kinds c.loop-member.self) (kinds_in false e)) c.bare.ensures)

pub returns : goal.returns
returns c = member_done c.args.members.now c.loop-member.member-index (seen_kinds c.loop-member.self) _ c.loop-member-test.false c.loop-member.invariant
