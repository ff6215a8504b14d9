use Rattle.std.proofs.Common.{◌∙◌, ◌+◌, sym, ap, drop, map}
use Rattle.std.specs.Prelude.{string_bytes}
use Rattle.std.proofs.lemmas.List.{drop_all}
use Rattle.feel_text.specs.View.{view}
use Rattle.dmn_ranges.specs.Ranges.{members_of}
use Rattle.dmn_ranges.specs.Steps.{is_path, member_at}
use Rattle.dmn_ranges.proofs.SoundMembers.{member_here, member_later, member_turn}
use Rattle.dmn_ranges.proofs.members.member_at.Goals as goal

pub returns-then-is_path : goal.returns-then-is_path
returns-then-is_path c =
    let e = view c.args.expr.now in
    let ms = c.args.members.now in
    let i = c.loop-member.member-index in
    let x = c.member-item.result in
    let turn = member_turn e ms i x (member_at e (members_of ms)) c.loop-member.invariant c.loop-member-test.true c.member-item.is in
    let same = c.is_path.ensures ∙ ap (λ ns. is_path e (map string_bytes ns)) c.deref.ensures.value in
    sym (member_here (is_path e (map string_bytes x.path.items)) x.range (member_at e (members_of ms)) (member_at e (members_of (drop (i + 1) ms))) turn (sym same ∙ c.if-is_path.true))

pub loop-member-preserved : goal.loop-member-preserved
loop-member-preserved c =
    let e = view c.args.expr.now in
    let ms = c.args.members.now in
    let i = c.loop-member.member-index in
    let x = c.member-item.result in
    let turn = member_turn e ms i x (member_at e (members_of ms)) c.loop-member.invariant c.loop-member-test.true c.member-item.is in
    let same = c.is_path.ensures ∙ ap (λ ns. is_path e (map string_bytes ns)) c.deref.ensures.value in
    member_later (is_path e (map string_bytes x.path.items)) x.range (member_at e (members_of ms)) (member_at e (members_of (drop (i + 1) ms))) turn (sym same ∙ c.if-is_path.false)

pub returns : goal.returns
returns c = sym (c.loop-member.invariant ∙ ap (λ ms. member_at (view c.args.expr.now) (members_of ms)) (drop_all c.loop-member.member-index c.args.members.now c.loop-member-test.false))
