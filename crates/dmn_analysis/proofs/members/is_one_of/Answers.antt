use Rattle.std.proofs.Common.{◌≡◌, ◌∙◌, sym, ap, subst, ◌+◌, ◌||◌, suc, false, drop, length}
use Rattle.std.proofs.lemmas.List.{drop_all}
use Rattle.feel_text.specs.View.{view, views}
use Rattle.dmn_analysis.specs.Members.{AreKnownMembers}
use Rattle.dmn_analysis.proofs.Listed.{exprs_from, length_from, none_known, one_known, or_assoc, or_none}
use Rattle.dmn_analysis.proofs.members.is_one_of.Goals as goal

pub loop-member-init : goal.loop-member-init
loop-member-init c = λ found known. known

pub loop-member-preserved : goal.loop-member-preserved
loop-member-preserved c = λ found known.
    let class = c.args.class.now in
    let members = c.args.members.now in
    let i = c.loop-member.member-index in
    let x = c.member-item.result in
    let rest = drop (i + 1) members in
    let same = c.in_ok-same.same in
    let one = one_known class (view x) (views rest) (length rest) same found c.in_ok-same.ensures known in
    let here = subst (λ es. AreKnownMembers class es (suc (length rest)) (same || found)) (sym (exprs_from members i x c.member-item.is c.loop-member-test.true)) one in
    let counted = subst (λ n. AreKnownMembers class (views (drop i members)) n (same || found)) (sym (length_from members i c.loop-member-test.true)) here in
    subst (AreKnownMembers class (views members) (length members)) (sym (or_assoc c.loop-member.found same found)) (c.loop-member.invariant (same || found) counted)

pub returns : goal.returns
returns c =
    let class = c.args.class.now in
    let members = c.args.members.now in
    let none = subst (λ xs. AreKnownMembers class (views xs) (length xs) false) (sym (drop_all c.loop-member.member-index members c.loop-member-test.false)) (none_known class) in
    subst (AreKnownMembers class (views members) (length members)) (or_none c.loop-member.found) (c.loop-member.invariant false none)
