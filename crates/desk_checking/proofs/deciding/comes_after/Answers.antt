use Rattle.std.proofs.Common.{◌≡◌, ◌∙◌, sym, ap, subst, Some}
use Rattle.std.specs.List.{slice_get}
use Rattle.std.proofs.lemmas.Option.{same_Some}
use Rattle.dmn_table.specs.declared.hit_policy.HitPolicy.TheVariants.{Priority}
use Rattle.desk_checking.specs.Deciding.{HitsBefore}
use Rattle.desk_checking.proofs.Deciders.{not_before_itself}
use Rattle.desk_checking.proofs.deciding.comes_after.Goals as goal

pub returns-then-other-rule : goal.returns-then-other-rule
returns-then-other-rule c = λ yes r s there here hits before.
    let t = c.args.table.now in
    let m = c.args.env.now in
    let at : slice_get t.rules c.args.rule ≡ Some r = subst (λ k. slice_get t.rules k ≡ Some r) c.if-other-rule.true there in
    let same = same_Some s r (sym here ∙ at) in
    not_before_itself t.outputs m c.args.rule r
    (subst (λ q. HitsBefore Priority t.outputs m c.args.rule c.args.rule r q) same (subst (λ k. HitsBefore Priority t.outputs m k c.args.rule r s) c.if-other-rule.true before))

pub returns-then-missed : goal.returns-then-missed
returns-then-missed c = λ yes r s there here hits before.
    c.in_ok-missed.ensures c.if-missed.true r (ap (λ rs. slice_get rs c.args.other) c.rules.ensures.rules ∙ there) hits

pub returns : goal.returns
returns c = λ yes r s there here hits before. c.in_ok-first.ensures yes r s there here before
