use Rattle.std.proofs.Common.{◌∙◌, ap, subst, true}
use Rattle.std.specs.List.{slice_get}
use Rattle.std.proofs.lemmas.Option.{same_Some}
use Rattle.dmn_analysis.specs.Grouping.{HitInOneGroup}
use Rattle.desk_checking.proofs.answers.give_same.Goals as goal

pub returns : goal.returns
returns c = λ yes m values inputs asked i j r s less there here hits also.
    let groups = c.in_ok-groups.groups.items in
    let rules = c.rules.ensures.rules in
    let one = subst (HitInOneGroup c.args.table.now c.args.all.now) c.deref.ensures.value (c.in_ok-same.ensures (same_Some c.in_ok-same.same true yes)) in
    c.in_ok-groups.ensures i j r s less (ap (λ rs. slice_get rs i) rules ∙ there) (ap (λ rs. slice_get rs j) rules ∙ here) (one m values inputs asked i j r s there here hits also)
