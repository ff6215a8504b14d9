use Rattle.std.proofs.Common.{◌∙◌, ◌<◌, sym, ap, rules, subst, map, length, arith}
use Rattle.std.specs.List.{All, slice_get}
use Rattle.std.proofs.lemmas.List.{length-map}
use Rattle.std.proofs.lemmas.Option.{slice_get_within}
use Rattle.dmn_table.specs.Parts.{rule_view}
use Rattle.desk_checking.proofs.Grouping.{groups_begun, one_group_more}
use Rattle.desk_checking.proofs.groups.groups_of.Goals as goal

pub loop-rule-init : goal.loop-rule-init
loop-rule-init c = groups_begun (map rule_view c.args.rules.now) c.in_ok-groups.groups.items (search rules)

pub group_of-group-requires-clause-count : goal.group_of-group-requires-clause-count
group_of-group-requires-clause-count c = ap length c.deref.ensures.value ∙ c.loop-rule.invariant.0

pub group_of-group-requires-clause-before : goal.group_of-group-requires-clause-before
group_of-group-requires-clause-before c = subst (All (λ g. g < c.loop-rule.rule)) (sym c.deref.ensures.value) c.loop-rule.invariant.1.0

pub loop-rule-preserved : goal.loop-rule-preserved
loop-rule-preserved c =
    let kept = c.loop-rule.invariant in
    one_group_more (map rule_view c.args.rules.now) c.loop-rule.groups.items c.push.new.self.items c.loop-rule.rule c.group_of-group.result c.in_ok-push.ensures.items kept.0 kept.1.0 kept.1.1 c.group_of-group.ensures.small
    (λ i r s at there here. c.group_of-group.ensures.same i r s (ap (λ gs. slice_get gs i) c.deref.ensures.value ∙ at) there here)

pub returns : goal.returns
returns c = λ i j r s less there here same.
    c.loop-rule.invariant.1.1 i j r s less
    (omega (arith, slice_get_within (map rule_view c.args.rules.now) j s here, length-map c.args.rules.now rule_view, c.loop-rule-test.false)) there here same
