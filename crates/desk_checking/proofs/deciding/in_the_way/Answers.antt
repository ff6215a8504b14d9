use Rattle.std.proofs.Common.{◌∙◌, sym, ap, rules, subst}
use Rattle.std.specs.List.{slice_get}
use Rattle.desk_checking.specs.Deciding.{HitsBefore}
use Rattle.desk_checking.proofs.Deciders.{none_before}
use Rattle.desk_checking.proofs.deciding.in_the_way.Goals as goal

pub returns-in_ok-found-in-First : goal.returns-in_ok-found-in-First
returns-in_ok-found-in-First c = λ none s here j r there hits before.
    let t = c.args.table.now in
    c.in_ok-found-in-First.ensures none j r (subst (λ p. HitsBefore p t.outputs c.args.env.now j c.args.rule r s) (sym c.policy.ensures ∙ c.in-First.is) before)
    (ap (λ rs. slice_get rs j) c.rules.ensures.rules ∙ there) hits

pub returns-in_ok-found-in-Priority : goal.returns-in_ok-found-in-Priority
returns-in_ok-found-in-Priority c = λ none s here j r there hits before.
    let t = c.args.table.now in
    c.in_ok-found-in-Priority.ensures none s here j r there hits (subst (λ p. HitsBefore p t.outputs c.args.env.now j c.args.rule r s) (sym c.policy.ensures ∙ c.in-Priority.is) before)

pub returns-then-has_no_order : goal.returns-then-has_no_order
returns-then-has_no_order c = λ none s here j r there hits before.
    none_before c.args.table.now.policy c.args.table.now.outputs c.args.env.now j c.args.rule r s (search rules) before
