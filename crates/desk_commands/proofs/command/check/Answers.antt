use Rattle.std.proofs.Common.{rules, ap, ap₂, codes, [], ◌≡◌, ◌∙◌}
use Rattle.std.proofs.lemmas.Result.{IfOk-weaker}
use Rattle.clap.specs.Words.{App, Rule, app_of, new_app, rule_of, with_rule}
use Rattle.desk_commands.specs.CommandLine.{asking, flag}
use Rattle.desk_commands.proofs.command.check.Goals as goal

pub returns : goal.returns
returns c =
    let first : app_of c.after_help-check.result ≡ new_app (codes "check") = search rules in
    let one = c.in_ok-check.ensures ∙ ap₂ (λ (a : App) (r : Rule). with_rule a r) first c.flag.ensures.rule in
    let two = c.in_ok-check-2.ensures ∙ ap₂ (λ (a : App) (r : Rule). with_rule a r) one c.flag-2.ensures.rule in
    let three = c.in_ok-check-3.ensures ∙ ap₂ (λ (a : App) (r : Rule). with_rule a r) two c.flag-3.ensures.rule in
    let four = c.in_ok-check-4.ensures ∙ ap₂ (λ (a : App) (r : Rule). with_rule a r) three c.flag-4.ensures.rule in
    IfOk-weaker c.asking.result _ _ (λ r adds. adds ∙ ap asking four) c.asking.ensures
