use Rattle.std.proofs.Common.{ap, ap₂, ◌≡◌, ◌∙◌}
use Rattle.std.proofs.lemmas.Result.{IfOk-weaker}
use Rattle.clap.specs.Words.{App, Rule, app_of, rule_of, with_rule}
use Rattle.desk_commands.proofs.command.asking.Goals as goal

pub returns : goal.returns
returns c =
    let one = c.in_ok-command.ensures ∙ ap (λ (r : Rule). with_rule (app_of c.args.command) r) c.flag.ensures.rule in
    IfOk-weaker c.with_option-2.result _ _ (λ r adds. adds ∙ ap₂ (λ (a : App) (r : Rule). with_rule a r) one c.flag-2.ensures.rule) c.with_option-2.ensures
