use Rattle.std.proofs.Common.{ap, ◌≡◌, ◌∙◌, Some, Bool}
use Rattle.clap.specs.Words.{Rule, Text, new_rule, rule_of}
use Rattle.clap.specs.declared.builder.action.ArgAction.TheVariants.{SetTrue}
use Rattle.clap.specs.declared.builder.arg.Arg.{Arg}
use Rattle.desk_commands.proofs.command.flag.Goals as goal

abbrev is_global : Arg → Bool
is_global a = a.global

pub returns-clause-local : goal.returns-clause-local
returns-clause-local c = ap is_global c.help.ensures ∙ ap is_global c.action.ensures ∙ ap is_global c.long.ensures ∙ c.new.ensures.optional.1

pub returns-clause-help : goal.returns-clause-help
returns-clause-help c = ap (λ (a : Arg). a.help) c.help.ensures

pub returns-clause-rule : goal.returns-clause-rule
returns-clause-rule c =
    let name : Text = c.args.name.now in
    let long : rule_of c.long.result ≡ record (new_rule name) { long = Some name } = ap rule_of c.long.ensures ∙ ap (λ (r : Rule). record r { long = Some name }) c.new.ensures.rule in
    ap rule_of c.help.ensures ∙ ap rule_of c.action.ensures ∙ ap (λ (r : Rule). record r { action = Some SetTrue }) long
