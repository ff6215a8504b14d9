use Rattle.std.proofs.Common.{◌≡◌, ◌∙◌, ap, subst, List, map, string_bytes}
use Rattle.clap.specs.Words.{Text, is_simple, subcommand_of}
use Rattle.std.proofs.lemmas.Result.{IfErr-weaker, IfOk-weaker}
use Rattle.clap.specs.Simple.{app_of}
use Rattle.clap.specs.Takes.{takes}
use Rattle.clap.specs.Faults.{fault_of, is_simple_and_free}
use Rattle.clap.specs.Kinds.{FailsBy}
use Rattle.desk_commands.specs.CommandLine.{desk_command}
use Rattle.desk_commands.proofs.Commands.{simple, simple_and_free}
use Rattle.desk_commands.proofs.command.read_words.Goals as goal

pub returns-clause-found : goal.returns-clause-found
returns-clause-found c =
    let is : app_of c.in_ok-command.command ≡ desk_command = c.in_ok-command.ensures in
    let words : List Text = map string_bytes c.args.words.now in
    let parse = c.try_get_matches_from in
    IfOk-weaker parse.result _ _ (λ m has. (has (ap is_simple is ∙ simple)).1 ∙ ap (λ app. subcommand_of app words) is) parse.ensures.matches

pub returns-clause-taken : goal.returns-clause-taken
returns-clause-taken c =
    let is : app_of c.in_ok-command.command ≡ desk_command = c.in_ok-command.ensures in
    let words : List Text = map string_bytes c.args.words.now in
    let parse = c.try_get_matches_from in
    IfErr-weaker parse.result _ _ (λ e passes taken. passes (ap (λ app. takes app words) is ∙ taken)) parse.ensures.passes

pub returns-clause-refused : goal.returns-clause-refused
returns-clause-refused c =
    let is : app_of c.in_ok-command.command ≡ desk_command = c.in_ok-command.ensures in
    let words : List Text = map string_bytes c.args.words.now in
    let parse = c.try_get_matches_from in
    subst (λ app. FailsBy (fault_of app words) parse.result) is (parse.ensures.kinds (ap is_simple_and_free is ∙ simple_and_free))
