use Rattle.std.proofs.Common.{rules, ◌≡◌, ◌∙◌, ap, sym, Some, None, option_map}
use Rattle.clap.specs.Words.{first_of, found_of, rows_of}
use Rattle.clap.proofs.WalkLemmas.{first_value-rows}
use Rattle.desk_commands.specs.CommandLine.{is_true}
use Rattle.desk_commands.proofs.options.is_given.Goals as goal

pub returns-in_default : goal.returns-in_default
returns-in_default c =
    let none : None ≡ first_of c.args.name.now (rows_of (found_of c.args.matches.now)) = ap (option_map (λ s. s.now)) (sym c.in_default.is)
    ∙ c.get_str.ensures ∙ first_value-rows (found_of c.args.matches.now) c.args.name.now in
    ap is_true none

pub returns : goal.returns
returns c =
    let some : Some c.in-Some.text.now ≡ first_of c.args.name.now (rows_of (found_of c.args.matches.now)) = ap (option_map (λ s. s.now)) (sym c.in-Some.is)
    ∙ c.get_str.ensures ∙ first_value-rows (found_of c.args.matches.now) c.args.name.now in
    let given : c.eq.result ≡ is_true (Some c.in-Some.text.now) = search rules in
    given ∙ ap is_true some
