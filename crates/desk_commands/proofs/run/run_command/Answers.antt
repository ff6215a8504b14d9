use Rattle.std.proofs.Common.{rules, ◌≡◌, sym, subst}
use Rattle.clap.specs.Words.{found_of, rows_of, subcommand_rows_of}
use Rattle.desk_commands.specs.CommandLine.{Named, named_by}
use Rattle.desk_commands.specs.CommandLine.Named.{Check}
use Rattle.desk_commands.specs.Status.{Does}
use Rattle.desk_commands.proofs.run.run_command.Goals as goal

pub returns-in-Some-subcommand_matches : goal.returns-in-Some-subcommand_matches
returns-in-Some-subcommand_matches g c =
    let named : Check (rows_of (found_of c.in-Some-subcommand_matches.found.now)) ≡ named_by (subcommand_rows_of c.args.matches.now) = search rules in
    subst (λ (n : Named). Does (g.R.Source.seen c.args.reader.now) (g.R.Source.seen c.run_check.new.reader) (g.W.Sink.seen c.args.writer.now)
    (g.W.Sink.seen c.run_check.new.writer) (g.F.Sink.seen c.args.faults.now) (g.F.Sink.seen c.run_check.new.faults) c.run_check.result n)
    named (c.check_options_of.result, c.check_options_of.ensures, c.run_check.ensures)
