use Rattle.std.proofs.Common.{rules, ap, ap₂, codes, true, [], ◌≡◌, ◌∙◌}
use Rattle.std.proofs.lemmas.Result.{IfOk-weaker}
use Rattle.clap.specs.Words.{App, app_of, new_app, with_subcommand}
use Rattle.desk_commands.proofs.Commands.{has_no_global}
use Rattle.desk_commands.proofs.command.command.Goals as goal

pub returns : goal.returns
returns c =
    let desk : app_of c.subcommand_required-desk.result ≡ record {
      top = record (new_app (codes "desk")).top { has_version = true; subcommand_required = true };
      subs = [];
    } = search rules in
    let replays = c.in_ok-subcommand.ensures.shape (has_no_global _ _ _ _ (ap (λ (a : App). a.top.is_plain) c.replay.ensures)) in
    let serves = c.in_ok-subcommand-2.ensures.shape (has_no_global _ _ _ _ (ap (λ (a : App). a.top.is_plain) c.in_ok-serve.ensures)) in
    let checks = c.in_ok-subcommand-3.ensures.shape (has_no_global _ _ _ _ (ap (λ (a : App). a.top.is_plain) c.in_ok-check.ensures)) in
    IfOk-weaker c.subcommand-4.result _ _ (λ r adds.
    adds.shape (has_no_global _ _ _ _ (ap (λ (a : App). a.top.is_plain) c.in_ok-explain.ensures))
    ∙ ap₂ (λ (a b : App). with_subcommand a b.top)
    (checks
    ∙ ap₂ (λ (a b : App). with_subcommand a b.top)
    (serves ∙ ap₂ (λ (a b : App). with_subcommand a b.top) (replays ∙ ap₂ (λ (a b : App). with_subcommand a b.top) desk c.replay.ensures) c.in_ok-serve.ensures)
    c.in_ok-check.ensures)
    c.in_ok-explain.ensures) c.subcommand-4.ensures
