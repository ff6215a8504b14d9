use Rattle.desk_serving.specs.Script.{Served, ServedInPart}
use Rattle.desk_commands.proofs.Ending.{ends_ran}
use Rattle.desk_commands.proofs.run.run_serve_marked.Goals as goal

pub returns : goal.returns
returns g c =
    ends_ran (Served c.args.options.clients) (ServedInPart c.args.options.clients) _ _ _ _ _ _ _ c.serve_marked-end.result c.serve_marked-end.ensures.ran c.tell_end.ensures.status c.tell_end.ensures.told
