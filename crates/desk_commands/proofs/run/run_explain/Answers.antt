use Rattle.desk_commands.proofs.run.run_explain.Goals as goal

pub returns : goal.returns
returns g c = record {
  end = c.explain.result;
  did = c.explain.ensures;
  is = c.tell_end.ensures.status;
  told = c.tell_end.ensures.told;
}
