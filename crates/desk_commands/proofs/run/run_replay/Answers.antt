use Rattle.desk_commands.proofs.run.run_replay.Goals as goal

pub returns : goal.returns
returns g c = record {
  end = c.replay.result;
  did = c.replay.ensures;
  is = c.tell_end.ensures.status;
  told = c.tell_end.ensures.told;
}
