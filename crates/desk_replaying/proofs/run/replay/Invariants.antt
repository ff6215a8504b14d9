use Rattle.desk_replaying.proofs.run.replay.Given as goal

abbrev pub ghosts-replay_marked : goal.ghosts-replay_marked
ghosts-replay_marked g a = record { slots = a.slots }
