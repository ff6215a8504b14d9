use Rattle.desk_commands.proofs.run.run_serve.Given as goal

abbrev pub ghosts-run_serve_marked : goal.ghosts-run_serve_marked
ghosts-run_serve_marked g a = record { slots = a.slots }
