use Rattle.test_serve.proofs.marked_runs.serve_once_marked.Given as goal

abbrev pub ghosts-ended_with : goal.ghosts-ended_with
ghosts-ended_with g a = record { slots = a.slots }
