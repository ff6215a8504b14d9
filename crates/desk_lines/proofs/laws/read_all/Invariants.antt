use Rattle.desk_lines.proofs.laws.read_all.Given as goal

-- all that the device gives
abbrev pub ghosts-read_all_by : goal.ghosts-read_all_by
ghosts-read_all_by g a = record { input = g.D.Read.remaining a.device }
