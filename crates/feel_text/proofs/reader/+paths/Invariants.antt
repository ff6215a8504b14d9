use Rattle.feel_text.proofs.reader.+paths.Given as goal

abbrev pub decreases-paths : goal.decreases-paths
decreases-paths l = l.left
