use Rattle.std.proofs.Common.{ℕ, ◌<◌, ◌≤◌, length}
use Rattle.dmn_analysis.proofs.TextBehind.{AreBehind}
use Rattle.dmn_analysis.proofs.witness.text_between.Given as goal

abbrev pub invariant-loop-place : goal.invariant-loop-place
invariant-loop-place l = AreBehind l.words l.from l.to l.place × ((j : ℕ) → j < l.from → j < length l.words → j < l.place) × (l.place ≤ length l.words)
