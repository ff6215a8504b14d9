use Rattle.std.proofs.Common.{◌≡◌, ℕ, List, ◌++◌}
use Rattle.std.specs.Io.KnownBytes.{Consumes}
use Rattle.desk_lines.proofs.laws.read_out.Given as goal

-- what was appended came
abbrev pub invariant-loop : goal.invariant-loop
invariant-loop g l = (bytes : List ℕ) × Consumes (g.R.Source.seen l.initial.reader).remaining (g.R.Source.seen l.reader).remaining bytes
    × (l.into.items ≡ l.initial.into.items ++ bytes)
