-- How a line is heard.
use Rattle.std.proofs.Common.{◌≡◌, ◌<◌, ◌≤◌, ℕ, List, Option, Some, None, length, ◌∙◌}
use Rattle.desk_lines.specs.Lines.{kept_line, max_line}
use Rattle.desk_lines.proofs.Keeping.{kept_by, lost_by, le_true, le_false}

pub long_heard : (kept : Option (List ℕ)) (it : List ℕ) → None ≡ kept → kept ≡ kept_line it → max_line < length it
long_heard kept it none e = le_false (length it) max_line (lost_by _ it (none ∙ e))

-- a line that is kept is this one, and no longer than it may be
pub kept_heard : (kept : Option (List ℕ)) (it bytes : List ℕ) → Some bytes ≡ kept → kept ≡ kept_line it → (bytes ≡ it) × (length it ≤ max_line)
kept_heard kept it bytes some e = let b = kept_by _ it bytes (some ∙ e) in (b.0, le_true (length it) max_line b.1)
