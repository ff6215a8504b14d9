use Rattle.std.proofs.Common.{◌≡◌, ◌≤◌, take, length}
use Rattle.feel_text.specs.Needed.{named_places}
use Rattle.feel_text.specs.Places.{last_place}
use Rattle.feel_text.proofs.needs.Needs.position_among.Given as goal

abbrev pub invariant-loop-i : goal.invariant-loop-i
invariant-loop-i l = (l.i ≤ length l.self-inside.needs.items) × (last_place l.name (take l.len (named_places l.self-inside.needs.items)) ≡ last_place l.name (take l.i (named_places l.self-inside.needs.items)))

abbrev pub decreases-loop-i : goal.decreases-loop-i
decreases-loop-i l = l.i
