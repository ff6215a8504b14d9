use Rattle.std.proofs.Common.{◌≡◌, ◌≤◌, take, length}
use Rattle.feel_text.specs.Meaning.{bound}
use Rattle.feel_eval.specs.Few.{few_of}
use Rattle.feel_eval.proofs.added.last_named.Given as goal

abbrev pub invariant-loop-i : goal.invariant-loop-i
invariant-loop-i l = (l.i ≤ length l.bindings) × (bound l.name (few_of l.bindings) ≡ bound l.name (few_of (take l.i l.bindings)))

abbrev pub decreases-loop-i : goal.decreases-loop-i
decreases-loop-i l = l.i
