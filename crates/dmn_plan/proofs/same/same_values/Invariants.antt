use Rattle.std.proofs.Common.{◌≡◌, drop}
use Rattle.std.specs.Cmp.Lexicographic.{pointwise}
use Rattle.dmn_plan.specs.Identical.{is_same}
use Rattle.dmn_plan.proofs.same.same_values.Given as goal

abbrev pub invariant-loop-i : goal.invariant-loop-i
invariant-loop-i l = pointwise is_same l.a l.b ≡ pointwise is_same (drop l.i l.a) (drop l.i l.b)
