use Rattle.std.proofs.Common.{◌≡◌, ℕ, ◌<◌, Some}
use Rattle.std.specs.Arc.{arc_str_bytes}
use Rattle.std.specs.List.{slice_get}
use Rattle.std.specs.declared.alloc.Global.{Global}
use Rattle.std.specs.declared.sync.ArcStr.{ArcStr}
use Rattle.dmn_analysis.proofs.whole.are_same.Given as goal

abbrev pub invariant-loop-i : goal.invariant-loop-i
invariant-loop-i l = (k : ℕ) (x y : ArcStr Global) → k < l.i → slice_get l.a k ≡ Some x → slice_get l.b k ≡ Some y → arc_str_bytes x ≡ arc_str_bytes y
