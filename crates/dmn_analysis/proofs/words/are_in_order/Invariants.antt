use Rattle.std.proofs.Common.{◌≡◌, ℕ, ◌+◌, ◌<◌, Some, true}
use Rattle.std.specs.Arc.{arc_str_bytes}
use Rattle.std.specs.List.{slice_get}
use Rattle.std.specs.declared.alloc.Global.{Global}
use Rattle.std.specs.declared.sync.ArcStr.{ArcStr}
use Rattle.dmn_analysis.specs.Cells.{is_less}
use Rattle.dmn_analysis.proofs.words.are_in_order.Given as goal

abbrev pub invariant-loop-i : goal.invariant-loop-i
invariant-loop-i l = (k : ℕ) (a b : ArcStr Global) → k + 1 < l.i → slice_get l.texts k ≡ Some a → slice_get l.texts (k + 1) ≡ Some b → is_less (arc_str_bytes a) (arc_str_bytes b) ≡ true
