use Rattle.std.proofs.Common.{◌≡◌, ◌++◌, map, drop}
use Rattle.std.specs.Arc.{arc_str_bytes}
use Rattle.desk_checking.proofs.narrowed.copied_texts.Given as goal

abbrev pub invariant-loop-text : goal.invariant-loop-text
invariant-loop-text l = map arc_str_bytes l.texts ≡ map arc_str_bytes l.copies.items ++ map arc_str_bytes (drop l.text-index l.texts)
