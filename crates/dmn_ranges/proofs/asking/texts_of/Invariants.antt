use Rattle.std.proofs.Common.{◌≡◌, ◌++◌, drop, map}
use Rattle.std.specs.Arc.{arc_str_bytes}
use Rattle.dmn_ranges.specs.Asking.{texts_in}
use Rattle.dmn_ranges.proofs.asking.texts_of.Given as goal

abbrev pub invariant-loop-word : goal.invariant-loop-word
invariant-loop-word l = texts_in l.words ≡ map arc_str_bytes l.texts.items ++ texts_in (drop l.word-index l.words)
