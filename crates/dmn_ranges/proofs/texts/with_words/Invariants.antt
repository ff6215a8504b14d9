use Rattle.std.proofs.Common.{◌≡◌, drop}
use Rattle.std.specs.List.{fold}
use Rattle.dmn_ranges.specs.Texts.{with_if}
use Rattle.dmn_ranges.proofs.texts.with_words.Given as goal

abbrev pub invariant-loop-word : goal.invariant-loop-word
invariant-loop-word l = fold with_if l.fn.texts l.words ≡ fold with_if l.all (drop l.word-index l.words)
