use Rattle.std.proofs.Common.{◌≡◌, ◌++◌, ◌∷◌, false, drop}
use Rattle.serde_json.specs.Written.{items_text}
use Rattle.desk_ranges.specs.Lines.{word_items}
use Rattle.desk_ranges.proofs.lines.add_words.Given as goal

abbrev pub invariant-loop-word : goal.invariant-loop-word
invariant-loop-word l = l.fn.text.items ++ 91 ∷ items_text false (word_items l.words) ≡ l.text.items ++ items_text l.later (word_items (drop l.word-index l.words))
