use Rattle.std.proofs.Common.{◌≡◌, ◌++◌, drop}
use Rattle.serde_json.specs.Data.{array}
use Rattle.serde_json.specs.Written.{compact_text, items_text}
use Rattle.desk_checking.specs.TableTold.{words_told}
use Rattle.desk_checking.proofs.cells.add_words.Given as goal

abbrev pub invariant-loop-word : goal.invariant-loop-word
invariant-loop-word l = l.text.items ++ items_text l.later (words_told (drop l.word-index l.words)) ≡ l.fn.text.items ++ compact_text (array (words_told l.words))
