use Rattle.std.proofs.Common.{◌≡◌, ◌++◌, drop, map, string_bytes}
use Rattle.serde_json.specs.Data.{array}
use Rattle.serde_json.specs.Written.{compact_text, items_text}
use Rattle.desk_checking.specs.Told.{texts_told}
use Rattle.desk_checking.proofs.parts.add_texts.Given as goal

abbrev pub invariant-loop-word : goal.invariant-loop-word
invariant-loop-word l =
    l.text.items ++ items_text l.later (texts_told (map string_bytes (drop l.word-index l.texts) ++ map string_bytes l.others))
    ≡ l.fn.text.items ++ compact_text (array (texts_told (map string_bytes l.texts ++ map string_bytes l.others)))

abbrev pub invariant-loop-word-2 : goal.invariant-loop-word-2
invariant-loop-word-2 l =
    l.text.items ++ items_text l.later (texts_told (map string_bytes (drop l.word-index l.others)))
    ≡ l.fn.text.items ++ compact_text (array (texts_told (map string_bytes l.texts ++ map string_bytes l.others)))
