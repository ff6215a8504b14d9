use Rattle.std.proofs.Common.{◌∙◌, sym, Some, None}
use Rattle.dmn_ranges.proofs.FewTexts.{word_placed}
use Rattle.dmn_ranges.proofs.texts.with_word.Goals as goal

pub returns-in-Some : goal.returns-in-Some
returns-in-Some c =
    word_placed c.args.words c.args.word c.text.result.now c.has_word.result (Some c.in-Some.place) c.text.ensures c.has_word.ensures c.if-has_word.false (sym c.in-Some.is ∙ c.free_place.ensures.place)

pub returns-in-None : goal.returns-in-None
returns-in-None c = word_placed c.args.words c.args.word c.text.result.now c.has_word.result None c.text.ensures c.has_word.ensures c.if-has_word.false (sym c.in-None.is ∙ c.free_place.ensures.place)
