use Rattle.std.proofs.Common.{◌∙◌, sym}
use Rattle.dmn_analysis.proofs.Wholes.{all_others, same_others, word_others}
use Rattle.dmn_analysis.proofs.whole.others_beside.Goals as goal

pub returns-then-are_same : goal.returns-then-are_same
returns-then-are_same c = same_others c.args.these.now c.args.words.now (c.are_same.ensures.same c.if-are_same.true)

pub returns-then-are_words : goal.returns-then-are_words
returns-then-are_words c = word_others c.args.these.now c.args.words.now (sym c.are_words.ensures ∙ c.if-are_words.true)

pub returns-else-are_words : goal.returns-else-are_words
returns-else-are_words c = all_others c.args.these.now c.args.words.now
