use Rattle.std.proofs.Common.{None}
use Rattle.std.specs.List.{fold}
use Rattle.dmn_ranges.specs.Texts.{with_if}
use Rattle.dmn_ranges.proofs.Walks.{fold_at, fold_done}
use Rattle.dmn_ranges.proofs.texts.with_words.Goals as goal

pub loop-word-preserved : goal.loop-word-preserved
loop-word-preserved c =
    fold_at with_if (fold with_if c.args.texts c.args.words.now) c.loop-word.all c.with_if-all.result c.args.words.now c.loop-word.word-index None
    c.loop-word.invariant c.loop-word-test.true c.with_if-all.ensures

pub returns : goal.returns
returns c = fold_done with_if (fold with_if c.args.texts c.args.words.now) c.loop-word.all c.args.words.now c.loop-word.word-index c.loop-word.invariant c.loop-word-test.false
