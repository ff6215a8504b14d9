use Rattle.std.proofs.Common.{◌≡◌, ◌+◌, ◌*◌, ap, arith, length, map}
use Rattle.std.proofs.lemmas.List.{length_push}
use Rattle.table_classes.proofs.ClassWords.{rest_after, block_told, breaking_at, entries_left}
use Rattle.table_classes.proofs.classes.blocks_of.Goals as goal

pub block_words-requires : goal.block_words-requires
block_words-requires g c =
    let rules = c.args.rules.now in
    let rest = c.loop-word.rest.now in
    let count = length c.loop-word.all.items in
    record {
      breaking = breaking_at (map g.R.HasTests.tests_of rules) c.args.breaking.now count c.loop-word.word-index (map g.R.HasTests.tests_of rest) c.requires.breaking c.loop-word.invariant.count
          (entries_left g.R.HasTests.tests_of rules rest (64 * count) c.loop-word.invariant.left) c.loop-word-test.true;
      numbers = c.requires.numbers;
    }

pub loop-word-preserved : goal.loop-word-preserved
loop-word-preserved g c =
    let rules = c.args.rules.now in
    let blocks = c.loop-word.all.items in
    let last = c.in_ok-block_words.field-0 in
    let rest = c.loop-word.rest.now in
    let count : length c.push.new.self.items ≡ length blocks + 1 = omega (arith, ap length c.in_ok-push.ensures.items, length_push blocks last) in
    record {
      count = omega (arith, count, c.loop-word.invariant.count);
      left = rest_after (length blocks) (length c.push.new.self.items) c.min.result rules rest c.split_at.result.1.now c.loop-word.invariant.left c.min.ensures c.split_at.ensures.back count;
      told = block_told (map g.R.HasTests.tests_of rules) c.args.column c.args.classes.now blocks c.push.new.self.items last (map g.R.HasTests.tests_of rest) c.loop-word.invariant.told c.in_ok-push.ensures.items
          (entries_left g.R.HasTests.tests_of rules rest (64 * length blocks) c.loop-word.invariant.left) c.in_ok-block_words.ensures;
    }
