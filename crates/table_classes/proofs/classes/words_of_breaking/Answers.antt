use Rattle.std.proofs.Common.{◌≡◌, ◌+◌, ◌*◌, ap, arith, length, map}
use Rattle.std.proofs.lemmas.List.{length_push}
use Rattle.table_classes.proofs.ClassWords.{rest_after, breaking_more, entries_left}
use Rattle.table_classes.proofs.classes.words_of_breaking.Goals as goal

pub loop-rest-preserved : goal.loop-rest-preserved
loop-rest-preserved g c =
    let rules = c.args.rules.now in
    let words = c.loop-rest.words.items in
    let last = c.word_of_breaking.result in
    let rest = c.loop-rest.rest.now in
    let count : length c.push.new.self.items ≡ length words + 1 = omega (arith, ap length c.in_ok-push.ensures.items, length_push words last) in
    record {
      left = rest_after (length words) (length c.push.new.self.items) c.min.result rules rest c.split_at.result.1.now c.loop-rest.invariant.left c.min.ensures c.split_at.ensures.back count;
      told = breaking_more (map g.R.HasTests.tests_of rules) words c.push.new.self.items last (map g.R.HasTests.tests_of rest) c.loop-rest.invariant.told c.in_ok-push.ensures.items
          (entries_left g.R.HasTests.tests_of rules rest (64 * length words) c.loop-rest.invariant.left) c.word_of_breaking.ensures;
    }
