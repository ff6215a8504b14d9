use Rattle.std.proofs.Common.{◌∙◌, sym, ap, length, arith, Some}
use Rattle.std.specs.List.{slice_get}
use Rattle.std.proofs.lemmas.List.{length_push}
use Rattle.std.proofs.lemmas.Option.{slice_get-get_or}
use Rattle.table_classes.proofs.ClassWords.{from_block_more}
use Rattle.table_classes.proofs.classes.rules_of.Goals as goal

pub loop-block-preserved : goal.loop-block-preserved
loop-block-preserved c =
    let words = c.loop-block.words.items in
    let last = c.word_at.result in
    let block = c.block-item.result in
    let blocks = c.args.blocks.now in
    record {
      count = omega (arith, ap length c.in_ok-push.ensures.items, length_push words last, c.loop-block.invariant.count);
      told = from_block_more blocks c.args.place words c.push.new.self.items last block c.loop-block.invariant.told c.in_ok-push.ensures.items
          (ap (slice_get blocks) c.loop-block.invariant.count ∙ slice_get-get_or blocks c.loop-block.block-index block c.loop-block-test.true ∙ ap Some (sym c.block-item.is))
          c.word_at.ensures;
    }

pub returns : goal.returns
returns c = λ rules column classes tells has. λ w word there. λ i r small here unset.
    let b = c.loop-block.invariant.told w word there i small unset in
    tells w b.block b.there c.args.place word c.args.class b.has has i r small here unset
