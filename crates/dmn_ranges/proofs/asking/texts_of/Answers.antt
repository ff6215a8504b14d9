use Rattle.std.proofs.Common.{◌∙◌, sym, ap, map, ◌++◌}
use Rattle.std.specs.Arc.{arc_str_bytes}
use Rattle.std.proofs.lemmas.List.{append-nil, drop_all}
use Rattle.dmn_ranges.specs.Asking.{texts_in}
use Rattle.dmn_ranges.proofs.SoundAsking.{text_turn}
use Rattle.dmn_ranges.proofs.asking.texts_of.Goals as goal

pub loop-word-preserved : goal.loop-word-preserved
loop-word-preserved c =
    text_turn (texts_in c.args.words.now) (map arc_str_bytes c.loop-word.texts.items) (map arc_str_bytes c.in-Some.more.items) c.args.words.now c.loop-word.word-index c.loop-word.invariant c.loop-word-test.true (rw c.in-Some.is at c.in_ok-more.ensures)

pub returns : goal.returns
returns c =
    let old = map arc_str_bytes c.loop-word.texts.items in
    sym (c.loop-word.invariant ∙ ap (λ ws. old ++ texts_in ws) (drop_all c.loop-word.word-index c.args.words.now c.loop-word-test.false) ∙ append-nil old)
