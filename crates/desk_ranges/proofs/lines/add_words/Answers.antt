use Rattle.std.proofs.Common.{◌∙◌, ◌++◌, ap}
use Rattle.std.proofs.lemmas.List.{drop_all}
use Rattle.serde_json.specs.Written.{items_text}
use Rattle.desk_ranges.specs.Lines.{word_items}
use Rattle.desk_ranges.proofs.Words.{words_begun, word_turn, words_ended}
use Rattle.desk_ranges.proofs.lines.add_words.Goals as goal

pub loop-word-init : goal.loop-word-init
loop-word-init c = words_begun c.args.text.now.items c.push.new.self.items (word_items c.args.words.now) c.in_ok-push.ensures.items

pub loop-word-preserved : goal.loop-word-preserved
loop-word-preserved c =
    word_turn _ c.loop-word.text.items c.add_word.new.text.items c.loop-word.later c.in_ok-later.later c.args.words.now c.loop-word.word-index c.loop-word.invariant c.loop-word-test.true
    c.in_ok-later.ensures

pub returns : goal.returns
returns c =
    let text = c.loop-word.text.items in
    words_ended _ text c.push-2.new.self.items c.loop-word.later
    (c.loop-word.invariant ∙ ap (λ ws. text ++ items_text c.loop-word.later (word_items ws)) (drop_all c.loop-word.word-index c.args.words.now c.loop-word-test.false)) c.in_ok-push-2.ensures.items
