use Rattle.std.proofs.Common.{◌∙◌, ◌-◌, ◌++◌, ap, ap₂, [], ◌∷◌, arith}
use Rattle.std.specs.Prelude.{string_bytes}
use Rattle.std.specs.Arc.{arc_str_bytes}
use Rattle.dmn_analysis.proofs.Places.{at_place}
use Rattle.dmn_analysis.proofs.TextBehind.{behind_first, behind_last}
use Rattle.dmn_analysis.proofs.witness.text_behind.Goals.{then-place-gt0+in_ok-push_str+in_ok-push_str-2, else-place-gt0}
use Rattle.dmn_analysis.proofs.witness.text_behind.Goals as goal

pub returns : goal.returns
returns c =
    let words = c.args.words.now in
    let place = c.args.place in
    let t = arc_str_bytes c.in_ok-text.text in
    let same = c.in_ok-text.ensures.ok ∙ c.as_str-2.ensures.value in
    elim c.if-place-gt0.branch [
      | then-place-gt0+in_ok-push_str+in_ok-push_str-2 w ↦
          let word = w.index-words-place.result in
          let there = at_place words (place - 1) word (omega (arith, c.requires, w.if-place-gt0.true)) w.index-words-place.is in
          let bytes = w.in_ok-push_str.ensures.bytes ∙ ap₂ (λ old new. old ++ new) c.new-text.ensures.bytes w.as_str.ensures.value in
          behind_last words place word t w.if-place-gt0.true there (same ∙ ap string_bytes w.text-is ∙ w.in_ok-push_str-2.ensures.bytes ∙ ap (λ bs. bs ++ 0 ∷ []) bytes)
      | else-place-gt0 w ↦ behind_first words place t (omega (arith, w.if-place-gt0.false)) (same ∙ ap string_bytes w.text-is ∙ c.new-text.ensures.bytes)
    ]
