use Rattle.std.proofs.Common.{◌≡◌, ◌∙◌, ℕ, ◌<◌, ◌≤◌, sym, ap₂, length, true, arith}
use Rattle.std.specs.Arc.{arc_str_bytes}
use Rattle.std.proofs.lemmas.Option.{slice_get_within}
use Rattle.dmn_analysis.specs.Cells.{is_less}
use Rattle.dmn_analysis.proofs.Places.{at_place}
use Rattle.dmn_analysis.proofs.TextBehind.{behind_all, behind_begun, behind_more, behind_other}
use Rattle.dmn_analysis.proofs.TextOrder.{less_from, utf8_word}
use Rattle.dmn_analysis.proofs.witness.text_between.Goals.{then-from-words, else-from-words, then-place-words-via-then-place-words, then-place-words-via-else-place-words+then-is_less}
use Rattle.dmn_analysis.proofs.witness.text_between.Goals as goal

pub loop-place-init : goal.loop-place-init
loop-place-init c =
    let words = c.args.words.now in
    let from = c.args.from in
    let first = c.if-from-words.first in
    let before : first ≤ from = elim c.if-from-words.branch [
      | then-from-words w ↦ omega (arith, w.first-is)
      | else-from-words w ↦ omega (arith, w.first-is, w.if-from-words.false)
    ] in
    let within : first ≤ length words = elim c.if-from-words.branch [
      | then-from-words w ↦ omega (arith, w.first-is, w.if-from-words.true)
      | else-from-words w ↦ omega (arith, w.first-is)
    ] in
    let some : (j : ℕ) → j < from → j < length words → j < first = λ j less there. elim c.if-from-words.branch [
      | then-from-words w ↦ omega (arith, w.first-is, less)
      | else-from-words w ↦ omega (arith, w.first-is, there)
    ] in
    (behind_begun words from c.args.to first before, some, within)

pub returns-then-place-to-clause-none : goal.returns-then-place-to-clause-none
returns-then-place-to-clause-none c = λ _. behind_all c.args.words.now c.args.from c.args.to c.loop-place.place c.loop-place.invariant.0 c.if-place-to.true c.loop-place.invariant.2

pub returns-then-place-words-clause-inside : goal.returns-then-place-words-clause-inside
returns-then-place-words-clause-inside c =
    let words = c.args.words.now in
    let place = c.loop-place.place in
    let text = c.in_ok-text.text in
    behind_other words c.args.from c.args.to place (arc_str_bytes text) c.requires c.loop-place.invariant.1 (omega (arith, c.if-place-to.false)) c.in_ok-text.ensures (utf8_word text)
    (λ j word past there. elim c.then-place-words.branch [
      | then-place-words-via-then-place-words w ↦ absurd (omega (arith, past, slice_get_within words j word there, w.if-place-words.true))
      | then-place-words-via-else-place-words+then-is_less w ↦
          let one = w.index-words-place.result in
          let here = at_place words place one (omega (arith, past, slice_get_within words j word there)) w.index-words-place.is in
          let less : is_less (arc_str_bytes text) (arc_str_bytes one) ≡ true = ap₂ is_less (sym w.as_str.ensures.value) (sym w.as_str-else-place-words.ensures.value) ∙ sym w.is_less.ensures ∙ w.if-is_less.true in
          less_from words c.requires place one (arc_str_bytes text) here less j word past there
    ])

pub loop-place-preserved : goal.loop-place-preserved
loop-place-preserved c =
    let words = c.args.words.now in
    let place = c.loop-place.place in
    let one = c.index-words-place.result in
    let within : place < length words = omega (arith, c.loop-place.invariant.2, c.if-place-words.false) in (
      behind_more words c.args.from c.args.to place (arc_str_bytes c.in_ok-text.text) one c.loop-place.invariant.0 c.in_ok-text.ensures (at_place words place one within c.index-words-place.is)
          (ap₂ is_less (sym c.as_str.ensures.value) (sym c.as_str-else-place-words.ensures.value) ∙ sym c.is_less.ensures ∙ c.if-is_less.false),
      λ j less there. let before = c.loop-place.invariant.1 j less there in omega (arith, before),
      omega (arith, within),
    )
