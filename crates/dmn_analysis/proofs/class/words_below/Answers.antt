use Rattle.std.proofs.Common.{◌≡◌, ◌∙◌, ap, subst, ℕ, List, true, false}
use Rattle.std.specs.Arc.{arc_str_bytes}
use Rattle.feel_value.specs.Comparison.{less}
use Rattle.feel_value.specs.View.{datum_of}
use Rattle.dmn_analysis.specs.Cells.{is_less}
use Rattle.dmn_analysis.specs.Classes.{is_within}
use Rattle.dmn_analysis.proofs.OnTexts.{word_below}
use Rattle.dmn_analysis.proofs.class.words_below.Goals as goal

pub returns-then-is_past_all : goal.returns-then-is_past_all
returns-then-is_past_all c = λ v h.
    let ts = c.args.texts.now in
    let all = subst (λ u. (s : List ℕ) → is_within ts s ≡ true → is_less s u ≡ true) c.as_str.ensures.value (c.is_past_all.ensures c.if-is_past_all.true) in
    ap (λ d. less v (datum_of d)) c.in-Text.is ∙ word_below ts (arc_str_bytes c.in-Text.text) true v all h

pub returns-then-is_upto_all : goal.returns-then-is_upto_all
returns-then-is_upto_all c = λ v h.
    let ts = c.args.texts.now in
    let all = subst (λ u. (s : List ℕ) → is_within ts s ≡ true → is_less s u ≡ false) c.as_str-2.ensures.value (c.is_upto_all.ensures c.if-is_upto_all.true) in
    ap (λ d. less v (datum_of d)) c.in-Text.is ∙ word_below ts (arc_str_bytes c.in-Text.text) false v all h
