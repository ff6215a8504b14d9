use Rattle.std.proofs.Common.{◌≡◌, ◌∙◌, ap, subst, ℕ, List, true, false}
use Rattle.std.specs.Arc.{arc_str_bytes}
use Rattle.feel_value.specs.Comparison.{less}
use Rattle.feel_value.specs.View.{datum_of}
use Rattle.dmn_analysis.specs.Cells.{is_less}
use Rattle.dmn_analysis.specs.Classes.{is_within}
use Rattle.dmn_analysis.proofs.OnTexts.{word_above}
use Rattle.dmn_analysis.proofs.class.words_above.Goals as goal

pub returns-then-is_short_of_all : goal.returns-then-is_short_of_all
returns-then-is_short_of_all c = λ v h.
    let ts = c.args.texts.now in
    let all = subst (λ u. (s : List ℕ) → is_within ts s ≡ true → is_less u s ≡ true) c.as_str.ensures.value (c.is_short_of_all.ensures c.if-is_short_of_all.true) in
    ap (λ d. less (datum_of d) v) c.in-Text.is ∙ word_above ts (arc_str_bytes c.in-Text.text) true v all h

pub returns-then-is_from_all : goal.returns-then-is_from_all
returns-then-is_from_all c = λ v h.
    let ts = c.args.texts.now in
    let all = subst (λ u. (s : List ℕ) → is_within ts s ≡ true → is_less u s ≡ false) c.as_str-2.ensures.value (c.is_from_all.ensures c.if-is_from_all.true) in
    ap (λ d. less (datum_of d) v) c.in-Text.is ∙ word_above ts (arc_str_bytes c.in-Text.text) false v all h
