use Rattle.std.proofs.Common.{◌≡◌, ◌∙◌, sym, ap, subst, ℕ, List, true, arith}
use Rattle.std.specs.Prelude.{bytes_eq}
use Rattle.std.specs.Arc.{arc_str_bytes}
use Rattle.std.specs.List.{list_any}
use Rattle.feel_value.specs.Comparison.{equal}
use Rattle.feel_value.specs.Logic.{is_yes}
use Rattle.feel_value.specs.View.{datum_of}
use Rattle.dmn_analysis.specs.Cells.{is_less}
use Rattle.dmn_analysis.specs.Classes.{is_within}
use Rattle.dmn_analysis.proofs.OnClasses.{equal_word}
use Rattle.dmn_analysis.proofs.OnTexts.{word_unequal_greater, word_unequal_less}
use Rattle.dmn_analysis.proofs.class.words_equal.Goals as goal

pub returns-then-is_past_all : goal.returns-then-is_past_all
returns-then-is_past_all c = λ v h.
    let ts = c.args.texts.now in
    let all = subst (λ u. (s : List ℕ) → is_within ts s ≡ true → is_less s u ≡ true) c.as_str.ensures.value (c.is_past_all.ensures c.if-is_past_all.true) in
    ap (λ d. is_yes (equal v (datum_of d))) c.in-Text.is ∙ word_unequal_less ts (arc_str_bytes c.in-Text.text) v all h

pub returns-then-is_short_of_all : goal.returns-then-is_short_of_all
returns-then-is_short_of_all c = λ v h.
    let ts = c.args.texts.now in
    let all = subst (λ u. (s : List ℕ) → is_within ts s ≡ true → is_less u s ≡ true) c.as_str-2.ensures.value (c.is_short_of_all.ensures c.if-is_short_of_all.true) in
    ap (λ d. is_yes (equal v (datum_of d))) c.in-Text.is ∙ word_unequal_greater ts (arc_str_bytes c.in-Text.text) v all h

pub returns : goal.returns
returns c = λ v h.
    let texts = c.args.texts.now in
    let among = ap (λ s. list_any (λ u. bytes_eq s (arc_str_bytes u)) texts) (sym c.as_str-3.ensures.value) ∙ sym c.is_among.ensures ∙ c.if-not-is_among.false in
    ap (λ d. is_yes (equal v (datum_of d))) c.in-Text.is ∙ equal_word texts (arc_str_bytes c.in-Text.text) v (omega arith) among h
