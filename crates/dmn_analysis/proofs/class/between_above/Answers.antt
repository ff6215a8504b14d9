use Rattle.std.proofs.Common.{◌≡◌, ◌∙◌, ap, subst, ℕ, List, true}
use Rattle.std.specs.Arc.{arc_str_bytes}
use Rattle.feel_value.specs.Comparison.{less}
use Rattle.feel_value.specs.View.{datum_of}
use Rattle.dmn_analysis.specs.Cells.{is_less}
use Rattle.dmn_analysis.specs.Classes.{AreGreaterFrom, AreLessBefore}
use Rattle.dmn_analysis.proofs.OnTexts.{between_greater, between_less}
use Rattle.dmn_analysis.proofs.class.between_above.Goals as goal

pub returns-then-is_past : goal.returns-then-is_past
returns-then-is_past c = λ v h.
    let ts = c.args.texts.now in
    let t = arc_str_bytes c.in-Text.text in
    let smaller = subst (λ u. (s : List ℕ) → AreGreaterFrom c.args.to s ts → is_less s u ≡ true) c.as_str.ensures.value (c.is_past.ensures c.if-is_past.true) in
    ap (λ d. less (datum_of d) v) c.in-Text.is ∙ (between_less ts c.args.from c.args.to t v smaller h).1

pub returns-then-is_short_of : goal.returns-then-is_short_of
returns-then-is_short_of c = λ v h.
    let ts = c.args.texts.now in
    let t = arc_str_bytes c.in-Text.text in
    let greater = subst (λ u. (s : List ℕ) → AreLessBefore c.args.from s ts → is_less u s ≡ true) c.as_str-2.ensures.value (c.is_short_of.ensures c.if-is_short_of.true) in
    ap (λ d. less (datum_of d) v) c.in-Text.is ∙ (between_greater ts c.args.from c.args.to t v greater h).1
