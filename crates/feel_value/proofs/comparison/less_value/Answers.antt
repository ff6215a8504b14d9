use Rattle.std.proofs.Common.{◌∙◌, sym, ap, ap₂, is_lt, chars}
use Rattle.feel_value.specs.Logic.{decided}
use Rattle.feel_value.specs.Comparison.{less}
use Rattle.feel_value.specs.View.{datum_of}
use Rattle.feel_value.proofs.Views.{datum_of-Text}
use Rattle.feel_value.proofs.CodePoints.{order_by_code_points, cmp}
use Rattle.feel_value.proofs.comparison.less_value.Goals as goal

pub returns-in-Text-Text : goal.returns-in-Text-Text
returns-in-Text-Text c =
    let a = ap datum_of c.in-Text-Text.is-0 ∙ datum_of-Text c.in-Text-Text.x in
    let b = ap datum_of c.in-Text-Text.is-1 ∙ datum_of-Text c.in-Text-Text.y in
    c.decided-in-Text-Text.ensures ∙ ap decided (c.lt.ensures ∙ ap is_lt (order_by_code_points c.as_str.result.now c.as_str-in-Text-Text.result.now c.as_str.utf8 c.as_str-in-Text-Text.utf8))
    ∙ ap₂ (λ s t. decided (is_lt (cmp (chars s) (chars t)))) c.as_str.ensures.value c.as_str-in-Text-Text.ensures.value
    ∙ sym (ap₂ less a b)
