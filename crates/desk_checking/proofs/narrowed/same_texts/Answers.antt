use Rattle.std.proofs.Common.{◌∙◌, ap, map, refl, subst, sym}
use Rattle.std.specs.Arc.{arc_str_bytes}
use Rattle.dmn_analysis.specs.declared.asked.Texts.TheVariants.{These}
use Rattle.desk_checking.specs.Answering.{AreSameTexts}
use Rattle.desk_checking.proofs.narrowed.same_texts.Goals as goal

pub returns-in_ok-copies-in-These : goal.returns-in_ok-copies-in-These
returns-in_ok-copies-in-These c =
    subst (λ t. AreSameTexts t (These c.in_ok-copies-in-These.copies)) (sym c.in-These.is)
    (c.in_ok-copies-in-These.copies, refl, c.in_ok-copies-in-These.ensures ∙ ap (map arc_str_bytes) c.deref.ensures.value)
