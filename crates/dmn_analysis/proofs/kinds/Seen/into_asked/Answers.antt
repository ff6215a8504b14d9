use Rattle.std.proofs.Common.{◌∙◌, refl, sym}
use Rattle.dmn_analysis.specs.Seeing.{seen_kinds}
use Rattle.dmn_analysis.proofs.Constants.{not_both}
use Rattle.dmn_analysis.proofs.kinds.Seen.into_asked.Goals as goal

pub returns-then-is_nothing : goal.returns-then-is_nothing
returns-then-is_nothing c = (λ some. absurd (not_both c.is_nothing.result (c.is_nothing.ensures ∙ some) c.if-is_nothing.true), λ none. c.every.ensures.all)

pub returns : goal.returns
returns c = (
  λ some. record { null = refl; truths = refl; numbers = c.numbers_asked-numbers.ensures; parted = refl; texts = c.texts_asked-texts.ensures (seen_kinds c.args.self) refl refl },
  λ none. absurd (not_both c.is_nothing.result c.if-is_nothing.false (c.is_nothing.ensures ∙ none)),
)
