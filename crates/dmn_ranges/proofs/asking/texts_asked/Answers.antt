use Rattle.std.proofs.Common.{◌∙◌, sym, ap}
use Rattle.dmn_ranges.specs.Ranges.{is_among}
use Rattle.dmn_ranges.proofs.SoundAsking.{among_texts}
use Rattle.dmn_ranges.proofs.asking.texts_asked.Goals as goal

pub returns : goal.returns
returns c = λ s h.
    c.those.ensures s (among_texts c.in-Few.words c.in-Some.texts.items s (rw c.in-Some.is at c.in_ok-texts.ensures) (ap (λ t. is_among t s) (sym c.in-Few.is) ∙ h))
