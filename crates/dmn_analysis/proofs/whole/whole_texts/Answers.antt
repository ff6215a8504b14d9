use Rattle.std.proofs.Common.{◌≡◌, ◌∙◌, sym, ap, subst}
use Rattle.dmn_analysis.specs.Asked.{is_asked_text}
use Rattle.dmn_analysis.specs.Whole.{AreOthers}
use Rattle.dmn_analysis.proofs.Wholes.{whole_all, whole_these, whole_utf8}
use Rattle.dmn_analysis.proofs.whole.whole_texts.Goals as goal

pub returns-in-All : goal.returns-in-All
returns-in-All c = λ s e. whole_all c.args.words.now s (ap (λ t. is_asked_text t s) (sym c.in-All.is) ∙ e)

pub returns-in-Utf8 : goal.returns-in-Utf8
returns-in-Utf8 c = λ s e. whole_utf8 c.args.words.now s (ap (λ t. is_asked_text t s) (sym c.in-Utf8.is) ∙ e)

pub returns-in-None : goal.returns-in-None
returns-in-None c = λ s e. ap (λ t. is_asked_text t s) (sym c.in-None.is) ∙ e

pub returns-in-These : goal.returns-in-These
returns-in-These c = λ s e.
    let words = c.args.words.now in
    let these = c.in-These.these in
    let told = subst (λ ts. AreOthers ts words c.others_beside.result) c.deref.ensures.value c.others_beside.ensures in
    whole_these words these c.others_beside.result told s (ap (λ t. is_asked_text t s) (sym c.in-These.is) ∙ e)
