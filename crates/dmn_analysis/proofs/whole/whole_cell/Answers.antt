use Rattle.std.proofs.Common.{sym, subst}
use Rattle.dmn_analysis.specs.Whole.{AreWholeTexts, IsWhole}
use Rattle.dmn_analysis.proofs.Wholes.{is_whole}
use Rattle.dmn_analysis.proofs.whole.whole_cell.Goals as goal

pub returns : goal.returns
returns c =
    let words = c.args.words.now in
    let asked = c.args.asked.now in
    let to = c.whole_texts-texts.result.to in
    let others = c.whole_texts-texts.result.others in
    let texts = subst (λ ws. AreWholeTexts ws asked.texts to others) c.deref.ensures.value c.whole_texts-texts.ensures in
    subst (IsWhole words asked) (sym c.with_texts.ensures) (is_whole words asked to others texts)
