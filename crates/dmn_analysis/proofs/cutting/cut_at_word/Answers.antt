use Rattle.std.proofs.Common.{arith, sym, subst}
use Rattle.dmn_analysis.specs.Cutting.{MakeUp, words_alone}
use Rattle.dmn_analysis.proofs.Halves.{make_up_words}
use Rattle.dmn_analysis.proofs.cutting.cut_at_word.Goals as goal

pub returns : goal.returns
returns c =
    let cell = c.args.cell in
    let at = c.args.place in
    subst (λ a. MakeUp cell a c.words_from-upper.result) (sym c.only_words-lower.ensures)
    (subst (λ b. MakeUp cell (words_alone cell.from at) b) (sym c.words_from-upper.ensures) (make_up_words cell at (omega arith) (omega arith)))
