use Rattle.std.proofs.Common.{◌∙◌, sym, ap}
use Rattle.dmn_analysis.specs.Cells.{is_one_of}
use Rattle.dmn_analysis.proofs.TextOrder.{lies_wider}
use Rattle.std.proofs.lemmas.Bool.{leb-true}
use Rattle.dmn_analysis.proofs.within.others_are_within.Goals as goal

pub returns-then-first-from : goal.returns-then-first-from
returns-then-first-from c = λ told ws s e.
    let from = c.in-Between-Between.from in
    let to = c.in-Between-Between.to in
    let first = c.in-Between-Between.first in
    let end = c.in-Between-Between.end in
    ap (λ o. is_one_of ws o s) c.in-Between-Between.is-1
    ∙ lies_wider ws from to first end s c.if-first-from.true (leb-true to end told) (ap (λ o. is_one_of ws o s) (sym c.in-Between-Between.is-0) ∙ e)
