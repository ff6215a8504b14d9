use Rattle.std.proofs.Common.{sym, subst}
use Rattle.dmn_analysis.specs.Cutting.{MakeUp, kept_of}
use Rattle.dmn_analysis.proofs.Halves.{make_up_kinds}
use Rattle.dmn_analysis.proofs.cutting.cut_cell.Goals as goal

pub returns-in-Kinds : goal.returns-in-Kinds
returns-in-Kinds c =
    let cell = c.args.cell in
    let kinds = c.in-Kinds.kinds in
    subst (λ a. MakeUp cell a c.of_other_kinds.result) (sym c.of_kinds.ensures)
    (subst (λ b. MakeUp cell (kept_of cell kinds) b) (sym c.of_other_kinds.ensures) (make_up_kinds cell kinds))
