use Rattle.std.proofs.Common.{◌-◌, arith, sym, subst}
use Rattle.dmn_analysis.specs.Cutting.{MakeUp, between_alone}
use Rattle.dmn_analysis.proofs.Halves.{make_up_between}
use Rattle.dmn_analysis.proofs.cutting.cut_between.Goals as goal

pub returns : goal.returns
returns c =
    let cell = c.args.cell in
    let place = c.args.place in
    let from = c.in-Between.from in
    let to = c.in-Between.to in
    subst (λ a. MakeUp cell a c.with_others-upper.result) (sym c.only_between-lower.ensures)
    (subst (λ b. MakeUp cell (between_alone from (place - 1)) b) (sym c.with_others-upper.ensures) (make_up_between cell from to place c.in-Between.is (omega arith) (omega arith)))
