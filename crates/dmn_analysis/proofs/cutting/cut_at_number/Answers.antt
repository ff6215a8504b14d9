use Rattle.std.proofs.Common.{◌≡◌, ◌∙◌, rules, arith, sym, subst, ap, ap₂, pos, FitsSigned, w64, to_z, of_z}
use Rattle.std.specs.Prelude.{◌<ℤ◌, ◌≤ℤ◌, ◌-ℤ◌}
use Rattle.std.proofs.lemmas.Int.{ints}
use Rattle.dmn_analysis.specs.Cutting.{MakeUp, numbers_alone, with_low}
use Rattle.dmn_analysis.proofs.Halves.{make_up_numbers}
use Rattle.dmn_analysis.proofs.cutting.cut_at_number.Goals as goal

pub returns : goal.returns
returns c =
    let cell = c.args.cell in
    let n = c.args.number in
    let low_fits : FitsSigned w64 cell.low = search rules in
    let high_fits : FitsSigned w64 cell.high = search rules in
    let n_fits : FitsSigned w64 n = c.ranges.number in
    let same_low : to_z w64 (of_z w64 cell.low) ≡ cell.low = omega (arith, ints) in
    let same_high : to_z w64 (of_z w64 cell.high) ≡ cell.high = omega (arith, ints) in
    let same_n : to_z w64 (of_z w64 n) ≡ n = omega (arith, ints) in
    let above : cell.low <ℤ n = omega (arith, ints) in
    let within : n ≤ℤ cell.high = omega (arith, ints) in
    let same_end : to_z w64 (of_z w64 (to_z w64 (of_z w64 n) -ℤ pos 1)) ≡ (n -ℤ pos 1) = omega (arith, ints) in
    let lower = c.only_numbers-lower.ensures ∙ ap₂ numbers_alone same_low same_end in
    let upper = c.numbers_from-upper.ensures ∙ ap (with_low cell) same_n in
    subst (λ a. MakeUp cell a c.numbers_from-upper.result) (sym lower)
    (subst (λ b. MakeUp cell (numbers_alone cell.low (n -ℤ pos 1)) b) (sym upper) (make_up_numbers cell n above within))
