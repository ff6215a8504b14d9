use Rattle.std.proofs.Common.{◌∙◌, ap, arith}
use Rattle.std.proofs.lemmas.Int.{ints}
use Rattle.feel_value.specs.Comparison.{less}
use Rattle.feel_value.specs.View.{datum_of}
use Rattle.dmn_analysis.proofs.OnClasses.{above_number, not_above_number}
use Rattle.dmn_analysis.proofs.class.numbers_above.Goals as goal

pub returns-then-n-low : goal.returns-then-n-low
returns-then-n-low c = λ v h. ap (λ d. less (datum_of d) v) c.in-Number.is ∙ above_number c.args.low c.args.high c.in-Number.n v (omega (arith, ints)) h

pub returns-then-high-n : goal.returns-then-high-n
returns-then-high-n c = λ v h. ap (λ d. less (datum_of d) v) c.in-Number.is ∙ not_above_number c.args.low c.args.high c.in-Number.n v (omega (arith, ints)) h
