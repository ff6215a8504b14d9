use Rattle.std.proofs.Common.{◌∙◌, ap, arith}
use Rattle.std.proofs.lemmas.Int.{ints}
use Rattle.feel_value.specs.Comparison.{less}
use Rattle.feel_value.specs.View.{datum_of}
use Rattle.dmn_analysis.proofs.OnClasses.{below_number, not_below_number}
use Rattle.dmn_analysis.proofs.class.numbers_below.Goals as goal

pub returns-then-high-n : goal.returns-then-high-n
returns-then-high-n c = λ v h. ap (λ d. less v (datum_of d)) c.in-Number.is ∙ below_number c.args.low c.args.high c.in-Number.n v (omega (arith, ints)) h

pub returns-then-n-low : goal.returns-then-n-low
returns-then-n-low c = λ v h. ap (λ d. less v (datum_of d)) c.in-Number.is ∙ not_below_number c.args.low c.args.high c.in-Number.n v (omega (arith, ints)) h
