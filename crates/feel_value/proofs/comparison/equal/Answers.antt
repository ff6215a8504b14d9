use Rattle.std.proofs.Common.{◌∙◌, sym, ap, ap₂}
use Rattle.feel_value.specs.Comparison.{equal}
use Rattle.feel_value.proofs.Laws.{equal_itself}
use Rattle.feel_value.proofs.comparison.equal.Goals as goal

pub returns-clause-itself : goal.returns-clause-itself
returns-clause-itself c = λ e.
    c.same_value.ensures ∙ ap₂ equal c.value.ensures.same c.value-2.ensures.same
    ∙ ap (equal c.args.a.now) (sym e) ∙ equal_itself c.args.a.now
