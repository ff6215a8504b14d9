use Rattle.std.proofs.Common.{◌≡◌, ◌∙◌, ap, sym, subst, true}
use Rattle.feel_text.specs.Meaning.{den}
use Rattle.feel_text.specs.View.{view}
use Rattle.dmn_ranges.specs.Ranges.{covers, scope}
use Rattle.dmn_ranges.specs.Steps.{outcomes}
use Rattle.dmn_ranges.specs.declared.outcomes.Outcomes.{Outcomes}
use Rattle.dmn_ranges.proofs.Sound.{sound}
use Rattle.dmn_ranges.proofs.expression.range_of_expression.Goals as goal

pub returns : goal.returns
returns c = λ m fits. (
    let P : Outcomes → Type 0 = λ o. covers o (den (view c.args.expr.now) m) ≡ true in
    subst P (sym (c.outcomes.ensures ∙ ap (λ xs. outcomes (view c.args.expr.now) xs) c.in_ok-names.ensures)) (sound (view c.args.expr.now) (scope c.args.names.now) m fits)
    )
