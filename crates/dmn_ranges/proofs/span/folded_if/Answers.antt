use Rattle.std.proofs.Common.{◌+◌, Some, sym, subst}
use Rattle.dmn_ranges.specs.Numbers.{AreNear}
use Rattle.dmn_ranges.specs.declared.span.Span.{Span}
use Rattle.dmn_ranges.proofs.Spans.{near_folded}
use Rattle.dmn_ranges.proofs.span.folded_if.Goals as goal

pub returns-in-Some-Some-clause-near : goal.returns-in-Some-Some-clause-near
returns-in-Some-Some-clause-near c = λ n h. (
    let near = near_folded c.args.function n c.in-Some-Some.a c.in-Some-Some.b (subst (λ o. AreNear n o) c.in-Some-Some.is-0 h) (subst (λ o. AreNear 1 o) c.in-Some-Some.is-1 c.requires.b) in
    subst (λ (s : Span). AreNear (n + 1) (Some s)) (sym c.folded_span.ensures) near
    )
