use Rattle.std.proofs.Common.{sym}
use Rattle.std.proofs.lemmas.Result.{err_from_is_err_and}
use Rattle.feel_text.specs.Token as token_specs
use Rattle.feel_text.specs.Token.{views}
use Rattle.feel_text.proofs.Forms.{interval_found, high_fails}
use Rattle.feel_text.proofs.unary_reader.interval.Goals as goal

pub returns-in_err-high : goal.returns-in_err-high
returns-in_err-high c =
    let p = err_from_is_err_and c.from_residual-in_err-high.result c.from_residual-in_err-high.ensures.1 in
    rw (p.1, p.2) (high_fails c.in_err-high.field-0.0 (token_specs.view c.args.first.now) c.in-Some.closed_low (views c.args.tokens.now) _ _ _ (sym c.in-Some.ensures) c.in_ok-low.ensures.found c.in_err-high.ensures)

pub returns : goal.returns
returns c =
    rw (c.into_inner-low.ensures, c.into_inner-high.ensures)
    (interval_found (token_specs.view c.args.first.now) c.in-Some.closed_low c.in_ok-high.closed_high (views c.args.tokens.now) _ _ _ _ _ (sym c.in-Some.ensures) c.in_ok-low.ensures.found c.in_ok-high.ensures)
