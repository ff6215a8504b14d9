use Rattle.std.proofs.Common.{sym, subst, IfSome}
use Rattle.dmn_ranges.specs.Columns.{AreWider}
use Rattle.dmn_told.proofs.coming.with_tables.Goals as goal

pub returns-in_ok-wide-in-Some-clause-before : goal.returns-in_ok-wide-in-Some-clause-before
returns-in_ok-wide-in-Some-clause-before c =
    let wide = c.in_ok-wide-in-Some.wide.items in
    subst (λ b. IfSome b (λ old. AreWider old.items wide)) (sym c.in-Some.is) (subst (λ xs. AreWider xs wide) c.deref.ensures.value c.in_ok-wide-in-Some.ensures.one)

pub returns-in_ok-wide-in-Some-clause-tables : goal.returns-in_ok-wide-in-Some-clause-tables
returns-in_ok-wide-in-Some-clause-tables c = subst (λ xs. AreWider xs c.in_ok-wide-in-Some.wide.items) c.deref-in-Some.ensures.value c.in_ok-wide-in-Some.ensures.other
