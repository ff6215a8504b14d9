use Rattle.std.proofs.Common.{arith}
use Rattle.dmn_check.proofs.TableFaults.{told_columns, told_operator, told_none}
use Rattle.dmn_check.proofs.refused.fault_of.Goals as goal

pub returns-then-not-branch : goal.returns-then-not-branch
returns-then-not-branch c =
    told_columns c.args.table.now c.as_str.result.now c.in-Some.is_operator c.in_ok-columns_fit.field-0 c.as_str.ensures.value c.in-Some.ensures c.in_ok-columns_fit.ensures c.if-not-branch.true

pub returns-then-not-operator_fits : goal.returns-then-not-operator_fits
returns-then-not-operator_fits c =
    told_operator c.args.table.now c.as_str.result.now c.in-Some.is_operator c.in_ok-columns_fit.field-0 c.operator_fits.result c.len.result
    c.as_str.ensures.value c.in-Some.ensures c.in_ok-columns_fit.ensures c.if-not-branch.false (omega (arith, c.len.ensures, c.args.table.now.outputs.ok.0)) c.operator_fits.ensures c.if-not-operator_fits.true

pub returns : goal.returns
returns c =
    told_none c.args.table.now c.as_str.result.now c.in-Some.is_operator c.in_ok-columns_fit.field-0 c.operator_fits.result c.len.result
    c.as_str.ensures.value c.in-Some.ensures c.in_ok-columns_fit.ensures c.if-not-branch.false (omega (arith, c.len.ensures, c.args.table.now.outputs.ok.0)) c.operator_fits.ensures c.if-not-operator_fits.false
