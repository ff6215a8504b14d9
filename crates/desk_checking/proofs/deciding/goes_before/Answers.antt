use Rattle.std.proofs.Common.{◌<◌, subst, arith}
use Rattle.desk_checking.specs.Deciding.{IsPicked}
use Rattle.desk_checking.proofs.Deciders.{first_decides, second_decides, same_number}
use Rattle.desk_checking.proofs.deciding.goes_before.Goals as goal

pub returns-then-other-rule : goal.returns-then-other-rule
returns-then-other-rule c = λ yes r s there here before.
    let t = c.args.table.now in
    let m = c.args.env.now in
    let is = (rw c.in-Some.is at c.in_ok-number.ensures) r s there here in
    let picked = subst (IsPicked t.outputs m c.args.other c.args.rule r s) (same_number c.in-Some.number c.args.rule yes) is in
    second_decides t.outputs m c.args.other c.args.rule r s picked.rest c.if-other-rule.true picked.picked before

pub returns : goal.returns
returns c = λ yes r s there here before.
    let t = c.args.table.now in
    let m = c.args.env.now in
    let less : c.args.rule < c.args.other = grind (arith, c.if-other-rule.false, c.requires.apart) in
    let is = (rw c.in-Some-2.is at c.in_ok-number-2.ensures) s r here there in
    let picked = subst (IsPicked t.outputs m c.args.rule c.args.other s r) (same_number c.in-Some-2.number c.args.rule yes) is in
    first_decides t.outputs m c.args.rule c.args.other s r picked.rest less picked.picked before
