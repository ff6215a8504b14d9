use Rattle.std.proofs.Common.{◌∙◌, arith}
use Rattle.feel_text.proofs.Needed.{last_lent, last_of_all}
use Rattle.feel_eval.proofs.lent.Lent.position.Goals as goal

pub returns-then-self-len : goal.returns-then-self-len
returns-then-self-len c =
    let here = c.self.inside in
    c.position_among.ensures ∙ last_lent c.args.name.now here.found.now here.needs.now here.count c.args.self.now c.self.view_is

pub returns : goal.returns
returns c =
    let here = c.self.inside in
    c.position.ensures ∙ last_of_all c.args.name.now here.needs.now here.count (omega (arith, c.if-self-len.false, c.len.ensures.number))
    ∙ last_lent c.args.name.now here.found.now here.needs.now here.count c.args.self.now c.self.view_is
