use Rattle.std.proofs.Common.{◌<◌, ◌^◌, arith}
use Rattle.desk_requests.specs.Line.{line_view}
use Rattle.desk_requests.proofs.Settling.{asked, decided}
use Rattle.desk_requests.proofs.register.Register.answer.Goals as goal

pub returns-clause-answers : goal.returns-clause-answers
returns-clause-answers c =
    let fits : c.args.number < 2 ^ 64 = omega (arith, c.ranges.number.fits) in
    decided c.args.self.now c.decide.new.decider c.settle.new.self c.args.number (line_view c.args.says.now) c.in_ok-due.due c.settle.result fits c.in_ok-due.ensures.due c.settle.ensures.settles

pub returns-clause-asks : goal.returns-clause-asks
returns-clause-asks c =
    asked c.args.self.now c.decide.new.decider c.settle.new.self c.args.number (line_view c.args.says.now) c.in_ok-due.due c.settle.result c.in_ok-due.ensures.due c.settle.ensures.settles
