use Rattle.std.proofs.lemmas.Result.{on_ok_weaker}
use Rattle.desk_requests.specs.Line.{line_view}
use Rattle.desk_serving.proofs.Hearing.{heard_other, heard_said}
use Rattle.desk_serving.proofs.Settling.{can_be_done, decided}
use Rattle.desk_serving.proofs.state.State.settle_heard.Goals as goal

pub returns-in_default-clause-hears : goal.returns-in_default-clause-hears
returns-in_default-clause-hears g c =
    let none = rw c.in_default.is at c.requires.due in
    on_ok_weaker c.add_refusal.result (λ is it e. heard_other c.args.self.now c.args.number c.args.heard.now it _ _ e none is) c.add_refusal.ensures

pub settle-requires-clause-can : goal.settle-requires-clause-can
settle-requires-clause-can g c =
    let is = rw c.in-Some.is at c.requires.due in can_be_done c.args.self.now c.args.number c.in-Some.due (line_view is.0) is.2

pub returns-clause-hears : goal.returns-clause-hears
returns-clause-hears g c =
    let is = rw c.in-Some.is at c.requires.due in let old = c.args.self.now in
    on_ok_weaker c.settle.result (λ done it e.
    heard_said old c.settle.new.self c.args.number c.args.heard.now is.0 it _ _ e is.1 (decided old c.settle.new.self c.args.number (line_view is.0) c.in-Some.due _ _ is.2 done)) c.settle.ensures.settles
