use Rattle.std.proofs.Common.{◌∙◌, ap, arith}
use Rattle.desk_serving.specs.Owed.{queue_of}
use Rattle.desk_serving.specs.Waits.{with_waits}
use Rattle.desk_serving.proofs.Laning.{unput_whole, waits_unput, whole_owed}
use Rattle.desk_serving.proofs.client_lane.ClientLane.is_whole.Goals as goal

pub returns-then-has_waiting-clause-idle : goal.returns-then-has_waiting-clause-idle
returns-then-has_waiting-clause-idle g c = λ none.
    let self = c.args.self.now in let some = c.has_waiting.ensures.some c.if-has_waiting.true in absurd (omega (arith, some, self.behind none))

pub returns-clause-whole : goal.returns-clause-whole
returns-clause-whole g c = λ t.
    let self = c.args.self.now in
    ap (λ ws. (with_waits (queue_of self.client) ws).owed) (c.has_waiting.ensures.clear c.if-has_waiting.false) ∙ whole_owed self.client (c.is_whole.ensures.0 t)

pub returns-clause-idle : goal.returns-clause-idle
returns-clause-idle g c = λ none.
    let self = c.args.self.now in c.is_whole.ensures.1 (unput_whole self.client (waits_unput (queue_of self.client) self.waits.items none))

pub returns-clause-clear : goal.returns-clause-clear
returns-clause-clear g c = λ t. c.has_waiting.ensures.clear c.if-has_waiting.false
