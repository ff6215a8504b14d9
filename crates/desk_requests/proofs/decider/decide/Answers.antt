use Rattle.desk_requests.proofs.decider.decide.Goals as goal

pub returns-in-Request-clause-due : goal.returns-in-Request-clause-due
returns-in-Request-clause-due g c = rw c.in-Request.is c.decide_request.ensures.due
