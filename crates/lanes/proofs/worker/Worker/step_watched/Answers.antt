use Rattle.std.proofs.Common.{arith, sym, ◌∙◌}
use Rattle.lanes.proofs.Serving.{steps_one, steps_free, steps_links, steps_length}
use Rattle.lanes.proofs.worker.Worker.step_watched.Goals as goal

pub invariant_of-self-inside : goal.invariant_of-self-inside
invariant_of-self-inside g c =
    let s = c.finish_held-stepped.ensures.steps in let self = c.self.inside in
    ((let n = steps_length _ _ _ s in let f = self.few in omega (arith, n, f, self.ports.ok.0, c.finish_held-stepped.new.ports.ok.0)), (steps_one _ _ _ s self.one, ((λ none. steps_free _ _ _ s (sym c.keeps-self-inside.ensures ∙ none)), tt)))

pub invariant_of-self-inside-in-None : goal.invariant_of-self-inside-in-None
invariant_of-self-inside-in-None g c =
    let s = c.look-stepped.ensures.steps in let self = c.self.inside in
    ((let n = steps_length _ _ _ s in let f = self.few in omega (arith, n, f, self.ports.ok.0, c.look-stepped.new.ports.ok.0)), (steps_one _ _ _ s self.one, ((λ none. steps_free _ _ _ s (sym c.keeps-self-inside-in-None.ensures ∙ none)), tt)))

pub returns-in-Some-clause-same : goal.returns-in-Some-clause-same
returns-in-Some-clause-same g c = rw (← c.self.view_is) (steps_links _ _ _ c.finish_held-stepped.ensures.steps)

pub returns-in-None-clause-same : goal.returns-in-None-clause-same
returns-in-None-clause-same g c = rw (← c.self.view_is) (steps_links _ _ _ c.look-stepped.ensures.steps)
