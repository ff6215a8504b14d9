use Rattle.std.proofs.Common.{ap, refl, ◌∙◌}
use Rattle.crossbeam_deque.specs.Handles.{stealer_deque, worker_deque}
use Rattle.lanes.specs.Books.{ticket_of}
use Rattle.lanes.specs.Identities.{link, link-inj, sender_ring}
use Rattle.lanes.proofs.Carried.{merges_at}
use Rattle.lanes.proofs.ending.join_port.Goals as goal

pub absorb-requires-clause-rule : goal.absorb-requires-clause-rule
absorb-requires-clause-rule g c = merges_at ticket_of _ _ _ _ c.requires.lane.1 c.port.inside.live

pub absorb-requires-clause-table : goal.absorb-requires-clause-table
absorb-requires-clause-table g c =
    let port = c.port.inside in
    let same = (link-inj (stealer_deque port.thief) (worker_deque c.args.owner.now) (sender_ring port.sender) c.requires.lane.0.0 (ap (λ p. p.link) c.port.view_is ∙ c.requires.lane.0.1)).0 in
    (port.seated.0 ∙ ap (λ d. d.0) same, port.seated.1 ∙ ap (λ d. d.1) same, port.seated.2, port.seated.3)

pub returns-clause-rest : goal.returns-clause-rest
returns-clause-rest g c =
    let port = c.port.inside in
    let same = (link-inj (stealer_deque port.thief) (worker_deque c.args.owner.now) (sender_ring port.sender) c.requires.lane.0.0 (ap (λ p. p.link) c.port.view_is ∙ c.requires.lane.0.1)).0 in
    rw (← c.port.view_is) (ap (λ d. link d (sender_ring port.sender)) same, refl, refl)
