use Rattle.lanes.specs.Clients.{client_links}
use Rattle.lanes.proofs.Making.{links_kept}
use Rattle.test_lanes.proofs.tests.polled.Goals as goal

pub returns-in-Some-poll : goal.returns-in-Some-poll
returns-in-Some-poll c =
    links_kept client_links c.args.clients.now.items c.args.client c.in-Some.end.now c.poll.new.self
    c.in-Some.ensures.value c.poll.ensures.same

pub returns-in-None : goal.returns-in-None
returns-in-None c =
    links_kept client_links c.args.clients.now.items c.args.client c.in-Some.end.now c.poll.new.self
    c.in-Some.ensures.value c.poll.ensures.same
