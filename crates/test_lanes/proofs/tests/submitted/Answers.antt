use Rattle.lanes.specs.Clients.{client_links}
use Rattle.lanes.proofs.Making.{links_kept}
use Rattle.test_lanes.proofs.tests.submitted.Goals as goal

pub returns : goal.returns
returns c =
    links_kept client_links c.args.clients.now.items c.args.client c.in-Some.end.now c.submit.new.self
    c.in-Some.ensures.value c.submit.ensures.same
