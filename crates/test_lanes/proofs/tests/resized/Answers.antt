use Rattle.lanes.specs.Clients.{client_links}
use Rattle.lanes.proofs.Making.{links_kept}
use Rattle.test_lanes.proofs.tests.resized.Goals as goal

pub returns-in-Ok : goal.returns-in-Ok
returns-in-Ok c =
    links_kept client_links c.args.clients.now.items c.args.client c.in-Some.end.now c.resize.new.self
    c.in-Some.ensures.value c.resize.ensures.same

pub returns-in-Err : goal.returns-in-Err
returns-in-Err c =
    links_kept client_links c.args.clients.now.items c.args.client c.in-Some.end.now c.resize.new.self
    c.in-Some.ensures.value c.resize.ensures.same
