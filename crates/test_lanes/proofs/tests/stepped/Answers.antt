use Rattle.lanes.specs.Workers.{worker_links}
use Rattle.lanes.proofs.Making.{links_kept}
use Rattle.test_lanes.proofs.tests.stepped.Goals as goal

pub returns : goal.returns
returns c =
    links_kept worker_links c.args.workers.now.items c.args.worker c.in-Some.end.now c.step.new.self
    c.in-Some.ensures.value c.step.ensures.same
