use Rattle.std.proofs.Common.{sym}
use Rattle.std.proofs.lemmas.List.{take_all}
use Rattle.desk_ranges.specs.Gives.{most_services}
use Rattle.desk_ranges.proofs.gives.looked_at.Goals as goal

pub returns-then-services-le-MOST_SERVICES : goal.returns-then-services-le-MOST_SERVICES
returns-then-services-le-MOST_SERVICES c = sym (take_all most_services c.args.services.now c.if-services-le-MOST_SERVICES.true)
