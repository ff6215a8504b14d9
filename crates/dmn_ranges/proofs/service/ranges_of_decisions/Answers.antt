use Rattle.std.proofs.Common.{◌∙◌, sym}
use Rattle.dmn_ranges.proofs.SoundServices.{within_length}
use Rattle.dmn_ranges.proofs.SoundDecisions.{decisions_told}
use Rattle.dmn_ranges.proofs.service.ranges_of_decisions.Goals as goal

pub returns : goal.returns
returns c =
    let items = c.args.items.now in
    let service = c.args.service.now in
    λ m s values plan within. decisions_told c.in_ok-along.along.told.items m s items service values plan c.requires.places (sym (within_length c.args.domains.now values within) ∙ c.requires.domains) c.in_ok-along.ensures.count (c.in_ok-along.ensures.told values within).0
