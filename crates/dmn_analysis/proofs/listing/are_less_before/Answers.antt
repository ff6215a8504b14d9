use Rattle.std.proofs.Common.{◌≡◌, ◌-◌, get_or, pos, subst, to_z, of_z, w64, arith}
use Rattle.std.specs.Prelude.{◌<ℤ◌}
use Rattle.std.proofs.lemmas.Int.{ints}
use Rattle.std.proofs.lemmas.Option.{slice_get-get_or}
use Rattle.dmn_analysis.proofs.Listings.{less_before}
use Rattle.dmn_analysis.proofs.listing.are_less_before.Goals as goal

pub returns : goal.returns
returns c = λ told.
    let ns = c.args.numbers.now in
    let place = c.args.place in
    let low = c.args.low in
    let same : to_z w64 (of_z w64 low) ≡ low = omega (arith, ints) in
    let one = get_or ns (place - 1) (pos 0) in
    less_before ns c.requires place one low (omega arith) (slice_get-get_or ns (place - 1) (pos 0) (omega arith)) (subst (λ x. one <ℤ x) same (c.is_smaller.ensures.smaller told))
