use Rattle.std.proofs.Common.{◌≡◌, get_or, pos, subst, to_z, of_z, w64, arith}
use Rattle.std.specs.Prelude.{◌<ℤ◌}
use Rattle.std.proofs.lemmas.Int.{ints}
use Rattle.std.proofs.lemmas.Option.{slice_get-get_or}
use Rattle.dmn_analysis.proofs.Listings.{greater_from}
use Rattle.dmn_analysis.proofs.listing.are_greater_from.Goals as goal

pub returns : goal.returns
returns c = λ told.
    let ns = c.args.numbers.now in
    let place = c.args.place in
    let high = c.args.high in
    let same : to_z w64 (of_z w64 high) ≡ high = omega (arith, ints) in
    let one = get_or ns place (pos 0) in
    greater_from ns c.requires place one high (slice_get-get_or ns place (pos 0) (omega arith)) (subst (λ x. x <ℤ one) same (c.is_smaller.ensures.smaller told))
