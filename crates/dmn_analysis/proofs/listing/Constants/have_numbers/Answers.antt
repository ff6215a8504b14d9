use Rattle.std.proofs.Common.{◌≡◌, ◌∙◌, sym, ap, subst, Some, to_z, of_z, w64, rules, arith}
use Rattle.std.specs.Prelude.{◌<ℤ◌}
use Rattle.std.specs.List.{slice_get}
use Rattle.std.proofs.lemmas.Int.{ints}
use Rattle.dmn_analysis.proofs.Listings.{none_among, number_there}
use Rattle.dmn_analysis.proofs.listing.Constants.have_numbers.Goals as goal

pub returns-then-is_at : goal.returns-then-is_at
returns-then-is_at c =
    let low = c.args.low in
    let same : low ≡ c.args.high = search rules in
    let same_low : to_z w64 (of_z w64 low) ≡ low = omega (arith, ints) in
    let place = c.first_number-place.result in
    number_there c.args.self.now.numbers.items c.args.self.now.texts.items place low c.args.high same (ap (λ ns. slice_get ns place) (sym c.deref-then-low-high.ensures.value) ∙ c.is_at.ensures c.if-is_at.true ∙ ap Some same_low)

pub returns : goal.returns
returns c =
    let low = c.args.low in
    let high = c.args.high in
    let same_low : to_z w64 (of_z w64 low) ≡ low = omega (arith, ints) in
    let same_high : to_z w64 (of_z w64 high) ≡ high = omega (arith, ints) in
    none_among c.args.self.now.numbers.items c.args.self.now.texts.items c.first_number-place.result low high
    (λ k n before here. subst (λ x. n <ℤ x) same_low (c.are_less_before.ensures c.if-not-are_less_before.false k n before (ap (λ ns. slice_get ns k) c.deref-2.ensures.value ∙ here)))
    (λ k n after here. subst (λ x. x <ℤ n) same_high (c.are_greater_from.ensures c.if-not-are_greater_from.false k n after (ap (λ ns. slice_get ns k) c.deref-3.ensures.value ∙ here)))
