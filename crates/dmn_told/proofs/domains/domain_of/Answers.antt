use Rattle.dmn_ranges.specs.declared.range.ParameterRange.{ParameterRange}
use Rattle.dmn_told.proofs.Narrowing.{any_covered, covered_by_one, met_at}
use Rattle.dmn_told.proofs.domains.domain_of.Goals as goal

pub loop-place-init : goal.loop-place-init
loop-place-init c =
    let p : ParameterRange = record { range = c.any.result; members = c.new.result } in
    any_covered c.args.domains.now c.args.name.now p c.any.ensures c.new.ensures.items

pub loop-place-preserved : goal.loop-place-preserved
loop-place-preserved c =
    let ds = c.args.domains.now in
    let n = c.args.name.now in
    let d = c.index-domains-place.result in
    covered_by_one ds n d c.loop-place.parameter c.add_domain.new.parameter (λ v met. met_at ds n c.loop-place.place d c.loop-place-test.true c.index-domains-place.is v met) c.in_ok-add_domain.ensures c.loop-place.invariant
