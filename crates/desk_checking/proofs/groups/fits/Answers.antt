use Rattle.std.proofs.Common.{ap, ◌∙◌, sym, map, arith, inl, inr}
use Rattle.std.specs.List.{slice_get}
use Rattle.std.proofs.lemmas.Option.{slice_get_within}
use Rattle.dmn_table.specs.Parts.{rule_view}
use Rattle.desk_checking.proofs.Grouping.{below_next}
use Rattle.desk_checking.proofs.groups.fits.Goals as goal

pub loop-place-preserved : goal.loop-place-preserved
loop-place-preserved c = λ i r s less at there here.
    elim (below_next i c.loop-place.place less) [
      | inl earlier ↦ c.loop-place.invariant i r s earlier at there here
      | inr same ↦
          c.fits_one-one.ensures c.if-not-one.false r s (ap (slice_get c.args.groups.now) (sym same) ∙ at) (ap (slice_get (map rule_view c.args.rules.now)) (sym same) ∙ there) here
    ]

pub returns : goal.returns
returns c = λ yes i r s at there here.
    c.loop-place.invariant i r s (omega (arith, slice_get_within c.args.groups.now i c.args.number at, c.loop-place-test.false)) at there here
