use Rattle.std.proofs.Common.{◌∙◌, ◌+◌, sym, ap, subst, length, Some, inl, inr, arith}
use Rattle.std.specs.Prelude.{IfSome}
use Rattle.std.specs.List.{slice_get}
use Rattle.std.proofs.lemmas.List.{length_push}
use Rattle.std.proofs.lemmas.Option.{same_Some}
use Rattle.dmn_analysis.specs.Listing.{IsListing}
use Rattle.dmn_analysis.specs.declared.listing.Listing.{Listing}
use Rattle.dmn_analysis.proofs.Places.{at_place, pushed}
use Rattle.dmn_analysis.proofs.row.listings_of.Goals as goal

pub loop-one-preserved : goal.loop-one-preserved
loop-one-preserved c = (
  λ k l ts there here.
      let old = c.loop-one.listings.items in
      let tests = c.args.tests.now in
      let i = c.loop-one.one-index in
      elim (pushed old c.in_ok-listing.listing (Some l) k (ap (λ xs. slice_get xs k) (sym c.in_ok-push.ensures.items) ∙ there)) [
        | inl before ↦ c.loop-one.invariant.0 k l ts before here
        | inr at ↦
            let one = c.one-item.result in
            let is : IsListing l one = subst (λ found. IfSome found (λ (x : Listing). IsListing x one)) at.1 c.in_ok-listing.ensures in
            subst (IsListing l) (same_Some one ts (sym (at_place tests i one c.loop-one-test.true c.one-item.is) ∙ ap (slice_get tests) (sym (at.0 ∙ c.loop-one.invariant.1)) ∙ here)) is
      ],
  ap length c.in_ok-push.ensures.items ∙ length_push c.loop-one.listings.items c.in_ok-listing.listing ∙ ap (λ n. n + 1) c.loop-one.invariant.1,
)
