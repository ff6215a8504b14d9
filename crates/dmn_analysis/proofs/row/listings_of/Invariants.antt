use Rattle.std.proofs.Common.{◌≡◌, length}
use Rattle.dmn_analysis.specs.Listing.{AreListings}
use Rattle.dmn_analysis.proofs.row.listings_of.Given as goal

abbrev pub invariant-loop-one : goal.invariant-loop-one
invariant-loop-one l = AreListings l.listings.items l.tests × (length l.listings.items ≡ l.one-index)
