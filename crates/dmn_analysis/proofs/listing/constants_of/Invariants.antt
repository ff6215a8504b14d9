use Rattle.std.proofs.Common.{◌≡◌, drop}
use Rattle.feel_value.specs.Datum.{Datum}
use Rattle.feel_value.specs.Logic.{decided, or_of}
use Rattle.feel_text.specs.Meaning.{Bindings}
use Rattle.feel_text.specs.Satisfied.{Told, joined, tested_any}
use Rattle.feel_text.specs.TestsView.{test_views}
use Rattle.dmn_analysis.specs.Listing.{is_constant_among}
use Rattle.dmn_analysis.proofs.listing.constants_of.Given as goal

abbrev pub invariant-loop-test : goal.invariant-loop-test
invariant-loop-test l = (v : Datum) (m : Bindings) → tested_any (test_views l.tests) v m ≡ joined or_of (Told (decided (is_constant_among l.constants v))) (tested_any (test_views (drop l.test-index l.tests)) v m)
