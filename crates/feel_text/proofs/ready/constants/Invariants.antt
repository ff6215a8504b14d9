use Rattle.std.proofs.Common.{◌≡◌, drop}
use Rattle.feel_value.specs.Datum.{Datum}
use Rattle.feel_value.specs.Logic.{or_of, decided}
use Rattle.feel_value.specs.View.{items_view}
use Rattle.feel_text.specs.Meaning.{Bindings}
use Rattle.feel_text.specs.Satisfied.{Told, tested_any, joined, is_member}
use Rattle.feel_text.specs.TestsView.{test_views}
use Rattle.feel_text.proofs.ready.constants.Given as goal

abbrev pub invariant-loop-test : goal.invariant-loop-test
invariant-loop-test l = (v : Datum) (m : Bindings) → tested_any (test_views l.tests) v m ≡ joined or_of (Told (decided (is_member v (items_view l.found.items)))) (tested_any (test_views (drop l.test-index l.tests)) v m)
