use Rattle.std.proofs.Common.{◌≡◌, drop, true}
use Rattle.feel_value.specs.Datum.{Datum}
use Rattle.feel_value.specs.Logic.{or_of}
use Rattle.feel_text.specs.Meaning.{Bindings}
use Rattle.feel_text.specs.Satisfied.{Told, joined, tested_any}
use Rattle.feel_text.specs.TestsView.{test_views}
use Rattle.dmn_analysis.specs.Classes.{is_of}
use Rattle.dmn_analysis.proofs.on_class.any.Given as goal

abbrev pub invariant-loop-test : goal.invariant-loop-test
invariant-loop-test l = (v : Datum) (m : Bindings) → is_of l.class v ≡ true → tested_any (test_views l.tests) v m ≡ joined or_of (Told l.answer) (tested_any (test_views (drop l.test-index l.tests)) v m)
