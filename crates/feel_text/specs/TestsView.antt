-- The unary tests that a `Tests` of the code stands for.
use Rattle.std.specs.Prelude.{List, map}
use Rattle.feel_text.specs.Tests.{Bound, Below, AtMost, Above, AtLeast, Test, Compares, Interval, Equals, Tests, Any, OneOf, NoneOf}
use Rattle.feel_text.specs.View.{view}
use Rattle.feel_text.specs.declared.unary.Bound as bound
use Rattle.feel_text.specs.declared.unary.Bound.TheVariants as bounds
use Rattle.feel_text.specs.declared.unary.Test as test
use Rattle.feel_text.specs.declared.unary.Test.TheVariants as kinds
use Rattle.feel_text.specs.declared.unary.TestsTree as code
use Rattle.feel_text.specs.declared.unary.TestsTree.TheVariants as forms

abbrev pub bound_view : bound.Bound → Bound
bound_view bounds.Below = Below
bound_view bounds.AtMost = AtMost
bound_view bounds.Above = Above
bound_view bounds.AtLeast = AtLeast

abbrev pub test_view : test.Test → Test
test_view (kinds.Compares b e) = Compares (bound_view b) (view e)
test_view (kinds.Interval c low high d) = Interval c (view low) (view high) d
test_view (kinds.Equals e) = Equals (view e)

abbrev pub test_views : List test.Test → List Test
test_views = map test_view

abbrev pub tests_view : code.TestsTree → Tests
tests_view forms.Any = Any
tests_view (forms.OneOf ts) = OneOf (test_views ts.items)
tests_view (forms.NoneOf ts) = NoneOf (test_views ts.items)
