use Rattle.std.proofs.Common.{◌∙◌, ap}
use Rattle.feel_value.specs.Logic.{decided, or_of}
use Rattle.feel_text.specs.Satisfied.{Told, joined, tested}
use Rattle.feel_text.specs.TestsView.{test_view}
use Rattle.dmn_analysis.specs.Listing.{is_constant_among}
use Rattle.dmn_analysis.proofs.listing.add_test.Goals as goal

pub returns : goal.returns
returns c = λ told v m. ap (λ t. joined or_of (Told (decided (is_constant_among c.args.constants.now v))) (tested (test_view t) v m)) c.in-Equals.is ∙ c.in_ok-is.ensures told v m
