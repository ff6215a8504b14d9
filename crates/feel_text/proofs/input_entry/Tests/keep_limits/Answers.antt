use Rattle.std.proofs.Common.{◌∙◌, sym}
use Rattle.feel_text.proofs.WithinLimits.{tests_within}
use Rattle.feel_text.proofs.input_entry.Tests.keep_limits.Goals as goal

pub returns : goal.returns
returns c h v m = tests_within c.args.self.now v m (rw (sym c.self.view_is) (sym c.self.invariant.1 ∙ h))
