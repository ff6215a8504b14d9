use Rattle.std.proofs.Common.{not, ap, ◌∙◌}
use Rattle.dmn_check.proofs.TableFaults.{fits_as_written}
use Rattle.dmn_check.proofs.rules.is_unfit.Goals as goal

pub returns : goal.returns
returns c = ap not (c.rule_fits.ensures ∙ fits_as_written c.args.inputs c.args.outputs c.args.rule.now)
