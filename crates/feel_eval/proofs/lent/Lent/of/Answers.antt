use Rattle.std.proofs.Common.{◌∙◌, sym}
use Rattle.feel_text.proofs.Needed.{lent_none}
use Rattle.feel_eval.proofs.lent.Lent.of.Goals as goal

pub returns-then-not-are_found : goal.returns-then-not-are_found
returns-then-not-are_found c = sym (lent_none c.args.found.now c.args.needs.now (sym c.are_found.ensures ∙ c.if-not-are_found.true))
