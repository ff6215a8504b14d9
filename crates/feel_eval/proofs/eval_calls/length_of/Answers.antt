use Rattle.std.proofs.Common.{◌∙◌, sym, ap, pos}
use Rattle.feel_value.specs.Datum.{number}
use Rattle.feel_value.specs.Outcome.{held}
use Rattle.feel_eval.proofs.ListMembers.{count_view}
use Rattle.feel_eval.proofs.eval_calls.length_of.Goals as goal

pub returns : goal.returns
returns c = c.natural.ensures ∙ ap (λ n. held (number (pos n))) (sym (count_view c.args.items.now))
