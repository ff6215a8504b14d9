use Rattle.std.proofs.Common.{◌∙◌, sym}
use Rattle.desk_checking.proofs.Deciders.{not_empty}
use Rattle.desk_checking.proofs.deciding.add_unless.Goals as goal

pub returns : goal.returns
returns c = λ none. absurd (not_empty c.args.idle.now.items c.args.rule (sym c.in_ok-push.ensures.items ∙ none))
