use Rattle.std.proofs.Common.{◌++◌, ap, ◌∙◌}
use Rattle.std.specs.List.{flat_map}
use Rattle.desk_lines.specs.Lines.{ended}
use Rattle.desk_wire.proofs.session.answer_to.Goals as goal

pub returns-clause-answers : goal.returns-clause-answers
returns-clause-answers g c = λ lines said it after kept n.
    let answered = c.in_ok-answer_heard.ensures.answers lines said it after (c.in_ok-heard.ensures it kept) n in
    (answered.0, answered.1, answered.2 ∙ ap (λ text. text ++ flat_map ended answered.0) c.in_ok-said.ensures.items)
