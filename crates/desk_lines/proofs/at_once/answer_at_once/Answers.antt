use Rattle.desk_lines.proofs.Ending.{ran_weaker}
use Rattle.desk_lines.proofs.at_once.answer_at_once.Goals as goal

pub returns : goal.returns
returns g c = (
  ran_weaker _ _ _ _ c.answer_lines.result (λ lines said a. c.answer_lines.ensures.keeps lines said (g.met.T.Answerer.follows c.answer_lines.new.clerk.answerer.now lines said a)) (λ lines said a. a)
      c.answer_lines.ensures.ran,
  c.answer_lines.ensures.memory,
)
