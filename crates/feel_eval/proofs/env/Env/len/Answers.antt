use Rattle.std.proofs.Common.{arith}
use Rattle.feel_eval.proofs.env.Env.len.Goals as goal

pub overflow_add-result : goal.overflow_add-result
overflow_add-result c = omega (arith, c.lent_len.ensures.small, c.listed_len.ensures.small)

pub overflow_add-result-2 : goal.overflow_add-result-2
overflow_add-result-2 c = omega (arith, c.lent_len.ensures.small, c.listed_len.ensures.small, c.added_len.ensures.small)
