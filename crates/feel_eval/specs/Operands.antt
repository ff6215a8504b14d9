-- Internal, cited by no public contract: what an operand and an answer of the code stand for.
use Rattle.std.specs.Prelude.{Bool, Option, Some, None}
use Rattle.feel_value.specs.Datum.{Datum}
use Rattle.feel_value.specs.Logic.{is_yes, truth_of}
use Rattle.feel_value.specs.declared.feel.Outcome.{Outcome}
use Rattle.feel_value.specs.declared.feel.Outcome.TheVariants.{Is, Limit}
use Rattle.feel_value.specs.declared.logic.Truth.{Truth}
use Rattle.feel_text.specs.Satisfied.{Answer, Told, Broken}
use Rattle.feel_eval.specs.declared.operands.Operand.{Operand}
use Rattle.feel_eval.specs.declared.operands.Operand.TheVariants.{Lent, Formed}

abbrev pub operand_value : Operand → Datum
operand_value (Lent d) = d
operand_value (Formed d) = d

-- None stands for a limit that is broken
abbrev pub outcome_of : Option Operand → Outcome
outcome_of None = Limit
outcome_of (Some o) = Is (operand_value o)

-- whether a test is true; None where a limit is broken
abbrev pub met_of : Outcome → Option Bool
met_of Limit = None
met_of (Is d) = Some (is_yes (truth_of d))

abbrev pub answer_of : Option Truth → Answer
answer_of None = Broken
answer_of (Some t) = Told t
