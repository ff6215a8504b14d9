use Rattle.feel_text.proofs.ReadingLaws.{expr_of_spells}
use Rattle.feel_text.proofs.laws.expressions_by_the_grammar.Goals as goal

pub returns-clause-given : goal.returns-clause-given
returns-clause-given c text found = (expr_of_spells text found).0

pub returns-clause-spelled : goal.returns-clause-spelled
returns-clause-spelled c text found = (expr_of_spells text found).1
