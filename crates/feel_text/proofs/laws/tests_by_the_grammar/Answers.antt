use Rattle.feel_text.proofs.ReadingLaws.{tests_of_spells}
use Rattle.feel_text.proofs.laws.tests_by_the_grammar.Goals as goal

pub returns-clause-given : goal.returns-clause-given
returns-clause-given c text found = (tests_of_spells text found).0

pub returns-clause-spelled : goal.returns-clause-spelled
returns-clause-spelled c text found = (tests_of_spells text found).1
