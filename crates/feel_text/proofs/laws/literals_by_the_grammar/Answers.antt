use Rattle.feel_text.proofs.ReadingLaws.{literal_of_spells}
use Rattle.feel_text.proofs.laws.literals_by_the_grammar.Goals as goal

pub returns-clause-given : goal.returns-clause-given
returns-clause-given c text found = (literal_of_spells text found).0

pub returns-clause-spelled : goal.returns-clause-spelled
returns-clause-spelled c text found = (literal_of_spells text found).1
