use Rattle.feel_text.proofs.Sieves.{none_marked}
use Rattle.feel_text.proofs.sieve.Sieve.of_values.Goals as goal

pub returns-in-Some : goal.returns-in-Some
returns-in-Some c = none_marked c.in-Some.marks c.args.values.now c.in-Some.ensures
