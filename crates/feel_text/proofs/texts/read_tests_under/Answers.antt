use Rattle.std.specs.Prelude.{Err}
use Rattle.std.proofs.lemmas.Result.{err_from_is_err_and}
use Rattle.feel_text.specs.Readings.{tests_of}
use Rattle.feel_text.specs.Spells.{SpellsTests}
use Rattle.feel_text.specs.TestsView.{tests_view}
use Rattle.feel_text.proofs.ReadingLaws.{answers_none, tests_of_spells, only_spelled}
use Rattle.feel_text.proofs.texts.read_tests_under.Goals as goal

pub returns-in_err-tree-clause-none : goal.returns-in_err-tree-clause-none
returns-in_err-tree-clause-none c =
    let p = err_from_is_err_and c.from_residual.result c.from_residual.ensures.1 in
    rw (p.1, p.2) (answers_none (tests_of c.args.text.now) (SpellsTests c.args.text.now) (Err c.in_err-tree.field-0.0) (tests_of_spells c.args.text.now) c.in_err-tree.ensures)

pub of-requires : goal.of-requires
of-requires c = record { text = c.args.text.now; spells = (tests_of_spells c.args.text.now (tests_view c.in_ok-tree.tree)).0 c.in_ok-tree.ensures }

pub returns-clause-found : goal.returns-clause-found
returns-clause-found c = rw c.in_ok-of.ensures ((tests_of_spells c.args.text.now (tests_view c.in_ok-tree.tree)).0 c.in_ok-tree.ensures)

pub returns-clause-alone : goal.returns-clause-alone
returns-clause-alone c = rw c.in_ok-of.ensures (only_spelled (tests_of c.args.text.now) (SpellsTests c.args.text.now) (tests_view c.in_ok-tree.tree) (tests_of_spells c.args.text.now) c.in_ok-tree.ensures)
