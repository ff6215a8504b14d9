use Rattle.std.proofs.Common.{◌∙◌, sym, ap, Some}
use Rattle.std.proofs.lemmas.Option.{slice_get-get_or}
use Rattle.table_classes.proofs.classes.misses_entry.Goals as goal

pub returns-in-Some : goal.returns-in-Some
returns-in-Some c = λ unmet.
    let tests = c.in-Some.tests.now in
    record {
      entry = tests;
      there = slice_get-get_or c.args.rule.now c.args.column tests c.in-Some.ensures.lookup.3.0 ∙ ap Some (sym c.in-Some.ensures.lookup.1);
      misses = c.misses.ensures unmet;
    }
