use Rattle.std.proofs.Common.{sym, ap, subst, length, map, arith}
use Rattle.std.proofs.lemmas.List.{length_push}
use Rattle.table_classes.specs.Classes.{TellsColumn}
use Rattle.table_classes.proofs.ClassWords.{column_more}
use Rattle.table_classes.proofs.classes.classes_of_columns.Goals as goal

pub loop-column-preserved : goal.loop-column-preserved
loop-column-preserved g c =
    let old = c.loop-column.columns.items in
    let rules = map g.R.HasTests.tests_of c.args.rules.now in
    let last = c.in_ok-classes.classes in (
      omega (arith, ap length c.in_ok-push.ensures.items, length_push old last, c.loop-column.invariant.0),
      column_more rules old c.push.new.self.items last c.loop-column.invariant.1 c.in_ok-push.ensures.items
          (subst (λ n. TellsColumn rules n last) (sym c.loop-column.invariant.0) c.in_ok-classes.ensures),
    )
