use Rattle.std.proofs.Common.{◌∙◌, sym, ap, subst, length, arith, Some}
use Rattle.std.proofs.lemmas.List.{length_push}
use Rattle.std.proofs.lemmas.Option.{slice_get-get_or, IfSome_then}
use Rattle.std.specs.List.{slice_get}
use Rattle.table_classes.specs.Classes.{IsRowOf, TellsColumn}
use Rattle.table_classes.proofs.ClassWords.{rows_more}
use Rattle.table_classes.proofs.classes.rows_of.Goals as goal

pub loop-k-preserved : goal.loop-k-preserved
loop-k-preserved c =
    let old = c.loop-k.rows.items in
    let k = c.loop-k.k in
    record {
      count = omega (arith, ap length c.in_ok-push.ensures.items, length_push old c.row_of.result, c.loop-k.invariant.count);
      told = λ rules tells. rows_more rules c.args.values.now old c.push.new.self.items c.row_of.result c.index-values-k.result (c.loop-k.invariant.told rules tells) c.in_ok-push.ensures.items
          (ap (slice_get c.args.values.now) c.loop-k.invariant.count ∙ slice_get-get_or c.args.values.now k c.index-values-k.result (omega (arith, c.loop-k-test.true, c.min-k-end.ensures)) ∙ ap Some (sym c.index-values-k.is))
          c.value.ensures.lawful
          (IfSome_then c.row_of.result c.row_of.ensures (λ row h.
          subst (λ d. IsRowOf rules (length old) d row.now) c.value.ensures.same
          (h rules (length old) (subst (λ n. TellsColumn rules n c.index-columns-k.result) (sym c.loop-k.invariant.count)
          (tells k c.index-columns-k.result (slice_get-get_or c.args.columns.now k c.index-columns-k.result (omega (arith, c.loop-k-test.true, c.min-k-end.ensures)) ∙ ap Some (sym c.index-columns-k.is)))))));
    }
