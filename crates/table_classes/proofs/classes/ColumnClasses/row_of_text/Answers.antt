use Rattle.std.proofs.Common.{◌≡◌, ◌∙◌, true, eq-eqb, ap, arith}
use Rattle.feel_value.specs.Datum.{text}
use Rattle.feel_text.specs.Classes.{is_in_class}
use Rattle.table_classes.proofs.ClassWords.{row_found}
use Rattle.table_classes.proofs.classes.ColumnClasses.row_of_text.Goals as goal

pub returns-in-Texts : goal.returns-in-Texts
returns-in-Texts c = λ rules column told.
    let row = c.in_ok-row.row.now in
    let in_class : is_in_class row.class (text c.args.text.now) ≡ true =
    ap (λ k. is_in_class k (text c.args.text.now)) c.in-Texts.is ∙ eq-eqb _ _ (omega (arith, c.mark-mark.ensures.mark, c.if-other-mark.true)) in
    (in_class, row_found rules column c.args.self.now.rows.items c.deref.result.now _ row c.deref.ensures.value c.in_ok-row.ensures.lookup.1 c.in_ok-row.ensures.lookup.3.0 told)
