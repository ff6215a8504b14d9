use Rattle.std.proofs.Common.{◌≡◌, ◌∙◌, ℕ, List, IfSome, sym, ap, subst}
use Rattle.feel_value.specs.Datum.{Datum, text}
use Rattle.feel_value.specs.View.{datum_of}
use Rattle.feel_text.specs.Tests.{Tests}
use Rattle.table_classes.specs.Classes.{IsRowOf, TellsColumn}
use Rattle.table_classes.proofs.ClassWords.{row_found}
use Rattle.table_classes.proofs.classes.ColumnClasses.row_of.Goals as goal

pub returns-then-is_in : goal.returns-then-is_in
returns-then-is_in c = λ rules column told.
    (c.is_in.ensures c.if-is_in.true, row_found rules column c.args.self.now.rows.items c.deref.result.now _ c.in_ok-row.row.now c.deref.ensures.value c.in_ok-row.ensures.lookup.1 c.in_ok-row.ensures.lookup.3.0 told)

pub returns-in-Text : goal.returns-in-Text
returns-in-Text c =
    let same : text c.as_str.result.now ≡ datum_of c.args.value.now = ap text c.as_str.ensures.value ∙ sym (ap datum_of c.in-Text.is) in
    subst (λ (d : Datum). IfSome c.row_of_text.result (λ row. (rules : List (List Tests)) (column : ℕ) → TellsColumn rules column c.args.self.now → IsRowOf rules column d row.now)) same c.row_of_text.ensures
