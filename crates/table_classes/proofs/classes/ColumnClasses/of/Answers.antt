use Rattle.std.proofs.Common.{◌∙◌, sym, subst, map}
use Rattle.table_classes.specs.Classes.{TellsBlocks}
use Rattle.table_classes.proofs.classes.ColumnClasses.of.Goals as goal

pub returns : goal.returns
returns g c =
    let rules = map g.R.HasTests.tests_of c.args.rules.now in
    let column = c.args.column in
    c.in_ok-rows.ensures rules column
    (subst (TellsBlocks rules column c.deref-4.result.now) (sym c.deref-3.ensures.value)
    (subst (λ classes. TellsBlocks rules column classes c.in_ok-blocks.blocks.items) (c.deref-2.ensures.value ∙ sym c.deref-4.ensures.value) c.in_ok-blocks.ensures))
