use Rattle.std.proofs.Common.{◌∙◌, sym, ap, subst}
use Rattle.std.specs.Option.{IfSome}
use Rattle.dmn_table.specs.Classes.{input_entries}
use Rattle.dmn_table.proofs.WordHits.{TellsFirst, left_out, none_left_out}
use Rattle.table_classes.specs.Classes.{TellsColumns}
use Rattle.dmn_table.proofs.may_hit.may_hit.Goals as goal

pub returns-in_default : goal.returns-in_default
returns-in_default c = none_left_out c.args.values.now c.args.rules.now (record { words = c.new.result }) c.new.ensures.items

pub returns : goal.returns
returns c =
    let rules = c.args.rules.now in
    left_out c.args.values.now rules c.in_ok-rows.rows.items (record { words = c.in_ok-words.words })
    (c.in_ok-rows.ensures (input_entries rules) (subst (TellsColumns (input_entries rules)) (sym c.deref.ensures.value) (rw c.in-Some.is at c.requires)))
    (subst (λ rows. TellsFirst rows c.in_ok-words.words.items) c.deref-2.ensures.value c.in_ok-words.ensures)
