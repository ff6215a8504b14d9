use Rattle.std.proofs.Common.{◌≡◌, ◌∙◌, sym, ap, subst, ℕ, List, Some, true, false, map, option_map}
use Rattle.std.specs.Option.{IfSome}
use Rattle.std.specs.List.{slice_get}
use Rattle.feel_text.specs.Meaning.{Bindings}
use Rattle.table_classes.specs.Classes.{TellsColumns}
use Rattle.dmn_table.specs.Classes.{input_entries}
use Rattle.dmn_table.specs.MayHit.{LeavesOut, LeavesOutOf}
use Rattle.dmn_table.specs.Table.{Table}
use Rattle.dmn_table.proofs.WordHits.{left_out_of}
use Rattle.dmn_table.proofs.table.Table.may_hit.Goals as goal

pub may_hit-requires : goal.may_hit-requires
may_hit-requires c = subst (λ rs. IfSome c.self.inside.classes (λ columns. TellsColumns (input_entries rs) columns.items)) (sym c.deref.ensures.value) c.self.invariant.3

pub returns : goal.returns
returns c =
    subst (λ rs. LeavesOutOf rs c.args.values.now c.in_ok-some.some) (ap (λ (t : Table). t.rules) c.self.view_is)
    (left_out_of c.args.values.now c.self.inside.rules.items c.in_ok-some.some (subst (λ rs. LeavesOut rs c.args.values.now c.in_ok-some.some) c.deref.ensures.value c.in_ok-some.ensures))
