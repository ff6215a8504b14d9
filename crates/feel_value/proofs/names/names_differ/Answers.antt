use Rattle.std.proofs.Common.{◌∙◌, sym, ap}
use Rattle.feel_value.specs.Names.{names_rise}
use Rattle.feel_value.specs.View.{entries_view}
use Rattle.feel_value.proofs.ByName.{differ_told}
use Rattle.feel_value.proofs.DistinctNames.{rise_differ}
use Rattle.feel_value.proofs.names.names_differ.Goals as goal

pub returns-then-names_rise : goal.returns-then-names_rise
returns-then-names_rise c = sym (rise_differ (entries_view c.args.entries.now.items) (ap (λ xs. names_rise (entries_view xs)) (sym c.deref.ensures.value) ∙ sym c.names_rise.ensures ∙ c.if-names_rise.true))

pub returns-in-Ok : goal.returns-in-Ok
returns-in-Ok c = c.is_some.ensures ∙ differ_told (λ s. s.items) c.args.entries.now.items c.in-Ok.sorted c.in-Ok.ensures
