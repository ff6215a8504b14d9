use Rattle.std.proofs.Common.{◌≡◌, length, subst, true}
use Rattle.dmn_table.specs.Parts.{have_entries}
use Rattle.dmn_table.specs.Table.{Table}
use Rattle.dmn_table.proofs.EqualPlaces.{rules_have_entries}
use Rattle.dmn_table.proofs.table.Table.rules.Goals as goal

pub returns-clause-entries : goal.returns-clause-entries
returns-clause-entries c =
    let table = c.self.inside in
    subst (λ (t : Table). have_entries (length t.outputs) t.rules ≡ true) c.self.view_is
    (rules_have_entries (length table.inputs.items) table.outputs.items table.rules.items c.self.invariant.0)
