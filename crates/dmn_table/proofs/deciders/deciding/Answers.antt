use Rattle.std.proofs.Common.{length, map, refl}
use Rattle.dmn_table.specs.Parts.{entry_counts, rules_view}
use Rattle.dmn_table.proofs.EqualPlaces.{each_placed, fitting_distinct, have_each}
use Rattle.dmn_table.proofs.HighestHit.{zip_placed}
use Rattle.dmn_table.proofs.MadeByDeciders.{made_by_deciders}
use Rattle.dmn_table.proofs.deciders.deciding.Goals as goal

pub deciding_under-requires-clause-distinct : goal.deciding_under-requires-clause-distinct
deciding_under-requires-clause-distinct c =
    let table = c.table.inside in
    rw c.deref.ensures.value (fitting_distinct (length table.inputs.items) table.outputs.items (entry_counts table.rules.items) c.table.invariant.0)

pub returns-clause-made : goal.returns-clause-made
returns-clause-made c = λ hs found.
    let cs = c.args.table.now.outputs in
    let rs = rules_view c.args.rules.now in
    let n = length cs in
    made_by_deciders n c.args.table.now.policy _ (zip_placed n c.args.numbers.now hs (each_placed cs c.args.env.now rs hs (have_each n rs c.requires.entries) found))
