-- The rules fit the columns, so each rule that hits has an entry for each output.
use Rattle.std.proofs.Common.{arith, eq-eqb, nat_eq, vec_len, true≢false, ◌≡◌, [], length, true, Some, sym, ap, ◌∙◌, option_map, subst, IfOk}
use Rattle.dmn_table.specs.Faults.{columns_fit}
use Rattle.dmn_table.specs.Hits.{hits}
use Rattle.dmn_table.specs.Parts.{names_of, entry_counts, table_of}
use Rattle.dmn_table.specs.Result.{table_result}
use Rattle.dmn_table.specs.RuleOutputs.{rules_view}
use Rattle.dmn_table.specs.Table.{Table}
use Rattle.dmn_table.proofs.EqualPlaces.{entries_of_hits, fitting_distinct}
use Rattle.dmn_table.proofs.FromRules.{by_policy, none_behind, values_behind}
use Rattle.dmn_table.proofs.decision.decide.Goals as goal

pub result_of-requires-clause-entries : goal.result_of-requires-clause-entries
result_of-requires-clause-entries c =
    let m = c.args.env.now in
    let table = c.table.inside in
    let outputs = c.deref-3.result.now in
    let found = rules_view c.deref-2.result.now in
    let whole : Table = table_of table.policy table.inputs.items table.outputs.items table.rules.items in
    let fits : columns_fit (length table.inputs.items) (names_of outputs) (entry_counts table.rules.items) ≡ true = rw c.deref-3.ensures.value c.table.invariant.0 in
    let are_hits : Some found ≡ hits whole m =
    ap (λ xs. Some (rules_view xs)) c.deref-2.ensures.value ∙ sym (ap (option_map (λ v. rules_view v.items)) c.in-Some.is) ∙ c.in_ok-rules.ensures ∙ ap (λ t. hits t m) (sym c.table.view_is) in
    let behind = values_behind whole m found are_hits in
    entries_of_hits (length table.inputs.items) outputs table.rules.items m behind.0 found fits behind.1

pub result_of-requires-clause-distinct : goal.result_of-requires-clause-distinct
result_of-requires-clause-distinct c =
    let table = c.table.inside in
    rw c.deref-3.ensures.value (fitting_distinct (length table.inputs.items) table.outputs.items (entry_counts table.rules.items) c.table.invariant.0)

pub returns : goal.returns
returns c =
    let m = c.args.env.now in
    let table = c.table.inside in
    let found = rules_view c.deref-2.result.now in
    let whole : Table = table_of table.policy table.inputs.items c.deref-3.result.now table.rules.items in
    let same : whole ≡ c.args.table.now = rw c.deref-3.ensures.value c.table.view_is in
    let are_hits : Some found ≡ hits whole m =
    ap (λ xs. Some (rules_view xs)) c.deref-2.ensures.value ∙ sym (ap (option_map (λ v. rules_view v.items)) c.in-Some.is) ∙ c.in_ok-rules.ensures ∙ ap (λ t. hits t m) (sym same) in
    let some : found ≡ [] → ⊥ = λ none.
    let empty : length c.in-Some.rules.items ≡ 0 = ap length (sym c.deref-2.ensures.value) ∙ none_behind c.deref-2.result.now none in
    let test : nat_eq (vec_len c.in-Some.rules) 0 ≡ true = eq-eqb _ _ (omega (arith, c.in-Some.rules.ok.0)) in
    absurd (true≢false (sym test ∙ sym c.if-is_empty.ensures)) in
    subst (λ d. IfOk c.result_of.result (λ o. o ≡ d)) (by_policy whole m found some are_hits ∙ ap (λ t. table_result t m) same) c.result_of.ensures

pub defaults-requires : goal.defaults-requires
defaults-requires c =
    let table = c.table.inside in
    rw c.deref.ensures.value (fitting_distinct (length table.inputs.items) table.outputs.items (entry_counts table.rules.items) c.table.invariant.0)
