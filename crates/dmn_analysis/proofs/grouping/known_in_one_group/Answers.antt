use Rattle.std.proofs.Common.{◌≡◌, ◌∙◌, sym, ap, refl, subst, arith, length, map}
use Rattle.std.proofs.lemmas.List.{length-map}
use Rattle.dmn_table.specs.Parts.{rule_view}
use Rattle.dmn_analysis.specs.Searching.{Scene}
use Rattle.dmn_analysis.specs.Whole.{AreWhole}
use Rattle.dmn_analysis.proofs.GroupSearches.{groups_known}
use Rattle.dmn_analysis.proofs.grouping.known_in_one_group.Goals as goal

pub go_through-requires-clause-groups : goal.go_through-requires-clause-groups
go_through-requires-clause-groups c =
    let rules = c.rules-rules.result.now in
    omega (arith, c.if-groups-rules.false, ap length (c.deref-3.ensures.value ∙ c.in_ok-rows.ensures), length-map rules rule_view)

pub returns : goal.returns
returns c = λ yes.
    let t = c.args.table.now in
    let asked = c.args.asked.now in
    let words = c.in_ok-words.words.items in
    let cells = c.in-Some.cells.items in
    let first = c.in_ok-left.left.items in
    let rules = c.rules-rules.ensures.rules in
    let inputs = c.inputs-count.ensures in
    let s : Scene = record { words = words; rules = t.rules; chosen = length t.rules; first = first; whole = cells } in
    let long = rw c.in-Some.is at c.in_ok-cells.ensures.long in
    let whole = rw c.in-Some.is at c.in_ok-cells.ensures.all in
    let same_count : length t.rules ≡ length c.rules-rules.result.now = ap length (sym rules) ∙ length-map c.rules-rules.result.now rule_view in
    let in_rows : t.rules ≡ c.deref-3.result.now = sym rules ∙ sym c.in_ok-rows.ensures ∙ sym c.deref-3.ensures.value in
    let knows = c.in_ok-known.ensures yes s (sym c.deref-2.ensures.value) in_rows refl refl in
    groups_known t words asked cells first c.args.groups.now (long ∙ ap length inputs) (subst (λ ws. AreWhole ws asked cells) c.deref.ensures.value whole)
    (λ r less. c.in_ok-left.ensures.each r (omega (arith, less, same_count))) knows
