use Rattle.std.proofs.Common.{◌≡◌, ◌∙◌, ◌≤◌, ap, subst, arith, length}
use Rattle.std.proofs.lemmas.List.{length-map}
use Rattle.dmn_table.specs.Parts.{rule_view}
use Rattle.dmn_analysis.specs.Claims.{AlwaysHit}
use Rattle.dmn_analysis.specs.Telling.{IsBehind}
use Rattle.dmn_analysis.specs.Whole.{AreWhole}
use Rattle.dmn_analysis.proofs.Answering.{always_hit}
use Rattle.dmn_analysis.proofs.always.known_to_hit.Goals as goal

pub returns : goal.returns
returns c = λ yes.
    let t = c.args.table.now in
    let asked = c.args.asked.now in
    let words = c.in_ok-words.words.items in
    let cells = c.in-Some.cells.items in
    let own = c.rules-rules.result.now in
    let rows = c.deref-3.result.now in
    let read : rows ≡ _ = c.deref-3.ensures.value ∙ c.in_ok-rows.ensures in
    let rules : rows ≡ t.rules = read ∙ c.rules-rules.ensures.rules in
    let long = rw c.in-Some.is at c.in_ok-cells.ensures.long in
    let whole = subst (λ ws. AreWhole ws asked cells) c.deref.ensures.value (rw c.in-Some.is at c.in_ok-cells.ensures.all) in
    let all = c.in_ok-all.all.items in
    let past : length rows ≤ length own = omega (arith, ap length read, length-map own rule_view) in
    let behind = rw c.in-Some-2.is at c.in_ok-behind.ensures in
    subst (λ is. AlwaysHit (length is) t.rules asked) c.inputs-count.ensures
    (subst (λ rs. AlwaysHit (length c.inputs-count.result.now) rs asked) rules
    (always_hit words rows asked cells (length c.inputs-count.result.now) (length own) all long whole past
    (subst (λ ws. IsBehind ws rows cells (length own) all) c.deref-2.ensures.value (subst (λ cs. IsBehind c.deref-2.result.now rows cs (length own) all) c.deref-4.ensures.value behind))))
