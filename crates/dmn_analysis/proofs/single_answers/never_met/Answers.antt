use Rattle.std.proofs.Common.{◌≡◌, ◌∙◌, [], subst, length}
use Rattle.std.specs.List.{All}
use Rattle.std.proofs.lemmas.List.Elements.{All-weaker}
use Rattle.dmn_analysis.specs.Claims.{NeverHits}
use Rattle.dmn_analysis.specs.Telling.{IsBehind}
use Rattle.dmn_analysis.specs.Whole.{AreWhole}
use Rattle.dmn_analysis.proofs.Answering.{never_hits}
use Rattle.dmn_analysis.proofs.single_answers.never_met.Goals as goal

pub returns : goal.returns
returns c =
    let t = c.args.table.now in
    let asked = c.args.asked.now in
    let words = c.in_ok-words.words.items in
    let cells = c.in-Some.cells.items in
    let rows = c.deref-3.result.now in
    let rules : rows ≡ t.rules = c.deref-3.ensures.value ∙ c.in_ok-rows.ensures ∙ c.rules-rules.ensures.rules in
    let long = rw c.in-Some.is at c.in_ok-cells.ensures.long in
    let whole = subst (λ ws. AreWhole ws asked cells) c.deref.ensures.value (rw c.in-Some.is at c.in_ok-cells.ensures.all) in
    let out = c.in_ok-out.out.items in
    let behind = c.in_ok-out.ensures in
    subst (λ is. All (NeverHits (length is) t.rules asked) out) c.inputs-count.ensures
    (subst (λ rs. All (NeverHits (length c.inputs-count.result.now) rs asked) out) rules
    (All-weaker (λ i. IsBehind c.deref-2.result.now rows c.deref-4.result.now i []) (NeverHits (length c.inputs-count.result.now) rows asked) (λ i b.
    never_hits words rows asked cells (length c.inputs-count.result.now) i long whole
    (subst (λ ws. IsBehind ws rows cells i []) c.deref-2.ensures.value (subst (λ cs. IsBehind c.deref-2.result.now rows cs i []) c.deref-4.ensures.value b))) out behind))
