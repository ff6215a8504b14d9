use Rattle.std.proofs.Common.{◌∙◌, sym, subst}
use Rattle.std.specs.List.{All}
use Rattle.std.proofs.lemmas.List.Elements.{All-push}
use Rattle.dmn_analysis.specs.Telling.{IsBehind, IsMaskedOn}
use Rattle.dmn_analysis.specs.declared.found.Mask.{Mask}
use Rattle.dmn_analysis.proofs.single_answers.masks.Goals as goal

pub loop-rule-preserved : goal.loop-rule-preserved
loop-rule-preserved c =
    let t = c.args.table.now in
    let P : Mask → Type 0 = λ (k : Mask). IsMaskedOn t c.args.words.now c.args.cells.now k.rule in
    let mask : Mask = record { rule = c.loop-rule.rule; behind = c.in-Some.behind } in
    let behind = rw c.in-Some.is at c.in_ok-behind.ensures in
    let one : P mask = record { first = c.in_ok-others.others.items; before = c.in_ok-others.ensures; behind = subst (λ rs. IsBehind c.args.words.now rs c.args.cells.now c.loop-rule.rule c.in_ok-others.others.items) (c.deref.ensures.value ∙ c.in_ok-rows.ensures ∙ c.rules.ensures.rules) behind } in
    subst (All P) (sym c.in_ok-push.ensures.items) (All-push P c.loop-rule.found.items mask c.loop-rule.invariant one)
