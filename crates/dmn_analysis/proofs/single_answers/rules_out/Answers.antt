use Rattle.std.proofs.Common.{ℕ, [], sym, subst, map}
use Rattle.std.specs.List.{All}
use Rattle.std.proofs.lemmas.List.Elements.{All-push}
use Rattle.dmn_analysis.specs.Telling.{IsBehind}
use Rattle.dmn_analysis.proofs.single_answers.rules_out.Goals as goal

pub loop-rule-preserved : goal.loop-rule-preserved
loop-rule-preserved c =
    let P : ℕ → Type 0 = λ i. IsBehind c.args.words.now c.args.rows.now c.args.cells.now i [] in
    let one : P c.loop-rule.rule = subst (λ none. IsBehind c.args.words.now c.args.rows.now c.args.cells.now c.loop-rule.rule none) c.new-none.ensures.items (rw c.in-Some.is at c.in_ok-behind.ensures) in
    subst (All P) (sym c.in_ok-push.ensures.items) (All-push P c.loop-rule.out.items c.loop-rule.rule c.loop-rule.invariant one)
