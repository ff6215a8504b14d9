use Rattle.std.proofs.Common.{◌∙◌, ap, ◌+◌, sym, subst, arith, length}
use Rattle.std.proofs.lemmas.List.{length_push}
use Rattle.std.proofs.lemmas.List.Elements.{All-push}
use Rattle.dmn_analysis.specs.Cells.{AllInOrder, AreInOrder}
use Rattle.dmn_analysis.specs.declared.cell.Words.{Words}
use Rattle.dmn_analysis.proofs.words.all_words.Goals as goal

pub loop-place-preserved : goal.loop-place-preserved
loop-place-preserved c = (
  ap length c.in_ok-push.ensures.items ∙ length_push c.loop-place.all.items _ ∙ ap (λ n. n + 1) c.loop-place.invariant.0,
  subst AllInOrder (sym c.in_ok-push.ensures.items) (All-push (λ (ws : Words). AreInOrder ws.texts.items) c.loop-place.all.items c.in_ok-words.words c.loop-place.invariant.1 c.in_ok-words.ensures),
)

pub returns-clause-count : goal.returns-clause-count
returns-clause-count c = c.loop-place.invariant.0 ∙ omega (arith, c.loop-place-test.false, c.loop-place.auto.place-end)

pub returns-clause-order : goal.returns-clause-order
returns-clause-order c = c.loop-place.invariant.1
