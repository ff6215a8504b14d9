use Rattle.std.proofs.Common.{◌∙◌, ◌<◌, ◌+◌, ap, arith, drop, length, subst, sym, take}
use Rattle.std.proofs.lemmas.Bool.Decides.{nat_tests}
use Rattle.std.proofs.lemmas.List.{length-drop}
use Rattle.desk_checking.proofs.Requesting.{Passed, none_passed, one_at_most, one_passed}
use Rattle.desk_checking.proofs.requests.pass_lines.Goals as goal

pub loop-index-init : goal.loop-index-init
loop-index-init c = (
  omega arith,
  omega arith,
  λ model stands. none_passed model c.args.text.now c.args.gate.now c.new-refused.result.items c.new-refused.ensures.items stands,
)

pub loop-index-preserved : goal.loop-index-preserved
loop-index-preserved c =
    let text = c.args.text.now in
    let rest = c.loop-index.rest.now in
    let line = c.split_at.result.0.now in
    let left = c.split_at.result.1.now in
    let some : 0 < length rest = grind (arith, nat_tests, c.is_empty.ensures, c.if-is_empty.false) in
    let first = c.split_at.ensures.front ∙ ap (λ n. take n rest) c.line_length.ensures.length in
    let others = c.split_at.ensures.back ∙ ap (λ n. drop n rest) c.line_length.ensures.length in
    let behind = c.behind_newline-rest.ensures in (
      omega (arith, ap length behind, length-drop 1 left, c.split_at.ensures.back_len, some, c.loop-index.invariant.0),
      omega (arith, c.counted-count.ensures, one_at_most c.in_ok-found.found, c.loop-index.invariant.1),
      λ model stands. subst (λ t. Passed model text (c.loop-index.index + 1) t c.pass_line.new.gate c.add_refused.new.refused.items c.counted-count.result) (sym behind)
          (one_passed model text c.loop-index.index rest line left c.loop-index.gate c.pass_line.new.gate c.loop-index.refused.items c.add_refused.new.refused.items c.loop-index.count c.counted-count.result c.in_ok-found.found
          (c.loop-index.invariant.2 model stands) c.counted-count.ensures some first others c.in_ok-found.ensures c.in_ok-add_refused.ensures),
    )
