use Rattle.std.proofs.Common.{◌∙◌, sym, ap, drop, ◌+◌, arith}
use Rattle.std.proofs.lemmas.List.{drop_all}
use Rattle.feel_value.specs.Limits.{depth}
use Rattle.feel_value.specs.View.{datum_of, items_view}
use Rattle.feel_value.proofs.FromJson.{items_after, items_after-all}
use Rattle.feel_text.specs.Meaning.{paths_of}
use Rattle.feel_value.proofs.Pairs.{item_depth}
use Rattle.feel_eval.proofs.Paths.{paths_step}
use Rattle.feel_eval.proofs.eval_paths.+path.Goals as goal

pub paths-loop-item-preserved : goal.paths-loop-item-preserved
paths-loop-item-preserved t c =
    let name = c.args.name.now in
    let vs = c.loop-item.values.items in
    c.loop-item.invariant ∙ paths_step name vs c.args.items.now c.in_ok-path.field-0 c.item-item.result c.loop-item.item-index c.item-item.is c.loop-item-test.true c.in_ok-path.ensures
    ∙ ap (λ ys. items_after ys (paths_of name (items_view (drop (c.loop-item.item-index + 1) c.args.items.now)))) (sym c.in_ok-push.ensures.items)

pub paths-returns : goal.paths-returns
paths-returns t c =
    let vs = c.loop-item.values.items in
    sym (c.loop-item.invariant ∙ ap (λ xs. items_after vs (paths_of c.args.name.now (items_view xs))) (drop_all c.loop-item.item-index c.args.items.now (omega arith)) ∙ items_after-all vs)

pub paths-path-requires : goal.paths-path-requires
paths-path-requires t c =
    let less = item_depth c.args.items.now c.loop-item.item-index c.item-item.result c.loop-item-test.true in
    (omega (arith, c.requires, less, ap (λ v. depth (datum_of v)) c.item-item.is), tt)
