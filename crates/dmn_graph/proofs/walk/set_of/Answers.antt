use Rattle.std.proofs.Common.{◌∙◌, sym, ap, arith, take, get_or, ◌||◌}
use Rattle.std.specs.Prelude.{nat_eq}
use Rattle.std.proofs.lemmas.List.Folds.{list_any_more}
use Rattle.dmn_graph.specs.Reach.{has_same}
use Rattle.dmn_graph.proofs.WalkSteps.{inserted, or_swap}
use Rattle.dmn_graph.proofs.walk.set_of.Goals as goal

pub loop-place-preserved : goal.loop-place-preserved
loop-place-preserved c q =
    let i = inserted c.loop-place.set c.insert.new.self (get_or c.args.places.now c.loop-place.place-index 0) c.in_ok-insert.ensures.updates.0 q in
    let m = list_any_more (nat_eq q) c.args.places.now c.loop-place.place-index 0 (omega arith) in
    i ∙ (ap (λ b. nat_eq q (get_or c.args.places.now c.loop-place.place-index 0) || b) (c.loop-place.invariant q) ∙ (or_swap (nat_eq q (get_or c.args.places.now c.loop-place.place-index 0)) (has_same nat_eq (take c.loop-place.place-index c.args.places.now) q) ∙ sym m))
