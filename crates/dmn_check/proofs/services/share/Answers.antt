use Rattle.std.proofs.Common.{◌≡◌, ◌∙◌, ◌+◌, ◌<◌, ℕ, suc, List, Bool, sym, ap, drop, get_or, length, ◌||◌, true, false, drop-cons, add-one}
use Rattle.std.specs.Prelude.{nat_eq}
use Rattle.dmn_graph.specs.Reach.{has_same}
use Rattle.dmn_plan.specs.ServicesByPlace.{do_share}
use Rattle.dmn_check.proofs.services.share.Goals as goal

-- the next place is among the others, or a later one is
next_shares : (xs others : List ℕ) (i : ℕ) (b : Bool) → i < length xs → has_same nat_eq others (get_or xs i 0) ≡ b → do_share (drop i xs) others ≡ (b || do_share (drop (i + 1) xs) others)
next_shares xs others i b l e = rw (add-one, drop-cons xs i 0) (ap (λ t. t || do_share (drop (suc i) xs) others) e)

pub returns-then-contains : goal.returns-then-contains
returns-then-contains c =
    sym (c.loop-place.invariant ∙ next_shares c.args.places.now c.args.others.now c.loop-place.place-index true c.loop-place-test.true
    (sym (c.in_ok-set.ensures (get_or c.args.places.now c.loop-place.place-index 0)) ∙ (sym c.contains.ensures ∙ c.if-contains.true)))

pub loop-place-preserved : goal.loop-place-preserved
loop-place-preserved c =
    c.loop-place.invariant ∙ next_shares c.args.places.now c.args.others.now c.loop-place.place-index false c.loop-place-test.true
    (sym (c.in_ok-set.ensures (get_or c.args.places.now c.loop-place.place-index 0)) ∙ (sym c.contains.ensures ∙ c.if-contains.false))
