use Rattle.std.proofs.Common.{◌∷◌, [], ◌<◌, length, take, get_or, subst, sym, arith, List, ℕ}
use Rattle.std.proofs.lemmas.Bool.Decides.{when_true, when_false}
use Rattle.std.proofs.lemmas.List.{take_more}
use Rattle.dmn_graph.specs.WalkState.{HasMet, IsUnlisted}
use Rattle.dmn_graph.proofs.WalkSteps.{met_then, unlisted_at}
use Rattle.dmn_graph.proofs.walk.Walk.meet_all.Goals as goal

pub returns-then-not-branch : goal.returns-then-not-branch
returns-then-not-branch c =
    unlisted_at c.args.self.now c.loop-place.self c.args.places.now (take c.loop-place.place-index c.args.places.now) c.loop-place.place-index (omega arith) c.loop-place.invariant
    (when_false (HasMet c.loop-place.self (get_or c.args.places.now c.loop-place.place-index 0 ∷ []) c.meet.new.self) (IsUnlisted c.loop-place.self (get_or c.args.places.now c.loop-place.place-index 0 ∷ []))
    c.if-not-branch.true c.in_ok-meet.ensures)

pub loop-place-preserved : goal.loop-place-preserved
loop-place-preserved c =
    let l : c.loop-place.place-index < length c.args.places.now = omega arith in
    subst (λ (qs : List ℕ). HasMet c.args.self.now qs c.meet.new.self) (sym (take_more c.args.places.now c.loop-place.place-index 0 l))
    (met_then c.args.self.now c.loop-place.self c.meet.new.self (take c.loop-place.place-index c.args.places.now) (get_or c.args.places.now c.loop-place.place-index 0 ∷ []) c.loop-place.invariant
    (when_true (HasMet c.loop-place.self (get_or c.args.places.now c.loop-place.place-index 0 ∷ []) c.meet.new.self) (IsUnlisted c.loop-place.self (get_or c.args.places.now c.loop-place.place-index 0 ∷ []))
    c.if-not-branch.false c.in_ok-meet.ensures))
